-- Which devices a thread is done with, and which handles.
use Rattle.std.specs.Prelude.{ℕ, Bool, not, ◌||◌, ◌==◌, List, is_none}
use Rattle.std.specs.List.{list_any}
use Rattle.bd_base.specs.declared.id.DevId.{DevId}
use Rattle.bd_base.specs.declared.id.HandleId.{HandleId}
use Rattle.bd_base.specs.declared.setup.Setup.{Setup}
use Rattle.bd_machine.specs.BlockMap.{home}
use Rattle.bd_machine.specs.Registry.{handle_of}
use Rattle.bd_machine.specs.Same.{same_dev}
use Rattle.bd_machine.specs.Users.{dev_of, is_base_handle}
use Rattle.bd_machine.specs.View.{View}

-- another thread is the device's home, or it was destructed
abbrev pub is_done_with : Setup → ℕ → List DevId → ℕ → Bool
is_done_with setup me destructed n = not (home setup (dev_of n) == me) || list_any (same_dev (dev_of n)) destructed

-- the handle is a base handle, or isn't open on this thread
abbrev pub is_settled : Setup → View → HandleId → Bool
is_settled setup v id = is_base_handle setup id || is_none (handle_of v.handles id)
