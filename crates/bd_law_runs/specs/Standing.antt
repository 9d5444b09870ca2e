-- What a thread's open requests stand on: handles that it has open, and channels.
use Rattle.std.specs.Prelude.{◌≡◌, ℕ, Bool, true, ◌&&◌, List, None, is_some}
use Rattle.std.specs.List.{list_all, list_any}
use Rattle.bd_base.specs.declared.act.Entry.{Entry}
use Rattle.bd_base.specs.declared.id.DevId.{DevId}
use Rattle.bd_base.specs.declared.setup.Setup.{Setup}
use Rattle.bd_machine.specs.declared.state.Handle.{Handle}
use Rattle.bd_machine.specs.declared.state.Open.{Open}
use Rattle.bd_machine.specs.declared.state.State.{State}
use Rattle.bd_machine.specs.Aborts.{is_below}
use Rattle.bd_machine.specs.BlockMap.{StandsOnEarlier}
use Rattle.bd_machine.specs.Content.{Told}
use Rattle.bd_machine.specs.Registry.{references}
use Rattle.bd_machine.specs.Run.{IsRun, state_after}
use Rattle.bd_machine.specs.Same.{same_dev, same_handle}
use Rattle.bd_machine.specs.View.{part_of, view}

-- the request's handle is among these, on the request's device
abbrev pub has_handle : List Handle → Open → Bool
has_handle handles o = list_any (λ (h : Handle). same_handle h.id o.handle && same_dev h.dev o.dev) handles

-- after each entry of a run, each open request's handle is open on its thread
abbrev pub RequestsHaveHandles : Type 0
RequestsHaveHandles = (setup : Setup) (told : Told) (es : List Entry) → IsRun setup told es → (t : ℕ) → list_all (has_handle (view (state_after setup told es) t).handles) (part_of (state_after setup told es) t).requests ≡ true

-- the thread has an open request that has the device below
abbrev pub is_used_by : Setup → State → ℕ → DevId → Bool
is_used_by setup s t dev = list_any (λ (o : Open). is_below setup o.dev dev) (part_of s t).requests

-- after each entry of a run, a thread has a channel of each device below an open request of it; but between an open and its get, and between a put and its close
abbrev pub RequestsHaveChannels : Type 0
RequestsHaveChannels = (setup : Setup) (told : Told) (es : List Entry) → StandsOnEarlier setup → IsRun setup told es → (state_after setup told es).registry.between ≡ None
    → (t : ℕ) (dev : DevId) → is_used_by setup (state_after setup told es) t dev ≡ true → is_some (references (state_after setup told es).registry t dev) ≡ true
