-- The devices that lie on a file, in the order in which they were made.
use Rattle.std.specs.Prelude.{◌≡◌, ℕ, ◌+◌, ◌≤◌, true, cond, List, [], ◌∷◌, ◌++◌, length, Option, Some, None, is_some, slice_get}
use Rattle.std.specs.List.{AllByRecursion}
use Rattle.bd_base.specs.declared.device.DevRow.{DevRow}
use Rattle.bd_base.specs.declared.id.DevId.{DevId}
use Rattle.bd_base.specs.declared.setup.Setup.{Setup}
use Rattle.bd_config.specs.declared.command.Command.{Command}
use Rattle.bd_config.specs.declared.command.Command.TheVariants as commands
use Rattle.bd_machine.specs.BlockMap.{is_aio_kind, is_base_kind}
use Rattle.bd_machine.specs.Users.{dev_of}
use Rattle.bd_building.specs.Progress.{Progress}
use Rattle.bd_building.specs.Rows.{base_name_of}
use Rattle.bd_building.specs.declared.waiter.Waiter.{Waiter}

-- an aio device: its number, the name of its file, how many bytes a block has, and how many blocks it has
pub record AioDevice : Type 0 where
  pub dev : DevId
  pub file : Option (List ℕ)
  pub size : ℕ
  pub blocks : ℕ

-- ---- the aio devices of a setup

-- the device of this number, which has this row
abbrev pub aio_at : ℕ → DevRow → AioDevice
aio_at n row = record { dev = dev_of n; file = row.file; size = row.size; blocks = row.blocks }

-- the aio devices among these rows, of which the first has this number
abbrev pub aio_from : ℕ → List DevRow → List AioDevice
aio_from n [] = []
aio_from n (row ∷ rows) = cond (is_aio_kind row.kind) (aio_at n row ∷ aio_from (n + 1) rows) (aio_from (n + 1) rows)

-- the aio devices of a setup, by their numbers
abbrev pub aio_devices : Setup → List AioDevice
aio_devices setup = aio_from 0 setup.devices

-- the aio device that a command makes where so many devices stand and the file that it opens has this number of blocks; none for a command that makes no such device
abbrev pub aio_of : ℕ → Command → ℕ → List AioDevice
aio_of n (commands.Aio name file size depth) disk = record { dev = dev_of n; file = Some file; size = size; blocks = disk } ∷ []
aio_of n _ disk = []

-- ---- what holds of all progress

-- each command that waits stands on another device
abbrev pub AllWaitForBase : List Waiter → Type 0
AllWaitForBase waiting = AllByRecursion (λ (w : Waiter). is_some (base_name_of w.command) ≡ true) waiting

-- no malloc, null or aio device stands on another
abbrev pub AreBasesAlone : Setup → Type 0
AreBasesAlone setup = (n : ℕ) (row : DevRow) → slice_get setup.devices n ≡ Some row → is_base_kind row.kind ≡ true → row.base ≡ None

-- each command that waits stands on another device, and no base device does
pub record IsPlain (progress : Progress) : Type 0 where
  pub waiting : AllWaitForBase progress.waiting
  pub alone : AreBasesAlone progress.setup

-- the next progress is plain too. It has the aio devices that stood, then these, and no other; and at least as many devices more as these are
pub record Grows (progress : Progress) (added : List AioDevice) (next : Progress) : Type 0 where
  pub plain : IsPlain next
  pub more : length progress.setup.devices + length added ≤ length next.setup.devices
  pub devices : aio_devices next.setup ≡ aio_devices progress.setup ++ added
