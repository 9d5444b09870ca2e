-- The commands of a configuration, done in order; those whose base isn't there wait for it.
use Rattle.std.specs.Prelude.{ℕ, zero, suc, ◌+◌, Bool, false, cond, not, List, [], ◌∷◌, ◌++◌, length, map, codes, position, slice_get, remove, Option, None, Some, is_none, Result, Ok, Err}
use Rattle.bd_base.specs.declared.job.Script.{Script}
use Rattle.bd_base.specs.declared.request.Errno.{Errno}
use Rattle.bd_base.specs.declared.setup.Setup.{Setup}
use Rattle.bd_base.specs.declared.setup.Waiting.{Waiting}
use Rattle.bd_config.specs.declared.command.Command.{Command}
use Rattle.bd_config.specs.declared.command.Command.TheVariants as commands
use Rattle.bd_devices.specs.Devices.{no_devices}
use Rattle.bd_machine.specs.Registry.{device_named}
use Rattle.bd_building.specs.Disks.{file_of, other_disks, own_blocks}
use Rattle.bd_building.specs.Made.{made}
use Rattle.bd_building.specs.Rows.{base_name_of}
use Rattle.bd_building.specs.declared.waiter.Waiter.{Waiter}

-- what the commands so far came to: the devices, and the commands that wait, in order
pub record Progress : Type 0 where
  pub setup : Setup
  pub waiting : List Waiter

-- what comes of commands: the progress, or the first refusal with its command's index
abbrev pub Outcome : Type 0
Outcome = Result Progress (ℕ × Errno)

-- no device of this name stands
abbrev pub is_absent : Setup → Option (List ℕ) → Bool
is_absent setup None = false
is_absent setup (Some base) = is_none (device_named setup base)

-- the command's base isn't there
abbrev pub must_wait : Setup → Command → Bool
must_wait setup command = is_absent setup (base_name_of command)

abbrev pub then_on : Outcome → (Progress → Outcome) → Outcome
then_on (Ok progress) next = next progress
then_on (Err refusal) next = Err refusal

-- the progress with this setup; a refusal is that of the command of this index
abbrev pub with_setup : Progress → ℕ → Result Setup Errno → Outcome
with_setup progress index (Ok setup) = Ok (record progress { setup = setup })
with_setup progress index (Err errno) = Err (index, errno)

-- ---- one command

abbrev pub put_off : Progress → ℕ → Command → Progress
put_off progress index command = record progress { waiting = progress.waiting ++ record { index = index; command = command } ∷ [] }

-- a command is done, or waits
abbrev pub begun : Progress → ℕ → Command → ℕ → Outcome
begun progress index command disk = cond (must_wait progress.setup command) (Ok (put_off progress index command)) (with_setup progress index (made progress.setup command disk))

-- ---- commands that wait

-- the place of the first command that waits and whose base stands
abbrev pub ready : Progress → Option ℕ
ready progress = position (λ (w : Waiter). not (must_wait progress.setup w.command)) progress.waiting

abbrev pub without : Progress → ℕ → Progress
without progress place = record progress { waiting = remove progress.waiting place }

abbrev pub resumed : Progress → ℕ → Option Waiter → Outcome
resumed progress place None = Ok progress
resumed progress place (Some w) = with_setup (without progress place) w.index (made progress.setup w.command 0)

-- the command at this place, if it is one, is done, and then what is ready after it
abbrev pub resumed_at : (Progress → Outcome) → Progress → Option ℕ → Outcome
resumed_at next progress None = Ok progress
resumed_at next progress (Some place) = then_on (resumed progress place (slice_get progress.waiting place)) next

-- the first that waits and whose base stands is done, then the first of those that are left, so many times at most
abbrev pub settled_within : ℕ → Progress → Outcome
settled_within zero progress = Ok progress
settled_within (suc n) progress = resumed_at (settled_within n) progress (ready progress)

-- the same until none is ready: each that is done waits no longer
abbrev pub settled : Progress → Outcome
settled progress = settled_within (length progress.waiting) progress

-- ---- commands in order

-- the command of this index is done, or waits; then those that waited for what it made
abbrev pub stepped : Progress → ℕ → Command → ℕ → Outcome
stepped progress index command disk = then_on (begun progress index command disk) settled

-- these commands in order, of which the first has this index, where the disks that they open have these blocks, in order
abbrev pub after_all : ℕ → Progress → List Command → List ℕ → Outcome
after_all index progress [] disks = Ok progress
after_all index progress (command ∷ commands) disks =
    then_on (stepped progress index command (own_blocks (file_of command) disks)) (λ next. after_all (index + 1) next commands (other_disks (file_of command) disks))

abbrev pub nothing_yet : ℕ → Progress
nothing_yet threads = record { setup = no_devices threads; waiting = [] }

-- what the commands of a configuration come to on this number of threads, where the disks that they open have these blocks, in order
abbrev pub configured : ℕ → List Command → List ℕ → Outcome
configured threads commands disks = after_all 0 (nothing_yet threads) commands disks

-- ---- the setup

abbrev pub name_or_empty : Option (List ℕ) → List ℕ
name_or_empty None = []
name_or_empty (Some name) = name

-- the method of a command that may wait
abbrev pub method_of : Command → List ℕ
method_of (commands.Passthru base name) = codes "bdev_passthru_create"
method_of (commands.Split base count megabytes) = codes "bdev_split_create"
method_of (commands.Delay base name average_read p99_read average_write p99_write) = codes "bdev_delay_create"
method_of (commands.Error base) = codes "bdev_error_create"
method_of _ = []

abbrev pub waiting_of : Waiter → Waiting
waiting_of w = record { index = w.index; method = method_of w.command; base = name_or_empty (base_name_of w.command) }

-- the setup of these devices with these scripts, and with the commands that still wait
abbrev pub finished : Progress → List Script → Setup
finished progress scripts = record progress.setup { waiting = map waiting_of progress.waiting; scripts = scripts }
