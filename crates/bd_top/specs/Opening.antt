-- What is done of a configuration's commands over the disks that they open, and why it isn't.
use Rattle.std.specs.Prelude.{◌≡◌, ℕ, ℤ, List, Ok, Err, string_bytes}
use Rattle.bd_base.specs.Errno.{number_of}
use Rattle.bd_base.specs.declared.request.Errno.{Errno}
use Rattle.bd_building.specs.Disks.{file_of}
use Rattle.bd_building.specs.Progress.{Progress, configured, stepped}
use Rattle.bd_building.specs.declared.building.BuildError.{BuildError}
use Rattle.bd_building.specs.declared.building.BuildError.TheVariants as builds
use Rattle.bd_config.specs.Commands.{minus}
use Rattle.bd_config.specs.declared.command.Command.{Command}
use Rattle.bd_outside.specs.File.{Told, IsAbsent}
use Rattle.bd_outside.specs.Host.{HostState, FailsAt, Misses}
use Rattle.bd_top.specs.declared.fault.Fault.{Fault}
use Rattle.bd_top.specs.declared.fault.Fault.TheVariants.{NoFile, ReadFault, Method, OutOfMemory}
use Rattle.bd_top.specs.Disks.{AreDisksOf, MayGive}

-- ---- done

-- the command of this index was done, with a disk of blocks that it may have
pub record IsStep (told : List ℕ → Told) (progress : Progress) (index : ℕ) (command : Command) (next : Progress) : Type 0 where
  pub blocks : ℕ
  pub may : MayGive told (file_of command) blocks
  pub is : stepped progress index command blocks ≡ Ok next

-- the commands were done in order, with disks of blocks that they may have
pub record AreDone (told : List ℕ → Told) (threads : ℕ) (commands : List Command) (devices : Progress) : Type 0 where
  pub disks : List ℕ
  pub may : AreDisksOf told commands disks
  pub is : configured threads commands disks ≡ Ok devices

-- ---- not done

-- the command of this index, or one that waited for what it made, is refused, with a disk of blocks that it may have
pub record IsStepRefused (told : List ℕ → Told) (progress : Progress) (index : ℕ) (command : Command) (place : ℕ) (code : ℤ) : Type 0 where
  pub blocks : ℕ
  pub may : MayGive told (file_of command) blocks
  pub errno : Errno
  pub first : stepped progress index command blocks ≡ Err (place, errno)
  pub is : code ≡ minus (number_of errno)

-- no command is refused
abbrev pub NeverRefused : ℕ → ℤ → Type 0
NeverRefused index code = ⊥

-- why commands aren't done: a file that they open isn't there, the host failed at it, one of them is refused, or out of memory
abbrev pub DoingCause : HostState → HostState → (List ℕ → Type 0) → (ℕ → ℤ → Type 0) → Fault → Type 0
DoingCause old new AreOpened AreRefused OutOfMemory = Unit {0}
DoingCause old new AreOpened AreRefused (NoFile name) = AreOpened (string_bytes name) × IsAbsent (old.told (string_bytes name)) × Misses old new (string_bytes name)
DoingCause old new AreOpened AreRefused (ReadFault name) = AreOpened (string_bytes name) × FailsAt old new (string_bytes name)
DoingCause old new AreOpened AreRefused (Method index code) = AreRefused index code
DoingCause old new AreOpened AreRefused _ = ⊥

-- the fault of a command that is refused, or out of memory
abbrev pub IsBuildFault : BuildError → Fault → Type 0
IsBuildFault builds.OutOfMemory fault = fault ≡ OutOfMemory
IsBuildFault (builds.Refused index errno) fault = fault ≡ Method index (minus (number_of errno))
