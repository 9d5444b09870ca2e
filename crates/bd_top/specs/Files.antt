-- What is read of a file, and why it isn't.
use Rattle.std.specs.Prelude.{ℕ, ◌<◌, ◌≤◌, List, length}
use Rattle.bd_outside.specs.File.{Told, Untold, NoFile, Content, IsAbsent, IsWhole}
use Rattle.bd_outside.specs.Host.{HostState, FailsAt, Misses}
use Rattle.bd_top.specs.declared.files.ReadError.{ReadError}
use Rattle.bd_top.specs.declared.files.ReadError.TheVariants.{Absent, TooLong, Failed, OutOfMemory}

-- the most bytes that a file may have
abbrev pub max_file : ℕ
max_file = 8388608

-- these bytes are a file whole, where the host tells it, and it isn't too long
pub record IsRead (file : Told) (bytes : List ℕ) : Type 0 where
  pub whole : IsWhole file bytes
  pub short : length bytes ≤ max_file

-- the file has more bytes than it may have, or the host doesn't tell
abbrev pub IsTooLong : Told → Type 0
IsTooLong Untold = Unit {0}
IsTooLong NoFile = ⊥
IsTooLong (Content file) = max_file < length file

-- why the file of a name isn't read; out of memory is the one free answer
abbrev pub ReadCause : HostState → HostState → List ℕ → ReadError → Type 0
ReadCause old new name Absent = IsAbsent (old.told name) × Misses old new name
ReadCause old new name TooLong = IsTooLong (old.told name)
ReadCause old new name Failed = FailsAt old new name
ReadCause old new name OutOfMemory = Unit {0}
