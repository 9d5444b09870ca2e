-- What a host tells: its counts, its files and the disks that it opened.
use Rattle.std.specs.Prelude.{◌≡◌, ℕ, ◌≤◌, List, Option}
use Rattle.bd_outside.specs.Count.{Rises}
use Rattle.bd_outside.specs.Disk.{DiskState, closing_of}
use Rattle.bd_outside.specs.File.{Told}
use Rattle.bd_outside.specs.Opening.{open_row, AddsOpening, openings_closed}
use Rattle.bd_outside.specs.declared.opening.Opening.{Opening}

-- how often it failed at the file of a name, how often it found no file of that name, what it tells of that file,
-- and the disks that it opened, one row for each opening, if it tells them;
-- a host that keeps one count for all names tells that count of each
pub record HostState : Type 0 where
  pub faults : List ℕ → ℕ
  pub absences : List ℕ → ℕ
  pub told : List ℕ → Told
  pub openings : Option (List Opening)

-- it tells the same of each file
abbrev pub TellsTheSame : HostState → HostState → Type 0
TellsTheSame old new = (name : List ℕ) → new.told name ≡ old.told name

-- a later state of the same host: it tells the same of each file, and no count fell
pub record IsLater (old new : HostState) : Type 0 where
  pub told : TellsTheSame old new
  pub faults : (name : List ℕ) → old.faults name ≤ new.faults name
  pub absences : (name : List ℕ) → old.absences name ≤ new.absences name

-- it failed at the file of this name
abbrev pub FailsAt : HostState → HostState → List ℕ → Type 0
FailsAt old new name = Rises (old.faults name) (new.faults name)

-- it found no file of this name
abbrev pub Misses : HostState → HostState → List ℕ → Type 0
Misses old new name = Rises (old.absences name) (new.absences name)

-- it opened a disk: a row for it stands at its place, or openings aren't told any longer
abbrev pub Opens : HostState → HostState → List ℕ → DiskState → Type 0
Opens old new name disk = AddsOpening old.openings new.openings (open_row name disk.blocks) disk.place

-- it closed a disk: the row at its place has what the disk had
abbrev pub Closes : HostState → HostState → List ℕ → DiskState → Type 0
Closes old new name disk = new.openings ≡ openings_closed old.openings disk.place name (closing_of disk)
