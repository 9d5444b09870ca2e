-- What a host tells of its openings after disks were closed.
use Rattle.std.specs.Prelude.{◌≡◌, ℕ, List, [], ◌∷◌, Option, unwrap_or}
use Rattle.bd_base.specs.declared.id.DevId.{DevId}
use Rattle.bd_disks.specs.Rows.{disk_of}
use Rattle.bd_outside.specs.Disk.{DiskState, closing_of}
use Rattle.bd_outside.specs.Host.{HostState, TellsTheSame}
use Rattle.bd_outside.specs.Opening.{openings_closed}
use Rattle.bd_outside.specs.declared.opening.Opening.{Opening}

-- it tells the same of each file, and its counts stand
pub record KeepsCounts (old new : HostState) : Type 0 where
  pub told : TellsTheSame old new
  pub faults : new.faults ≡ old.faults
  pub absences : new.absences ≡ old.absences

-- the name of the file of a device's disk: that of its first row; no bytes where it has none
abbrev pub name_in : List (DevId × List ℕ) → DevId → List ℕ
name_in names dev = unwrap_or (disk_of dev names) []

-- what is told after a device's disk was closed by its file's name
abbrev pub closing_one : {D : Type 0} → (D → DiskState) → List (DevId × List ℕ) → DevId × D → Option (List Opening) → Option (List Opening)
closing_one state names row openings = openings_closed openings (state row.1).place (name_in names row.0) (closing_of (state row.1))

-- after these disks were closed, one after the other
abbrev pub closing_each : {D : Type 0} → (D → DiskState) → List (DevId × List ℕ) → List (DevId × D) → Option (List Opening) → Option (List Opening)
closing_each state names [] openings = openings
closing_each state names (row ∷ rows) openings = closing_each state names rows (closing_one state names row openings)

-- after the disks of these threads were closed, thread after thread
abbrev pub closing_all : {D : Type 0} → (D → DiskState) → List (DevId × List ℕ) → List (List (DevId × D)) → Option (List Opening) → Option (List Opening)
closing_all state names [] openings = openings
closing_all state names (own ∷ threads) openings = closing_all state names threads (closing_each state names own openings)
