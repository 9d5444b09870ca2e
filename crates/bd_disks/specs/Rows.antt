-- The disks of a thread, each with its device, in order.
use Rattle.std.specs.Prelude.{◌≡◌, ◌==◌, ◌≤◌, ℕ, Bool, true, false, cond, List, [], ◌∷◌, map, Option, None, Some}
use Rattle.bd_base.specs.declared.act.ApplyEnd.{ApplyEnd}
use Rattle.bd_base.specs.declared.id.DevId.{DevId}
use Rattle.bd_machine.specs.declared.state.OpenPiece.{OpenPiece}
use Rattle.bd_outside.specs.Disk.{DiskState, HasSameShape, HasWholeBlocks}
use Rattle.bd_disks.specs.Serving.{IsInsideDisk, IsServed}

-- the row of a device
abbrev pub is_row : {D : Type 0} → DevId → DevId × D → Bool
is_row dev row = row.0.0 == dev.0

-- the disk of a device: that of its first row
abbrev pub disk_of : {D : Type 0} → DevId → List (DevId × D) → Option D
disk_of dev [] = None
disk_of dev (row ∷ rows) = cond (is_row dev row) (Some row.1) (disk_of dev rows)

-- each device with the place of its disk among the openings of its host, in order: which disks there are, whatever they hold
abbrev pub places : {D : Type 0} → (D → DiskState) → List (DevId × D) → List (DevId × Option ℕ)
places state rows = map (λ row. (row.0, (state row.1).place)) rows

-- there is such a disk, and the piece lies inside it
abbrev pub IsInsideOne : Option DiskState → ℕ → OpenPiece → Type 0
IsInsideOne None size piece = ⊥
IsInsideOne (Some disk) size piece = IsInsideDisk disk size piece

-- a disk, which tells whole blocks where it tells its bytes, did what the piece asks, and is the same disk after it; no fault is forgotten
pub record Does (size : ℕ) (piece : OpenPiece) (end : ApplyEnd) (read : Option (List ℕ)) (old new : DiskState) : Type 0 where
  pub served : IsServed size piece old new end read
  pub whole : HasWholeBlocks old
  pub shape : HasSameShape old new
  pub faults : old.faults ≤ new.faults

-- a row's disk changed so and those after it stand; or the row stands and the change comes later
abbrev pub ChangesRow : {D : Type 0} → Bool → (D → D → Type 0) → DevId × D → DevId × D → Type 0 → Type 0 → Type 0
ChangesRow true So row next stand later = (next.0 ≡ row.0) × So row.1 next.1 × stand
ChangesRow false So row next stand later = (next ≡ row) × later

-- the device's disk changed so, and all else is as it was
abbrev pub ChangesDisk : {D : Type 0} → DevId → (D → D → Type 0) → List (DevId × D) → List (DevId × D) → Type 0
ChangesDisk dev So [] new = ⊥
ChangesDisk dev So (row ∷ rows) [] = ⊥
ChangesDisk dev So (row ∷ rows) (next ∷ new) = ChangesRow (is_row dev row) So row next (new ≡ rows) (ChangesDisk dev So rows new)
