-- What contracts see of the calm host, which never fails, and of its disks.
use Rattle.std.specs.Prelude.{◌≡◌, ℕ, ◌/◌, ◌<◌, List, [], ◌∷◌, ◌++◌, length, Option, None, Some}
use Rattle.bd_outside.specs.declared.calm_disk.CalmDisk.{CalmDisk}
use Rattle.bd_outside.specs.declared.calm_disk.CalmDisk.TheVariants.{Kept, Beyond}
use Rattle.bd_outside.specs.declared.opening.Opening.{Opening}
use Rattle.bd_outside.specs.Count.{one_more}
use Rattle.bd_outside.specs.Disk.{DiskState, closing_of}
use Rattle.bd_outside.specs.File.{Told, Untold, NoFile, Content}
use Rattle.bd_outside.specs.Memory.{MemoryDisk, disk_over, memory_state}
use Rattle.bd_outside.specs.Opening.{open_row, openings_closed}

-- what a disk of a calm host tells: one beyond the rows no content, and no place
abbrev pub calm_state : CalmDisk → DiskState
calm_state (Kept disk) = memory_state disk
calm_state (Beyond size blocks faults) =
    record { block_size = size; blocks = blocks; content = None; faults = faults; flushes = 0; place = None }

-- a calm host: its named files, its openings unless it no longer tells them, how many rows it has for them, and how often
-- it found no file
pub record CalmFiles : Type 0 where
  pub files : List (List ℕ × List ℕ)
  pub openings : Option (List Opening)
  pub rows : ℕ
  pub absences : ℕ

-- a new calm host of these files
abbrev pub calm_host_of : List (List ℕ × List ℕ) → ℕ → CalmFiles
calm_host_of files rows = record { files = files; openings = Some []; rows = rows; absences = 0 }

-- the host after a call that found no file
abbrev pub calm_absent_call : CalmFiles → CalmFiles
calm_absent_call host = record host { absences = one_more host.absences }

-- the host after an opening that it no longer tells
abbrev pub calm_beyond_call : CalmFiles → CalmFiles
calm_beyond_call host = record host { openings = None }

-- the host after a disk was closed by that name
abbrev pub calm_close_call : CalmFiles → List ℕ → CalmDisk → CalmFiles
calm_close_call host name disk =
    let state = calm_state disk in
    record host { openings = openings_closed host.openings state.place name (closing_of state) }

-- the disk holds the file's whole blocks, never fails, and has a row at its host, for which there was room
abbrev pub IsKeptOver : Option (List Opening) → List ℕ → ℕ → CalmFiles → CalmFiles → List ℕ → MemoryDisk → Type 0
IsKeptOver None file size old new name disk = ⊥
IsKeptOver (Some opened) file size old new name disk =
    (length opened < old.rows)
    × (disk ≡ disk_over file size [] (Some (length opened)))
    × (new ≡ record old { openings = Some (opened ++ open_row name disk.blocks ∷ []) })

-- an opening of a file gave a disk that is kept, or one beyond the rows
abbrev pub OpensCalmly : Told → ℕ → CalmFiles → CalmFiles → List ℕ → CalmDisk → Type 0
OpensCalmly Untold size old new name disk = ⊥
OpensCalmly NoFile size old new name disk = ⊥
OpensCalmly (Content file) size old new name (Kept disk) = IsKeptOver old.openings file size old new name disk
OpensCalmly (Content file) size old new name (Beyond block_size blocks faults) =
    (block_size ≡ size) × (blocks ≡ length file / size) × (faults ≡ 0) × (new ≡ calm_beyond_call old)
