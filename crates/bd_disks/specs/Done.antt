-- Which pieces disks did, one after the other.
use Rattle.std.specs.Prelude.{◌≡◌, ℕ, true, List, [], ◌∷◌, map, Option, Some, None}
use Rattle.std.specs.Option.{option_map}
use Rattle.bd_base.specs.declared.id.DevId.{DevId}
use Rattle.bd_base.specs.declared.setup.Setup.{Setup}
use Rattle.bd_disks.specs.Rows.{disk_of, Does}
use Rattle.bd_machine.specs.BlockMap.{is_aio, size_of}
use Rattle.bd_outside.specs.Disk.{DiskState}
use Rattle.bd_law_served.specs.Served.{ServedPiece}

-- a disk did what these pieces ask, one after the other, of blocks of this size, and each ended so
abbrev pub DidPieces : ℕ → List ServedPiece → DiskState → DiskState → Type 0
DidPieces size [] old new = new ≡ old
DidPieces size (served ∷ more) old new = (next : DiskState) × (read : Option (List ℕ)) × Does size served.piece served.end read old next × DidPieces size more next new

-- the same of the disk of a device, if it has one; else no piece was served
abbrev pub DidPiecesIf : ℕ → List ServedPiece → Option DiskState → Option DiskState → Type 0
DidPiecesIf size pieces None new = (new ≡ None) × (pieces ≡ [])
DidPiecesIf size pieces (Some old) None = ⊥
DidPiecesIf size pieces (Some old) (Some new) = DidPieces size pieces old new

-- the disks of a setup's aio devices did just these pieces of each device; no disk came or went
pub record AreDoneBy {D : Type 0} (state : D → DiskState) (setup : Setup) (pieces : DevId → List ServedPiece) (old new : List (DevId × D)) : Type 0 where
  pub devices : map (λ row. row.0) new ≡ map (λ row. row.0) old
  pub pieces_are : (dev : DevId) → is_aio setup dev ≡ true → DidPiecesIf (size_of setup dev) (pieces dev) (option_map state (disk_of dev old)) (option_map state (disk_of dev new))
