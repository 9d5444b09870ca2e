-- What serving a piece does to a disk, and what it answers.
use Rattle.std.specs.Prelude.{◌≡◌, ℕ, ◌+◌, ◌*◌, ◌<◌, ◌≤◌, ◌^◌, Bool, true, false, cond, List, length, Option, None, IfSome}
use Rattle.bd_base.specs.declared.act.ApplyEnd.{ApplyEnd}
use Rattle.bd_base.specs.declared.act.ApplyEnd.TheVariants.{Done, Fault}
use Rattle.bd_base.specs.declared.request.Op.{Op}
use Rattle.bd_base.specs.declared.request.Op.TheVariants as ops
use Rattle.bd_machine.specs.declared.state.Content.{Content}
use Rattle.bd_machine.specs.declared.state.OpenPiece.{OpenPiece}
use Rattle.bd_machine.specs.Effect.{content_after, bytes_read, is_read}
use Rattle.bd_outside.specs.Count.{Rises, one_more}
use Rattle.bd_outside.specs.Disk.{DiskState}
use Rattle.bd_disks.specs.Holding.{Has}

-- the piece lies inside the disk, whose blocks have this size, and its bytes and the numbers of its blocks have 64 bits
pub record IsInsideDisk (disk : DiskState) (size : ℕ) (piece : OpenPiece) : Type 0 where
  pub same_size : size ≡ disk.block_size
  pub some : 0 < size
  pub inside : piece.lba + piece.count ≤ disk.blocks
  pub numbered : piece.first + piece.count < 2 ^ 64
  pub amount : piece.count * size < 2 ^ 64

abbrev pub is_flush : Op → Bool
is_flush ops.Flush = true
is_flush _ = false

-- a piece of this type puts bytes in place of those of its blocks
abbrev pub IsWriting : Op → Type 0
IsWriting (ops.Write fill) = Unit {0}
IsWriting ops.Zeroes = Unit {0}
IsWriting ops.Unmap = Unit {0}
IsWriting _ = ⊥

-- a piece of this type puts zeros in place of the bytes of its blocks
abbrev pub IsZeroing : Op → Type 0
IsZeroing ops.Zeroes = Unit {0}
IsZeroing ops.Unmap = Unit {0}
IsZeroing _ = ⊥

-- no piece has this type
abbrev pub IsNoPiece : Op → Type 0
IsNoPiece (ops.Reset time) = Unit {0}
IsNoPiece (ops.Abort seq) = Unit {0}
IsNoPiece _ = ⊥

-- the piece was done: the disk has the content after it; the piece read what it reads of the content before, so it is told where the disk
-- tells its bytes, and then has as many bytes as the piece asks; and a flush raised the count of flushes
pub record IsDone (size : ℕ) (piece : OpenPiece) (old new : DiskState) (read : Option (List ℕ)) : Type 0 where
  pub content : (content : Content) → Has old content → Has new (content_after content piece)
  pub reads : (content : Content) → Has old content → read ≡ bytes_read size content piece
  pub amount : IfSome read (λ bytes. length bytes ≡ cond (is_read piece.op) (piece.count * size) 0)
  pub flushes : new.flushes ≡ cond (is_flush piece.op) (one_more old.flushes) old.flushes

-- the disk failed: its count of faults rose, and all else is as it was
pub record IsFault (old new : DiskState) (read : Option (List ℕ)) : Type 0 where
  pub faults : Rises old.faults new.faults
  pub content : new.content ≡ old.content
  pub flushes : new.flushes ≡ old.flushes
  pub nothing : read ≡ None

-- what the end of a piece says
abbrev pub IsServed : ℕ → OpenPiece → DiskState → DiskState → ApplyEnd → Option (List ℕ) → Type 0
IsServed size piece old new Done read = IsDone size piece old new read
IsServed size piece old new Fault read = IsFault old new read
