-- What a disk tells, and what it holds: the bytes of its blocks.
use Rattle.std.specs.Prelude.{◌≡◌, ℕ, ◌+◌, ◌*◌, ◌/◌, ◌%◌, ◌≤◌, ◌⊎◌, List, ◌++◌, length, take, drop, Option, None, Some, IfSome}
use Rattle.bd_outside.specs.File.{Told, Untold, NoFile, Content}
use Rattle.bd_outside.specs.declared.opening.Closing.{Closing}

-- the bytes of a block, how many blocks it has, their bytes, if it tells them, how often it failed, how many flushes
-- were done, and its place among the openings of the host that opened it
pub record DiskState : Type 0 where
  pub block_size : ℕ
  pub blocks : ℕ
  pub content : Option (List ℕ)
  pub faults : ℕ
  pub flushes : ℕ
  pub place : Option ℕ

-- what its host keeps of it when it is closed
abbrev pub closing_of : DiskState → Closing
closing_of disk = record { content = disk.content; faults = disk.faults; flushes = disk.flushes }

-- it has the same blocks of the same size, at the same place
pub record HasSameShape (old new : DiskState) : Type 0 where
  pub size : new.block_size ≡ old.block_size
  pub blocks : new.blocks ≡ old.blocks
  pub place : new.place ≡ old.place

-- this number of bytes from the start of a block on is whole blocks inside the disk
pub record IsInside (lba bytes size blocks : ℕ) : Type 0 where
  pub whole : bytes % size ≡ 0
  pub inside : lba * size + bytes ≤ blocks * size

-- what it holds is the bytes of its blocks, or isn't told
abbrev pub HasWholeBlocks : DiskState → Type 0
HasWholeBlocks disk = IfSome disk.content (λ bytes. length bytes ≡ disk.blocks * disk.block_size)

-- the piece is what the content has at that place, or the content isn't told
abbrev pub Reads : Option (List ℕ) → ℕ → List ℕ → Type 0
Reads None at piece = Unit {0}
Reads (Some bytes) at piece = piece ≡ take (length piece) (drop at bytes)

-- the bytes with a piece written over those at a place
abbrev pub overwritten : List ℕ → ℕ → List ℕ → List ℕ
overwritten bytes at piece = take at bytes ++ piece ++ drop (at + length piece) bytes

-- the content after a piece was written at a place; what wasn't told stays so
abbrev pub content_written : Option (List ℕ) → ℕ → List ℕ → Option (List ℕ)
content_written None at piece = None
content_written (Some bytes) at piece = Some (overwritten bytes at piece)

-- a disk that was opened over a file has its whole blocks, and holds them or tells nothing, where the file is told
abbrev pub IsOpenedOver : Told → DiskState → Type 0
IsOpenedOver Untold disk = Unit {0}
IsOpenedOver NoFile disk = ⊥
IsOpenedOver (Content file) disk =
    (disk.blocks ≡ length file / disk.block_size) × ((disk.content ≡ Some (take (disk.blocks * disk.block_size) file)) ⊎ (disk.content ≡ None))
