-- What a disk holds, in blocks as the machine has them.
use Rattle.std.specs.Prelude.{◌≡◌, ℕ, zero, suc, List, [], ◌∷◌, length, take, drop, Option, None, Some}
use Rattle.std.specs.List.{concat}
use Rattle.bd_machine.specs.declared.state.Content.{Content}
use Rattle.bd_machine.specs.declared.state.Content.TheVariants.{Blocks, Zeros, Untold}
use Rattle.bd_outside.specs.Disk.{DiskState}

-- each block has this many bytes
abbrev pub AreOfSize : ℕ → List (List ℕ) → Type 0
AreOfSize size [] = Unit {0}
AreOfSize size (b ∷ bs) = (length b ≡ size) × AreOfSize size bs

-- these are the blocks of the disk, and it tells their bytes
pub record HoldsBlocks (disk : DiskState) (blocks : List (List ℕ)) : Type 0 where
  pub bytes : disk.content ≡ Some (concat blocks)
  pub number : length blocks ≡ disk.blocks
  pub sizes : AreOfSize disk.block_size blocks

-- a disk has the content that the machine has of its device, or neither tells it; no disk is zeros for good
abbrev pub Has : DiskState → Content → Type 0
Has disk (Blocks blocks) = HoldsBlocks disk blocks
Has disk Zeros = ⊥
Has disk Untold = disk.content ≡ None

-- ---- the content that a disk has

-- bytes in n blocks of this size, one after the other
abbrev pub in_blocks : ℕ → ℕ → List ℕ → List (List ℕ)
in_blocks size zero bytes = []
in_blocks size (suc n) bytes = take size bytes ∷ in_blocks size n (drop size bytes)

abbrev pub content_in : ℕ → ℕ → Option (List ℕ) → Content
content_in size n None = Untold
content_in size n (Some bytes) = Blocks (in_blocks size n bytes)

-- its bytes in its blocks, if it tells them: the one content that it has
abbrev pub content_of : DiskState → Content
content_of disk = content_in disk.block_size disk.blocks disk.content
