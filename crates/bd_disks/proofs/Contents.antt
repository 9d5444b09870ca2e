-- The content that a disk has, before a piece and after it.
use Rattle.std.proofs.Common.{◌≡◌, ℕ, ◌*◌, List, length, Option, None, Some, IfSome, refl, sym, ◌∙◌, ap}
use Rattle.std.specs.List.{concat}
use Rattle.bd_base.specs.declared.act.ApplyEnd.{ApplyEnd}
use Rattle.bd_base.specs.declared.act.ApplyEnd.TheVariants.{Done, Fault}
use Rattle.bd_machine.specs.declared.state.Content.{Content}
use Rattle.bd_machine.specs.declared.state.Content.TheVariants.{Blocks, Zeros, Untold}
use Rattle.bd_machine.specs.declared.state.OpenPiece.{OpenPiece}
use Rattle.bd_machine.specs.Effect.{content_after}
use Rattle.bd_machine.specs.Homes.{content_by, read_by}
use Rattle.bd_outside.specs.Disk.{DiskState, HasWholeBlocks}
use Rattle.bd_disks.specs.Holding.{content_in, content_of, in_blocks, Has}
use Rattle.bd_disks.specs.Rows.{Does}
use Rattle.bd_disks.specs.Serving.{IsServed}
use Rattle.bd_disks.proofs.Blockwise.{concat_in_blocks, in_blocks_concat, length_in_blocks, sizes_in_blocks}

-- a disk that tells whole blocks, or tells nothing, has the content of its bytes
pub has_content : (disk : DiskState) → HasWholeBlocks disk → Has disk (content_of disk)
has_content disk whole = go disk.content refl whole
  where
    go : (c : Option (List ℕ)) → disk.content ≡ c → IfSome c (λ bytes. length bytes ≡ disk.blocks * disk.block_size) → Has disk (content_in disk.block_size disk.blocks c)
    go None is w = is
    go (Some bytes) is w = record {
      bytes = is ∙ ap Some (sym (concat_in_blocks disk.block_size disk.blocks bytes w));
      number = length_in_blocks disk.block_size disk.blocks bytes;
      sizes = sizes_in_blocks disk.block_size disk.blocks bytes w;
    }

-- it has no other
pub has_only : (disk : DiskState) (c : Content) → Has disk c → content_of disk ≡ c
has_only disk (Blocks bs) h =
    ap (content_in disk.block_size disk.blocks) h.bytes
    ∙ ap (λ (n : ℕ). Blocks (in_blocks disk.block_size n (concat bs))) (sym h.number)
    ∙ ap Blocks (in_blocks_concat disk.block_size bs h.sizes)
has_only disk Zeros h = absurd h
has_only disk Untold h = ap (content_in disk.block_size disk.blocks) h

module _ (size : ℕ) (p : OpenPiece) (end : ApplyEnd) (read : Option (List ℕ)) (old new : DiskState) (does : Does size p end read old new) where
  -- after a piece a disk has what the piece leaves of the content before
  pub content_then : content_of new ≡ content_by end (content_of old) p
  content_then = go end does.served
    where
      go : (e : ApplyEnd) → IsServed size p old new e read → content_of new ≡ content_by e (content_of old) p
      go Done s = has_only new (content_after (content_of old) p) (s.content (content_of old) (has_content old does.whole))
      go Fault s =
          ap (λ (n : ℕ). content_in n new.blocks new.content) does.shape.size
          ∙ ap (λ (n : ℕ). content_in old.block_size n new.content) does.shape.blocks
          ∙ ap (content_in old.block_size old.blocks) s.content

  -- and the piece read it
  pub read_is : read ≡ read_by end size (content_of old) p
  read_is = go end does.served
    where
      go : (e : ApplyEnd) → IsServed size p old new e read → read ≡ read_by e size (content_of old) p
      go Done s = s.reads (content_of old) (has_content old does.whole)
      go Fault s = s.nothing
