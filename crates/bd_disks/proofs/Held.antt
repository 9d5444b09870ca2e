-- What a disk has after a piece.
use Rattle.std.proofs.Common.{◌≡◌, ℕ, ◌+◌, ◌-◌, ◌*◌, ◌≤◌, Bool, true, false, cond, List, [], ◌++◌, length, take, drop, replicate, Option, Some, None, is_some, IfSome, sym, ◌∙◌, ap, subst, arith}
use Rattle.std.specs.List.{concat}
use Rattle.std.proofs.lemmas.List.{length-append, length-drop, length-replicate, length-take-le}
use Rattle.bd_base.specs.declared.request.Op.{Op}
use Rattle.bd_base.specs.declared.request.Op.TheVariants as ops
use Rattle.bd_machine.specs.Effect.{blocks_after, bytes_at, bytes_read, content_after, is_read, rewritten, zero_blocks, zeroed}
use Rattle.bd_machine.specs.declared.state.Content.{Content}
use Rattle.bd_machine.specs.declared.state.Content.TheVariants.{Blocks, Zeros, Untold}
use Rattle.bd_machine.specs.declared.state.OpenPiece.{OpenPiece}
use Rattle.bd_outside.specs.Disk.{DiskState, HasSameShape, Reads, content_written}
use Rattle.bd_disks.specs.Holding.{AreOfSize, Has, HoldsBlocks}
use Rattle.bd_disks.specs.Serving.{IsWriting}
use Rattle.bd_disks.proofs.Blockwise.{all_blocks, drop_blocks, length_blocks, sizes_append, sizes_drop, sizes_take, take_blocks, written_blocks}
use Rattle.bd_disks.proofs.Rewriting.{length_rewritten, sizes_rewritten, sizes_zero_blocks, written_by_size, zeros_joined}

-- the blocks of a piece
abbrev own : OpenPiece → List (List ℕ) → List (List ℕ)
own p bs = take p.count (drop p.lba bs)

length_own : (p : OpenPiece) (bs : List (List ℕ)) → p.lba + p.count ≤ length bs → length (own p bs) ≡ p.count
length_own p bs h = length-take-le p.count (drop p.lba bs) (omega (arith, length-drop p.lba bs))

sizes_own : (size : ℕ) (p : OpenPiece) (bs : List (List ℕ)) → AreOfSize size bs → AreOfSize size (own p bs)
sizes_own size p bs h = sizes_take size p.count (drop p.lba bs) (sizes_drop size p.lba bs h)

zeros_by_size : (size : ℕ) (bs : List (List ℕ)) → AreOfSize size bs → concat (zeroed (zero_blocks size (length bs))) ≡ concat (zeroed bs)
zeros_by_size size bs h =
    zeros_joined size (zero_blocks size (length bs)) (sizes_zero_blocks size (length bs))
    ∙ ap (λ (k : ℕ). replicate (k * size) 0) (length-replicate (length bs) (replicate size 0))
    ∙ sym (zeros_joined size bs h)

-- what is written by the sizes of the blocks is what is put in their place
put_by_size : (size : ℕ) (op : Op) (n : ℕ) (bs : List (List ℕ)) → IsWriting op → AreOfSize size bs
    → concat (rewritten op n (zero_blocks size (length bs))) ≡ concat (rewritten op n bs)
put_by_size size (ops.Write fill) n bs w h = ap concat (sym (written_by_size size n fill bs h))
put_by_size size ops.Zeroes n bs w h = zeros_by_size size bs h
put_by_size size ops.Unmap n bs w h = zeros_by_size size bs h
put_by_size size ops.Read n bs w h = absurd w
put_by_size size ops.Flush n bs w h = absurd w
put_by_size size (ops.Reset time) n bs w h = absurd w
put_by_size size (ops.Abort k) n bs w h = absurd w

-- as many bytes as the blocks have
pub length_put : (size : ℕ) (op : Op) (n count : ℕ) → length (concat (rewritten op n (zero_blocks size count))) ≡ count * size
length_put size op n count =
    length_blocks size (rewritten op n (zero_blocks size count)) (sizes_rewritten size op n (zero_blocks size count) (sizes_zero_blocks size count))
    ∙ ap (λ (k : ℕ). k * size) (length_rewritten op n (zero_blocks size count) ∙ length-replicate count (replicate size 0))

length_after : (p : OpenPiece) (bs : List (List ℕ)) → p.lba + p.count ≤ length bs → length (blocks_after p bs) ≡ length bs
length_after p bs h =
    let front : List (List ℕ) = take p.lba bs in
    let new : List (List ℕ) = rewritten p.op p.first (own p bs) in
    let behind : List (List ℕ) = drop (p.lba + p.count) bs in
    let a : length (front ++ new ++ behind) ≡ length (front ++ new) + length behind = length-append (front ++ new) behind in
    let b : length (front ++ new) ≡ length front + length new = length-append front new in
    let f : length front ≡ p.lba = length-take-le p.lba bs (omega arith) in
    let n : length new ≡ p.count = length_rewritten p.op p.first (own p bs) ∙ length_own p bs h in
    let d : length behind ≡ length bs - (p.lba + p.count) = length-drop (p.lba + p.count) bs in
    omega (arith, a, b, f, n, d)

sizes_after : (size : ℕ) (p : OpenPiece) (bs : List (List ℕ)) → AreOfSize size bs → AreOfSize size (blocks_after p bs)
sizes_after size p bs h =
    let new : List (List ℕ) = rewritten p.op p.first (own p bs) in
    sizes_append size (take p.lba bs ++ new) (drop (p.lba + p.count) bs)
    (sizes_append size (take p.lba bs) new (sizes_take size p.lba bs h) (sizes_rewritten size p.op p.first (own p bs) (sizes_own size p bs h)))
    (sizes_drop size (p.lba + p.count) bs h)

module _ (old new : DiskState) (p : OpenPiece) (shape : HasSameShape old new) (inside : p.lba + p.count ≤ old.blocks) where
  within : (bs : List (List ℕ)) → HoldsBlocks old bs → p.lba + p.count ≤ length bs
  within bs h = omega (arith, inside, h.number)

  holds : (bs : List (List ℕ)) → HoldsBlocks old bs → new.content ≡ Some (concat (blocks_after p bs)) → HoldsBlocks new (blocks_after p bs)
  holds bs h e = record {
    bytes = e;
    number = length_after p bs (within bs h) ∙ h.number ∙ sym shape.blocks;
    sizes = subst (λ (size : ℕ). AreOfSize size (blocks_after p bs)) (sym shape.size) (sizes_after old.block_size p bs h.sizes);
  }

  module _ (writing : IsWriting p.op) (bytes : List ℕ) (put : bytes ≡ concat (rewritten p.op p.first (zero_blocks old.block_size p.count)))
      (is : new.content ≡ content_written old.content (p.lba * old.block_size) bytes) where
    put_there : (bs : List (List ℕ)) → HoldsBlocks old bs → bytes ≡ concat (rewritten p.op p.first (own p bs))
    put_there bs h =
        put
        ∙ ap (λ (k : ℕ). concat (rewritten p.op p.first (zero_blocks old.block_size k))) (sym (length_own p bs (within bs h)))
        ∙ put_by_size old.block_size p.op p.first (own p bs) writing (sizes_own old.block_size p bs h.sizes)

    length_there : (bs : List (List ℕ)) → HoldsBlocks old bs → length (concat (rewritten p.op p.first (own p bs))) ≡ p.count * old.block_size
    length_there bs h = ap length (sym (put_there bs h) ∙ put) ∙ length_put old.block_size p.op p.first p.count

    content_there : (bs : List (List ℕ)) → HoldsBlocks old bs → new.content ≡ Some (concat (blocks_after p bs))
    content_there bs h =
        is
        ∙ ap (λ (c : Option (List ℕ)). content_written c (p.lba * old.block_size) bytes) h.bytes
        ∙ ap (λ (xs : List ℕ). content_written (Some (concat bs)) (p.lba * old.block_size) xs) (put_there bs h)
        ∙ ap Some (written_blocks old.block_size p.lba p.count bs (rewritten p.op p.first (own p bs)) h.sizes (length_there bs h))

    -- after a write the disk has the content after the piece
    pub has_written : (c : Content) → Has old c → Has new (content_after c p)
    has_written (Blocks bs) h = holds bs h (content_there bs h)
    has_written Zeros h = h
    has_written Untold h = is ∙ ap (λ (c : Option (List ℕ)). content_written c (p.lba * old.block_size) bytes) h

  module _ (keeps : (bs : List (List ℕ)) → rewritten p.op p.first bs ≡ bs) (is : new.content ≡ old.content) where
    same_after : (bs : List (List ℕ)) → bs ≡ blocks_after p bs
    same_after bs = sym (ap (λ (ys : List (List ℕ)). take p.lba bs ++ ys ++ drop (p.lba + p.count) bs) (keeps (own p bs)) ∙ all_blocks p.lba p.count bs)

    -- after a piece that changes nothing the disk has the content after it
    pub has_kept : (c : Content) → Has old c → Has new (content_after c p)
    has_kept (Blocks bs) h = holds bs h (is ∙ h.bytes ∙ ap (λ (ys : List (List ℕ)). Some (concat ys)) (same_after bs))
    has_kept Zeros h = h
    has_kept Untold h = is ∙ h

-- a read gives what the content has, told where the disk tells it
pub told_read : (old : DiskState) (p : OpenPiece) (bytes : List ℕ) (told : Bool) (read : Option (List ℕ)) → p.op ≡ ops.Read
    → length bytes ≡ p.count * old.block_size → Reads old.content (p.lba * old.block_size) bytes
    → told ≡ is_some old.content → read ≡ cond told (Some bytes) None
    → (c : Content) → Has old c → read ≡ bytes_read old.block_size c p
told_read old p bytes told read reading long given tells is c h =
    go c h ∙ sym (ap (λ (op : Op). cond (is_read op) (bytes_at old.block_size c p.lba p.count) (Some [])) reading)
  where
    go : (c : Content) → Has old c → read ≡ bytes_at old.block_size c p.lba p.count
    go (Blocks bs) h =
        let size : ℕ = old.block_size in
        let there : bytes ≡ take (length bytes) (drop (p.lba * size) (concat bs)) =
        subst (λ (c : Option (List ℕ)). Reads c (p.lba * size) bytes) h.bytes given
        in
        let same : bytes ≡ concat (take p.count (drop p.lba bs)) =
        there
        ∙ ap (λ (k : ℕ). take k (drop (p.lba * size) (concat bs))) long
        ∙ ap (λ (xs : List ℕ). take (p.count * size) xs) (drop_blocks size p.lba bs h.sizes)
        ∙ take_blocks size p.count (drop p.lba bs) (sizes_drop size p.lba bs h.sizes)
        in
        is ∙ ap (λ (b : Bool). cond b (Some bytes) None) (tells ∙ ap is_some h.bytes) ∙ ap Some same
    go Zeros h = absurd h
    go Untold h = is ∙ ap (λ (b : Bool). cond b (Some bytes) None) (tells ∙ ap is_some h)

-- where it is told it has as many bytes as were read
pub told_amount : (n : ℕ) (bytes : List ℕ) (told : Bool) (read : Option (List ℕ)) → read ≡ cond told (Some bytes) None → length bytes ≡ n → IfSome read (λ xs. length xs ≡ n)
told_amount n bytes told read is long = subst (λ (o : Option (List ℕ)). IfSome o (λ xs. length xs ≡ n)) (sym is) (go told)
  where
    go : (b : Bool) → IfSome (cond b (Some bytes) None) (λ xs. length xs ≡ n)
    go true = long
    go false = tt

-- a piece that isn't a read reads nothing
pub told_nothing : (size : ℕ) (p : OpenPiece) (c : Content) → is_read p.op ≡ false → Some [] ≡ bytes_read size c p
told_nothing size p c e = sym (ap (λ (b : Bool). cond b (bytes_at size c p.lba p.count) (Some [])) e)
