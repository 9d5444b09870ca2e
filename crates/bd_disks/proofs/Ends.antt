-- How a piece ends.
use Rattle.std.proofs.Common.{◌≡◌, ℕ, ◌+◌, ◌*◌, ◌%◌, ◌≤◌, Bool, false, cond, List, [], length, replicate, Option, Some, None, is_some, IfSome, refl, sym, ◌∙◌, ap, subst, arith}
use Rattle.std.specs.List.{concat}
use Rattle.std.proofs.lemmas.List.{length-replicate}
use Rattle.std.proofs.Math.Nat.{add-mul, mul-le-mul_right, mul-mod_left}
use Rattle.bd_base.specs.declared.act.ApplyEnd.{ApplyEnd}
use Rattle.bd_base.specs.declared.act.ApplyEnd.TheVariants.{Done}
use Rattle.bd_base.specs.declared.request.Op.{Op}
use Rattle.bd_base.specs.declared.request.Op.TheVariants as ops
use Rattle.bd_machine.specs.Effect.{bytes_read, is_read, rewritten, zero_blocks}
use Rattle.bd_machine.specs.declared.state.Content.{Content}
use Rattle.bd_machine.specs.declared.state.OpenPiece.{OpenPiece}
use Rattle.bd_outside.specs.Count.{one_more}
use Rattle.bd_outside.specs.Disk.{DiskState, HasSameShape, IsInside, Reads, content_written}
use Rattle.bd_disks.specs.Holding.{Has}
use Rattle.bd_disks.specs.Serving.{IsDone, IsInsideDisk, IsNoPiece, IsServed, IsWriting, IsZeroing, is_flush}
use Rattle.bd_disks.proofs.Held.{has_kept, has_written, told_amount, told_nothing, told_read}
use Rattle.bd_disks.proofs.Rewriting.{sizes_zero_blocks, zeros_joined}

-- as many bytes as the piece has lie inside the disk, in whole blocks
pub inside_disk : (disk : DiskState) (size : ℕ) (p : OpenPiece) → IsInsideDisk disk size p → (n : ℕ) → n ≡ p.count * size
    → IsInside p.lba n disk.block_size disk.blocks
inside_disk disk size p h n e =
    let s : ℕ = disk.block_size in
    let long : n ≡ p.count * s = e ∙ ap (λ (k : ℕ). p.count * k) h.same_size in
    let parts : (p.lba + p.count) * s ≡ p.lba * s + p.count * s = add-mul p.lba p.count s in
    let most : (p.lba + p.count) * s ≤ disk.blocks * s = mul-le-mul_right s h.inside in
    record { whole = ap (λ (k : ℕ). k % s) long ∙ mul-mod_left p.count s; inside = omega (arith, long, parts, most) }

writing_reads_not : (op : Op) → IsWriting op → is_read op ≡ false
writing_reads_not (ops.Write fill) h = refl
writing_reads_not ops.Zeroes h = refl
writing_reads_not ops.Unmap h = refl
writing_reads_not ops.Read h = absurd h
writing_reads_not ops.Flush h = refl
writing_reads_not (ops.Reset time) h = refl
writing_reads_not (ops.Abort k) h = refl

writing_flushes_not : (op : Op) → IsWriting op → is_flush op ≡ false
writing_flushes_not (ops.Write fill) h = refl
writing_flushes_not ops.Zeroes h = refl
writing_flushes_not ops.Unmap h = refl
writing_flushes_not ops.Read h = refl
writing_flushes_not ops.Flush h = absurd h
writing_flushes_not (ops.Reset time) h = refl
writing_flushes_not (ops.Abort k) h = refl

pub zeroing_writes : (op : Op) → IsZeroing op → IsWriting op
zeroing_writes ops.Zeroes h = tt
zeroing_writes ops.Unmap h = tt
zeroing_writes (ops.Write fill) h = absurd h
zeroing_writes ops.Read h = absurd h
zeroing_writes ops.Flush h = absurd h
zeroing_writes (ops.Reset time) h = absurd h
zeroing_writes (ops.Abort k) h = absurd h

zeros_put : (size count : ℕ) → replicate (count * size) 0 ≡ concat (rewritten ops.Zeroes 0 (zero_blocks size count))
zeros_put size count =
    ap (λ (k : ℕ). replicate (k * size) 0) (sym (length-replicate count (replicate size 0)))
    ∙ sym (zeros_joined size (zero_blocks size count) (sizes_zero_blocks size count))

-- zeros are what such a piece puts
pub zeroing_puts : (size count n : ℕ) (op : Op) → IsZeroing op → replicate (count * size) 0 ≡ concat (rewritten op n (zero_blocks size count))
zeroing_puts size count n ops.Zeroes h = zeros_put size count
zeroing_puts size count n ops.Unmap h = zeros_put size count
zeroing_puts size count n (ops.Write fill) h = absurd h
zeroing_puts size count n ops.Read h = absurd h
zeroing_puts size count n ops.Flush h = absurd h
zeroing_puts size count n (ops.Reset time) h = absurd h
zeroing_puts size count n (ops.Abort k) h = absurd h

idle_keeps : (op : Op) (n : ℕ) (bs : List (List ℕ)) → IsNoPiece op → rewritten op n bs ≡ bs
idle_keeps (ops.Reset time) n bs h = refl
idle_keeps (ops.Abort k) n bs h = refl
idle_keeps (ops.Write fill) n bs h = absurd h
idle_keeps ops.Zeroes n bs h = absurd h
idle_keeps ops.Unmap n bs h = absurd h
idle_keeps ops.Read n bs h = refl
idle_keeps ops.Flush n bs h = refl

idle_reads_not : (op : Op) → IsNoPiece op → is_read op ≡ false
idle_reads_not (ops.Reset time) h = refl
idle_reads_not (ops.Abort k) h = refl
idle_reads_not (ops.Write fill) h = refl
idle_reads_not ops.Zeroes h = refl
idle_reads_not ops.Unmap h = refl
idle_reads_not ops.Read h = absurd h
idle_reads_not ops.Flush h = refl

idle_flushes_not : (op : Op) → IsNoPiece op → is_flush op ≡ false
idle_flushes_not (ops.Reset time) h = refl
idle_flushes_not (ops.Abort k) h = refl
idle_flushes_not (ops.Write fill) h = refl
idle_flushes_not ops.Zeroes h = refl
idle_flushes_not ops.Unmap h = refl
idle_flushes_not ops.Read h = refl
idle_flushes_not ops.Flush h = absurd h

module _ (size : ℕ) (p : OpenPiece) (old new : DiskState) (inside : IsInsideDisk old size p) (shape : HasSameShape old new) (end : ApplyEnd) (read : Option (List ℕ)) (is_done : end ≡ Done) where
  ended : IsDone size p old new read → IsServed size p old new end read
  ended h = subst (λ (e : ApplyEnd). IsServed size p old new e read) (sym is_done) h

  none_told : read ≡ Some [] → is_read p.op ≡ false → (c : Content) → Has old c → read ≡ bytes_read size c p
  none_told none reads_not c h = none ∙ told_nothing size p c reads_not

  no_amount : read ≡ Some [] → is_read p.op ≡ false → IfSome read (λ bytes. length bytes ≡ cond (is_read p.op) (p.count * size) 0)
  no_amount none reads_not =
      subst (λ (o : Option (List ℕ)). IfSome o (λ bytes. length bytes ≡ cond (is_read p.op) (p.count * size) 0)) (sym none) (sym (ap (λ (b : Bool). cond b (p.count * size) 0) reads_not))

  -- a write was done
  pub done_writing : IsWriting p.op → (from : List ℕ) → from ≡ concat (rewritten p.op p.first (zero_blocks size p.count))
      → new.content ≡ content_written old.content (p.lba * old.block_size) from → new.flushes ≡ old.flushes → read ≡ Some []
      → IsServed size p old new end read
  done_writing writing from put is same none =
      let put_here : from ≡ concat (rewritten p.op p.first (zero_blocks old.block_size p.count)) =
      put ∙ ap (λ (s : ℕ). concat (rewritten p.op p.first (zero_blocks s p.count))) inside.same_size
      in
      ended (record {
        content = has_written old new p shape inside.inside writing from put_here is;
        reads = none_told none (writing_reads_not p.op writing);
        amount = no_amount none (writing_reads_not p.op writing);
        flushes = same ∙ sym (ap (λ (b : Bool). cond b (one_more old.flushes) old.flushes) (writing_flushes_not p.op writing));
      })

  -- a flush was done
  pub done_flushing : p.op ≡ ops.Flush → new.content ≡ old.content → new.flushes ≡ one_more old.flushes → read ≡ Some []
      → IsServed size p old new end read
  done_flushing flush is more none =
      ended (record {
        content = has_kept old new p shape inside.inside (λ bs. ap (λ (op : Op). rewritten op p.first bs) flush) is;
        reads = none_told none (ap is_read flush);
        amount = no_amount none (ap is_read flush);
        flushes = more ∙ sym (ap (λ (op : Op). cond (is_flush op) (one_more old.flushes) old.flushes) flush);
      })

  -- what is no piece was passed
  pub done_passing : IsNoPiece p.op → new.content ≡ old.content → new.flushes ≡ old.flushes → read ≡ Some [] → IsServed size p old new end read
  done_passing idle is same none =
      ended (record {
        content = has_kept old new p shape inside.inside (λ bs. idle_keeps p.op p.first bs idle) is;
        reads = none_told none (idle_reads_not p.op idle);
        amount = no_amount none (idle_reads_not p.op idle);
        flushes = same ∙ sym (ap (λ (b : Bool). cond b (one_more old.flushes) old.flushes) (idle_flushes_not p.op idle));
      })

  -- a read was done of a disk that tells these bytes, or doesn't
  pub done_reading : p.op ≡ ops.Read → (bytes : List ℕ) (told : Bool) → length bytes ≡ p.count * size → Reads old.content (p.lba * old.block_size) bytes
      → told ≡ is_some old.content → read ≡ cond told (Some bytes) None
      → new.content ≡ old.content → new.flushes ≡ old.flushes → IsServed size p old new end read
  done_reading reading bytes told long given tells of is same =
      let there : (c : Content) → Has old c → read ≡ bytes_read old.block_size c p =
      told_read old p bytes told read reading (long ∙ ap (λ (s : ℕ). p.count * s) inside.same_size) given tells of
      in
      ended (record {
        content = has_kept old new p shape inside.inside (λ bs. ap (λ (op : Op). rewritten op p.first bs) reading) is;
        reads = λ c h. subst (λ (s : ℕ). read ≡ bytes_read s c p) (sym inside.same_size) (there c h);
        amount = told_amount (cond (is_read p.op) (p.count * size) 0) bytes told read of (long ∙ sym (ap (λ (op : Op). cond (is_read op) (p.count * size) 0) reading));
        flushes = same ∙ sym (ap (λ (op : Op). cond (is_flush op) (one_more old.flushes) old.flushes) reading);
      })
