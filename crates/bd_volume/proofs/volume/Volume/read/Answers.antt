use Rattle.std.proofs.Common.{ℕ, List, ◌++◌, ap₂, ◌∙◌, arith}
use Rattle.bd_volume.proofs.Steps.{read_more}
use Rattle.bd_volume.proofs.volume.Volume.read.Goals as goal

pub overflow_add-lba : goal.overflow_add-lba
overflow_add-lba c = omega (arith, c.requires, c.len-len.ensures, c.len-len.type_inv, c.loop-done.invariant.0)

pub overflow_add-lba-in-loop-done : goal.overflow_add-lba-in-loop-done
overflow_add-lba-in-loop-done c = omega (arith, c.requires, c.len-len.ensures, c.len-len.type_inv, c.loop-done.invariant.0)

pub loop-done-preserved : goal.loop-done-preserved
loop-done-preserved c = (
  omega (arith, c.near-some.ensures.most, c.loop-done.invariant.0),
  c.in_ok-extend_from_slice.ensures.items
      ∙ ap₂ (λ (a b : List ℕ). a ++ b) c.loop-done.invariant.1 (c.as_slice.ensures ∙ c.in_ok-part.ensures)
      ∙ read_more c.args.lba c.loop-done.done c.near-some.result c.args.self.now.blocks,
)
