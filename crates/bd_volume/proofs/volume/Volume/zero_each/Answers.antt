use Rattle.std.proofs.Common.{ℕ, ◌+◌, ◌≤◌, List, length, ◌∙◌, arith}
use Rattle.bd_volume.proofs.Steps.{zeroed_step}
use Rattle.bd_volume.proofs.volume.Volume.zero_each.Goals as goal

pub overflow_add-lba : goal.overflow_add-lba
overflow_add-lba c = omega (arith, c.requires, c.len-len.ensures, c.len-len.type_inv, c.loop-done.invariant.0)

pub overflow_add-lba-in-loop-done : goal.overflow_add-lba-in-loop-done
overflow_add-lba-in-loop-done c = omega (arith, c.requires, c.len-len.ensures, c.len-len.type_inv, c.loop-done.invariant.0)

pub loop-done-preserved : goal.loop-done-preserved
loop-done-preserved c =
    let old : List (List ℕ) = c.args.self.now.blocks in
    let inside : c.args.lba + c.loop-done.done + c.near-some.result ≤ length old = omega (arith, c.requires, c.near-some.ensures.most, c.loop-done.invariant.0) in (
      omega (arith, c.near-some.ensures.most, c.loop-done.invariant.0),
      c.in_ok-zero_one.ensures.cluster ∙ c.loop-done.invariant.1,
      c.in_ok-zero_one.ensures.ok ∙ zeroed_step c.args.lba c.loop-done.done c.near-some.result old c.loop-done.self.blocks inside c.loop-done.invariant.2,
    )
