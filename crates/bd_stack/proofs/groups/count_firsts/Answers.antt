use Rattle.std.proofs.Common.{arith, sym, ◌∙◌}
use Rattle.bd_machine.specs.Users.{is_first}
use Rattle.bd_stack.proofs.Numbered.{count_leaves, count_takes}
use Rattle.bd_stack.proofs.groups.count_firsts.Goals as goal
use Rattle.bd_stack.proofs.groups.count_firsts.Goals.{then-is_first, else-is_first}

pub loop-number-preserved : goal.loop-number-preserved
loop-number-preserved c =
    let test = is_first c.args.setup.now in
    let number = c.loop-number.number in
    elim c.if-is_first.branch [
      | then-is_first w ↦
          let more = count_takes test number (sym c.is_first.ensures ∙ w.if-is_first.true) in
          record { count = omega (arith, w.count-is, more, c.loop-number.invariant.count); low = omega (arith, w.count-is, c.loop-number.invariant.low) }
      | else-is_first w ↦
          let same = count_leaves test number (sym c.is_first.ensures ∙ w.if-is_first.false) in
          record { count = omega (arith, w.count-is, same, c.loop-number.invariant.count); low = omega (arith, w.count-is, c.loop-number.invariant.low) }
    ]
