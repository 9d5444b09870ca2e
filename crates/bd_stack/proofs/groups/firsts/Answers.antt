use Rattle.std.proofs.Common.{sym, ◌∙◌}
use Rattle.bd_machine.specs.Users.{is_first}
use Rattle.bd_stack.proofs.Numbered.{filter_leaves, filter_takes}
use Rattle.bd_stack.proofs.groups.firsts.Goals as goal
use Rattle.bd_stack.proofs.groups.firsts.Goals.{then-is_first+in_ok-push, else-is_first}

pub loop-number-preserved : goal.loop-number-preserved
loop-number-preserved c =
    let test = is_first c.args.setup.now in
    elim c.if-is_first.branch [
      | then-is_first+in_ok-push w ↦ record {
        count = c.loop-number.invariant.count;
        found = w.found-is ∙ filter_takes test c.loop-number.found _ c.loop-number.number c.loop-number.invariant.found (sym c.is_first.ensures ∙ w.if-is_first.true) w.in_ok-push.ensures.ok;
      }
      | else-is_first w ↦ record {
        count = c.loop-number.invariant.count;
        found = w.found-is ∙ filter_leaves test c.loop-number.found c.loop-number.number c.loop-number.invariant.found (sym c.is_first.ensures ∙ w.if-is_first.false);
      }
    ]
