use Rattle.std.proofs.Common.{sym, ◌∙◌}
use Rattle.bd_machine.specs.Users.{dev_of, shares_handle}
use Rattle.bd_stack.proofs.Numbered.{filter_leaves, filter_takes}
use Rattle.bd_stack.proofs.groups.sharing.Goals as goal
use Rattle.bd_stack.proofs.groups.sharing.Goals.{then-are_of_group+in_ok-push, else-are_of_group}

pub loop-number-preserved : goal.loop-number-preserved
loop-number-preserved c =
    let test = shares_handle c.args.setup.now (dev_of c.args.first) in
    elim c.if-are_of_group.branch [
      | then-are_of_group+in_ok-push w ↦ record {
        count = c.loop-number.invariant.count;
        found = w.found-is ∙ filter_takes test c.loop-number.found _ c.loop-number.number c.loop-number.invariant.found (sym c.are_of_group.ensures ∙ w.if-are_of_group.true) w.in_ok-push.ensures.ok;
      }
      | else-are_of_group w ↦ record {
        count = c.loop-number.invariant.count;
        found = w.found-is ∙ filter_leaves test c.loop-number.found c.loop-number.number c.loop-number.invariant.found (sym c.are_of_group.ensures ∙ w.if-are_of_group.false);
      }
    ]
