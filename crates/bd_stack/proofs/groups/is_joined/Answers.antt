use Rattle.std.proofs.Common.{sym, ◌∙◌}
use Rattle.bd_machine.specs.Users.{dev_of, shares_handle}
use Rattle.bd_stack.proofs.Numbered.{any_of, none_more}
use Rattle.bd_stack.proofs.groups.is_joined.Goals as goal

pub returns-then-are_of_group : goal.returns-then-are_of_group
returns-then-are_of_group c =
    sym (any_of (shares_handle c.args.setup.now (dev_of c.args.number)) c.args.number c.loop-earlier.earlier c.loop-earlier-test.true (sym c.are_of_group.ensures ∙ c.if-are_of_group.true))

pub loop-earlier-preserved : goal.loop-earlier-preserved
loop-earlier-preserved c =
    none_more (shares_handle c.args.setup.now (dev_of c.args.number)) c.loop-earlier.earlier c.loop-earlier.invariant (sym c.are_of_group.ensures ∙ c.if-are_of_group.false)
