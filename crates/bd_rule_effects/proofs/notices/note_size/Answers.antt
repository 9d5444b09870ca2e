use Rattle.std.proofs.Common.{◌∙◌, rules}
use Rattle.bd_machine.specs.Same.{same_handle}
use Rattle.bd_rule_effects.proofs.Handles.{handle_same}
use Rattle.bd_rule_effects.proofs.Written.{written_at, written_behind}
use Rattle.bd_rule_effects.proofs.notices.note_size.Goals as goal

pub returns-in-Some : goal.returns-in-Some
returns-in-Some c = c.set.ensures ∙ written_at same_handle handle_same c.args.handle c.args.blocks c.args.sizes.now c.in-Some.i (search rules)

pub returns-in_ok-push-in-None : goal.returns-in_ok-push-in-None
returns-in_ok-push-in-None c = c.in_ok-push-in-None.ensures.ok ∙ written_behind same_handle handle_same c.args.handle c.args.blocks c.args.sizes.now (search rules)
