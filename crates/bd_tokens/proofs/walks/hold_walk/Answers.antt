use Rattle.std.proofs.Common.{◌∙◌, rules}
use Rattle.bd_machine.specs.Same.{same_walk}
use Rattle.bd_rule_effects.proofs.Written.{written_at, written_behind}
use Rattle.bd_tokens.proofs.Listed.{walk_same}
use Rattle.bd_tokens.proofs.walks.hold_walk.Goals as goal

pub returns-in-Some-clause-ok : goal.returns-in-Some-clause-ok
returns-in-Some-clause-ok c = written_at same_walk walk_same c.args.id c.args.kept c.args.walks.now.items c.in-Some.place (search rules)

pub returns-in_ok-push-in-None-clause-ok : goal.returns-in_ok-push-in-None-clause-ok
returns-in_ok-push-in-None-clause-ok c = c.in_ok-push-in-None.ensures.items ∙ written_behind same_walk walk_same c.args.id c.args.kept c.args.walks.now.items (search rules)
