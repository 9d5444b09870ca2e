use Rattle.std.proofs.Common.{◌==◌, ◌∙◌, rules}
use Rattle.bd_machine.proofs.Tables.{nat_same}
use Rattle.bd_rule_effects.proofs.Written.{written_at, written_behind}
use Rattle.bd_rule_effects.proofs.counts.write_count.Goals as goal

pub returns-in-Some : goal.returns-in-Some
returns-in-Some c = c.set.ensures ∙ written_at ◌==◌ nat_same c.args.thread c.args.count c.args.table.now c.in-Some.i (search rules)

pub returns-in_ok-push-in-None : goal.returns-in_ok-push-in-None
returns-in_ok-push-in-None c = c.in_ok-push-in-None.ensures.ok ∙ written_behind ◌==◌ nat_same c.args.thread c.args.count c.args.table.now (search rules)
