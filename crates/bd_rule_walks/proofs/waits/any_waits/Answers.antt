use Rattle.std.proofs.Common.{◌∙◌}
use Rattle.bd_rule_walks.proofs.Counted.{counted_is}
use Rattle.bd_rule_walks.proofs.waits.any_waits.Goals as goal

pub returns-in-Some : goal.returns-in-Some
returns-in-Some c = c.any_counted.ensures ∙ counted_is c.args.setup.now c.args.dev c.in-Some.counts.now c.args.requests.now c.in-Some.ensures.counts
