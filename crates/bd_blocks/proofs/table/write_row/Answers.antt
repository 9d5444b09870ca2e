use Rattle.std.proofs.Common.{◌∙◌, rules}
use Rattle.bd_machine.specs.Same.{same_dev}
use Rattle.bd_blocks.proofs.Written.{written_at, written_after}
use Rattle.bd_blocks.proofs.Same.{dev_same}
use Rattle.bd_blocks.proofs.table.write_row.Goals as goal

pub returns-in-Some : goal.returns-in-Some
returns-in-Some g c = c.set.ensures ∙ written_at same_dev dev_same c.args.dev c.args.value c.args.table.now c.in-Some.i (search rules)

pub returns-in_ok-push-in-None : goal.returns-in_ok-push-in-None
returns-in_ok-push-in-None g c = c.in_ok-push-in-None.ensures.ok ∙ written_after same_dev dev_same c.args.dev c.args.value c.args.table.now (search rules)
