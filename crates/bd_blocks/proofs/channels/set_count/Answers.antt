use Rattle.std.proofs.Common.{◌∙◌, rules}
use Rattle.bd_machine.specs.Same.{same_channel}
use Rattle.bd_machine.proofs.Tables.{channel_same}
use Rattle.bd_blocks.proofs.Written.{written_at, written_after}
use Rattle.bd_blocks.proofs.channels.set_count.Goals as goal

pub returns-in-Some : goal.returns-in-Some
returns-in-Some c = c.set.ensures ∙ written_at same_channel channel_same (record { dev = c.args.dev; thread = c.args.thread }) c.args.count c.args.channels.now c.in-Some.place (search rules)

pub returns-in_ok-push-in-None : goal.returns-in_ok-push-in-None
returns-in_ok-push-in-None c = c.in_ok-push-in-None.ensures.ok ∙ written_after same_channel channel_same (record { dev = c.args.dev; thread = c.args.thread }) c.args.count c.args.channels.now (search rules)
