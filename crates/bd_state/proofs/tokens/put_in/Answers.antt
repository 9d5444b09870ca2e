use Rattle.std.proofs.Common.{◌∙◌, rules}
use Rattle.bd_machine.specs.Same.{same_id}
use Rattle.bd_machine.proofs.Tables.{id_same}
use Rattle.bd_blocks.proofs.Written.{written_at, written_after}
use Rattle.bd_state.proofs.tokens.put_in.Goals as goal

pub returns-in-Some : goal.returns-in-Some
returns-in-Some c = c.set.ensures ∙ written_at same_id id_same c.args.id c.args.token c.args.tokens.now c.in-Some.i (search rules)

pub returns-in_ok-push-in-None : goal.returns-in_ok-push-in-None
returns-in_ok-push-in-None c = c.in_ok-push-in-None.ensures.ok ∙ written_after same_id id_same c.args.id c.args.token c.args.tokens.now (search rules)
