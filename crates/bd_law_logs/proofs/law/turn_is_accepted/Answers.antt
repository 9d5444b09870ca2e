use Rattle.bd_law_logs.proofs.Turning.{turn_is_accepted}
use Rattle.bd_law_logs.proofs.law.turn_is_accepted.Goals as goal

pub returns : goal.returns
returns c = turn_is_accepted
