use Rattle.bd_judge.proofs.Determined.{verdict_is_determined}
use Rattle.bd_judge.proofs.law.verdict_is_determined.Goals as goal

pub returns : goal.returns
returns c = verdict_is_determined
