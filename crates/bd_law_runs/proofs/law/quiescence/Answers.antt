use Rattle.bd_law_runs.proofs.Quiesce.{quiescence}
use Rattle.bd_law_runs.proofs.law.quiescence.Goals as goal

pub returns : goal.returns
returns c = quiescence
