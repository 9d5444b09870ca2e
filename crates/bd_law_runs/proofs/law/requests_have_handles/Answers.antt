use Rattle.bd_law_runs.proofs.Quiesce.{requests_have_handles}
use Rattle.bd_law_runs.proofs.law.requests_have_handles.Goals as goal

pub returns : goal.returns
returns c = requests_have_handles
