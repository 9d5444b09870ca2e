use Rattle.bd_law_logs.proofs.Merged.{logs_are_run}
use Rattle.bd_law_logs.proofs.law.logs_are_run.Goals as goal

pub returns : goal.returns
returns c = logs_are_run
