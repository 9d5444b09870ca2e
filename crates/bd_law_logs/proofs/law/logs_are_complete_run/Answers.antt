use Rattle.bd_law_logs.proofs.Complete.{logs_are_complete_run}
use Rattle.bd_law_logs.proofs.law.logs_are_complete_run.Goals as goal

pub returns : goal.returns
returns c = logs_are_complete_run
