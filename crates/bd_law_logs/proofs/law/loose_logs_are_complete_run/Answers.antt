use Rattle.bd_law_logs.proofs.Restamped.{loose_logs_are_complete_run}
use Rattle.bd_law_logs.proofs.law.loose_logs_are_complete_run.Goals as goal

pub returns : goal.returns
returns c = loose_logs_are_complete_run
