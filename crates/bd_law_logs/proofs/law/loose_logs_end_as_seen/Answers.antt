use Rattle.bd_law_logs.proofs.Restamped.{loose_logs_end_as_seen}
use Rattle.bd_law_logs.proofs.law.loose_logs_end_as_seen.Goals as goal

pub returns : goal.returns
returns c = loose_logs_end_as_seen
