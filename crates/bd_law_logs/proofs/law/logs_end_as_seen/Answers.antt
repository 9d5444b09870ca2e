use Rattle.bd_law_logs.proofs.Complete.{logs_end_as_seen}
use Rattle.bd_law_logs.proofs.law.logs_end_as_seen.Goals as goal

pub returns : goal.returns
returns c = logs_end_as_seen
