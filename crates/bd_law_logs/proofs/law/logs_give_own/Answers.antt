use Rattle.bd_law_logs.proofs.Having.{logs_give_own}
use Rattle.bd_law_logs.proofs.law.logs_give_own.Goals as goal

pub returns : goal.returns
returns c = logs_give_own
