use Rattle.bd_law_logs.proofs.Having.{others_leave_own}
use Rattle.bd_law_logs.proofs.law.others_leave_own.Goals as goal

pub returns : goal.returns
returns c = others_leave_own
