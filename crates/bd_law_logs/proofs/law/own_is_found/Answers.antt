use Rattle.bd_law_logs.proofs.OwnFollow.{own_is_found}
use Rattle.bd_law_logs.proofs.law.own_is_found.Goals as goal

pub returns : goal.returns
returns c = own_is_found
