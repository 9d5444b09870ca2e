use Rattle.bd_law_served.proofs.Over.{own_serves_none}
use Rattle.bd_law_served.proofs.law.own_serves_none.Goals as goal

pub returns : goal.returns
returns c = own_serves_none
