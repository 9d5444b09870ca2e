use Rattle.bd_law_served.proofs.Over.{over_serves_on}
use Rattle.bd_law_served.proofs.law.over_serves_on.Goals as goal

pub returns : goal.returns
returns c = over_serves_on
