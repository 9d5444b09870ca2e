use Rattle.bd_law_served.proofs.Over.{over_serves_as_told}
use Rattle.bd_law_served.proofs.law.over_serves_as_told.Goals as goal

pub returns : goal.returns
returns c = over_serves_as_told
