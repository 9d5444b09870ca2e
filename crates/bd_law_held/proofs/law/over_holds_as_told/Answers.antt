use Rattle.bd_law_held.proofs.Over.{over_holds_as_told}
use Rattle.bd_law_held.proofs.law.over_holds_as_told.Goals as goal

pub returns : goal.returns
returns c = over_holds_as_told
