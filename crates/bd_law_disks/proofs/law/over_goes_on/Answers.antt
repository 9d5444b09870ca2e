use Rattle.bd_law_disks.proofs.Over.{over_goes_on}
use Rattle.bd_law_disks.proofs.law.over_goes_on.Goals as goal

pub returns : goal.returns
returns c = over_goes_on
