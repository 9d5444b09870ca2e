use Rattle.bd_law_disks.proofs.Over.{over_is_told}
use Rattle.bd_law_disks.proofs.law.over_is_told.Goals as goal

pub returns : goal.returns
returns c = over_is_told
