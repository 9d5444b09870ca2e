use Rattle.bd_law_disks.proofs.Over.{over_keeps_bases}
use Rattle.bd_law_disks.proofs.law.over_keeps_bases.Goals as goal

pub returns : goal.returns
returns c = over_keeps_bases
