use Rattle.bd_law_disks.proofs.Over.{own_is_over}
use Rattle.bd_law_disks.proofs.law.own_is_over.Goals as goal

pub returns : goal.returns
returns c = own_is_over
