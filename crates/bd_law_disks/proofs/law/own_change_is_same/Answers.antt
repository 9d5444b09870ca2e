use Rattle.bd_law_disks.proofs.Acts.{own_change_is_same}
use Rattle.bd_law_disks.proofs.law.own_change_is_same.Goals as goal

pub returns : goal.returns
returns c = own_change_is_same
