use Rattle.bd_law_disks.proofs.Acts.{guards_are_same}
use Rattle.bd_law_disks.proofs.law.guards_are_same.Goals as goal

pub returns : goal.returns
returns c = guards_are_same
