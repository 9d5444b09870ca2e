use Rattle.bd_law_disks.proofs.Kept.{start_is_once}
use Rattle.bd_law_disks.proofs.law.start_is_once.Goals as goal

pub returns : goal.returns
returns c = start_is_once
