use Rattle.bd_law_disks.proofs.Start.{start_is_told}
use Rattle.bd_law_disks.proofs.law.start_is_told.Goals as goal

pub returns : goal.returns
returns c = start_is_told
