use Rattle.bd_law_disks.proofs.Start.{memory_is_apart}
use Rattle.bd_law_disks.proofs.law.memory_is_apart.Goals as goal

pub returns : goal.returns
returns c = memory_is_apart
