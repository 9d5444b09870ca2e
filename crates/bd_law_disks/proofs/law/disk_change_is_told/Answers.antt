use Rattle.bd_law_disks.proofs.Disk.{disk_change_is_told}
use Rattle.bd_law_disks.proofs.law.disk_change_is_told.Goals as goal

pub returns : goal.returns
returns c = disk_change_is_told
