use Rattle.std.proofs.Common.{length}
use Rattle.bd_judge.proofs.tests.nodes.drop_disks.Given as goal

abbrev pub decreases-loop-disks : goal.decreases-loop-disks
decreases-loop-disks l = length l.left.items
