use Rattle.std.proofs.Common.{◌≡◌, length}
use Rattle.bd_disk_pool.specs.Closing.{closing_each, KeepsCounts}
use Rattle.bd_disk_pool.proofs.closing.close_own.Given as goal

abbrev pub invariant-loop-dev : goal.invariant-loop-dev
invariant-loop-dev g l = record {
  counts : KeepsCounts (g.H.Host.state l.fn.host) (g.H.Host.state l.host);
  openings : closing_each g.H.Disk.Disk.state l.fn.names l.left.items (g.H.Host.state l.host).openings ≡ closing_each g.H.Disk.Disk.state l.fn.names l.fn.disks (g.H.Host.state l.fn.host).openings;
}

abbrev pub decreases-loop-dev : goal.decreases-loop-dev
decreases-loop-dev g l = length l.left.items
