use Rattle.std.proofs.Common.{◌≡◌, length}
use Rattle.bd_disk_pool.specs.Closing.{closing_all, KeepsCounts}
use Rattle.bd_disk_pool.proofs.closing.close_shelf.Given as goal

abbrev pub invariant-loop-own : goal.invariant-loop-own
invariant-loop-own g l = record {
  counts : KeepsCounts (g.H.Host.state l.fn.host) (g.H.Host.state l.host);
  openings : closing_all g.H.Disk.Disk.state l.fn.names l.shelf.items (g.H.Host.state l.host).openings ≡ closing_all g.H.Disk.Disk.state l.fn.names l.fn.shelf.items (g.H.Host.state l.fn.host).openings;
}

abbrev pub decreases-loop-own : goal.decreases-loop-own
decreases-loop-own g l = length l.shelf.items
