use Rattle.std.proofs.Common.{◌≡◌, ◌≤◌, ◌++◌, length}
use Rattle.bd_disk_pool.proofs.disks.put_all.Given as goal

abbrev pub invariant-loop-own : goal.invariant-loop-own
invariant-loop-own g l = record {
  items : l.shelf.items ++ l.left.items ≡ l.fn.threads.items;
  room : length l.fn.threads.items ≤ l.shelf.capacity;
}

abbrev pub decreases-loop-own : goal.decreases-loop-own
decreases-loop-own g l = length l.left.items
