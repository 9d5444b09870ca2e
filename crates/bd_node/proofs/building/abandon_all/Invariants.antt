use Rattle.std.proofs.Common.{◌+◌, ◌++◌, ◌≤◌, length, vec_len, IsPermutation}
use Rattle.bd_node.specs.Disks.{disks_of}
use Rattle.bd_node.proofs.building.abandon_all.Given as goal

abbrev pub invariant-loop-seat : goal.invariant-loop-seat
invariant-loop-seat g l = record {
  room : vec_len l.left + length l.shelf.items ≤ l.shelf.capacity;
  all : IsPermutation (l.initial.shelf.items ++ disks_of l.fn.seats.items) (l.shelf.items ++ disks_of l.left.items);
}

abbrev pub decreases-loop-seat : goal.decreases-loop-seat
decreases-loop-seat g l = vec_len l.left
