-- What was taken apart and what is left are all seats.
use Rattle.std.proofs.Common.{◌≡◌, ◌≤◌, ◌+◌, ◌++◌, length, map}
use Rattle.bd_node.specs.Disks.{disks_of}
use Rattle.bd_node.proofs.ending.take_all_apart.Given as goal

abbrev pub invariant-loop-seat : goal.invariant-loop-seat
invariant-loop-seat g l =
    record {
      room : length l.left.items + length l.shelf.items ≤ l.shelf.capacity;
      disks : l.shelf.items ++ disks_of l.left.items ≡ l.initial.shelf.items ++ disks_of l.fn.seats.items;
      passes : l.passes.items ++ map (λ s. s.passes) l.left.items ≡ map (λ s. s.passes) l.fn.seats.items;
    }

abbrev pub decreases-loop-seat : goal.decreases-loop-seat
decreases-loop-seat g l = length l.left.items
