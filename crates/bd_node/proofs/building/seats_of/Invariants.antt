use Rattle.std.proofs.Common.{◌≡◌, ◌+◌, ◌≤◌, ◌++◌, drop, length}
use Rattle.bd_node.specs.Disks.{disks_of}
use Rattle.bd_node.specs.Starting.{AreNewSeats}
use Rattle.bd_node.proofs.building.seats_of.Given as goal

abbrev pub invariant-loop-me : goal.invariant-loop-me
invariant-loop-me g l = record {
  len : length l.seats.items ≡ l.me;
  left : l.left.items ≡ drop l.me l.initial.left.items;
  many : length l.shelf.items + l.me ≡ l.setup.threads;
  room : l.setup.threads ≤ l.shelf.capacity;
  disks : disks_of l.seats.items ++ l.shelf.items ≡ l.initial.shelf.items;
  each : AreNewSeats l.setup l.initial.left.items l.seats.items;
}
