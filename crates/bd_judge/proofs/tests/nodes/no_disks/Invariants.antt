use Rattle.std.proofs.Common.{◌≡◌, ◌≤◌, length}
use Rattle.bd_judge.proofs.tests.nodes.no_disks.Given as goal

abbrev pub invariant-loop : goal.invariant-loop
invariant-loop l = record {
  many : length l.shelf.items ≡ l.counter;
  room : l.threads ≤ l.shelf.capacity;
}
