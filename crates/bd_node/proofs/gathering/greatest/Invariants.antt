use Rattle.std.proofs.Common.{◌≡◌, ◌≤◌, All, take}
use Rattle.bd_node.specs.Gathering.{greatest_last}
use Rattle.bd_node.proofs.gathering.greatest.Given as goal

abbrev pub invariant-loop-seat : goal.invariant-loop-seat
invariant-loop-seat g l = record {
  is : l.greatest ≡ greatest_last (take l.seat-index l.seats);
  above : All (λ s. s.worker.log.last ≤ l.greatest) (take l.seat-index l.seats);
}
