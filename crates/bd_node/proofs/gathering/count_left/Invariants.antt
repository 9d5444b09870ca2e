use Rattle.std.proofs.Common.{◌≡◌, ◌≤◌, take, sum_by}
use Rattle.bd_worker.specs.Seats.{made_by}
use Rattle.bd_node.proofs.gathering.count_left.Given as goal

abbrev pub invariant-loop-seat : goal.invariant-loop-seat
invariant-loop-seat g l = record { fits : l.total ≤ 18446744073709551615; all : l.total ≡ sum_by made_by (take l.seat-index l.seats) }
