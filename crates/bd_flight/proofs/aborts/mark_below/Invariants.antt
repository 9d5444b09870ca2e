use Rattle.std.proofs.Common.{◌≡◌, find}
use Rattle.bd_machine.specs.BlockMap.{below}
use Rattle.bd_machine.specs.Marks.{stops_here}
use Rattle.bd_flight.proofs.aborts.mark_below.Given as goal

abbrev pub invariant-loop-d : goal.invariant-loop-d
invariant-loop-d l = find (stops_here l.part l.r.late) l.d-iterator ≡ find (stops_here l.part l.r.late) (below l.setup l.r.dev)
