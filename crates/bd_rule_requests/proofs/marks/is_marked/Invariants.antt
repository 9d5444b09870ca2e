use Rattle.std.proofs.Common.{◌≡◌}
use Rattle.std.specs.List.{list_any}
use Rattle.bd_machine.specs.BlockMap.{below}
use Rattle.bd_machine.specs.Marks.{stops_here}
use Rattle.bd_rule_requests.proofs.marks.is_marked.Given as goal

abbrev pub invariant-loop-d : goal.invariant-loop-d
invariant-loop-d l = list_any (stops_here l.part l.r.late) l.d-iterator ≡ list_any (stops_here l.part l.r.late) (below l.setup l.r.dev)
