use Rattle.std.proofs.Common.{◌≡◌}
use Rattle.std.specs.List.{list_any}
use Rattle.bd_machine.specs.BlockMap.{below}
use Rattle.bd_machine.specs.Marks.{has_mark}
use Rattle.bd_rule_requests.proofs.marks.has_any_mark.Given as goal

abbrev pub invariant-loop-d : goal.invariant-loop-d
invariant-loop-d l = list_any (has_mark l.part) l.d-iterator ≡ list_any (has_mark l.part) (below l.setup l.fn.dev)
