use Rattle.std.proofs.Common.{◌≡◌}
use Rattle.std.specs.List.{list_any}
use Rattle.bd_machine.specs.BlockMap.{below}
use Rattle.bd_machine.specs.Same.{same_dev}
use Rattle.bd_stack.proofs.path.is_below.Given as goal

abbrev pub invariant-loop-d : goal.invariant-loop-d
invariant-loop-d l = list_any (same_dev l.lower) l.d-iterator ≡ list_any (same_dev l.lower) (below l.setup l.fn.dev)
