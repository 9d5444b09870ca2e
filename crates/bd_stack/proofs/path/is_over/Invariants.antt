use Rattle.std.proofs.Common.{◌≡◌}
use Rattle.std.specs.List.{list_all}
use Rattle.bd_machine.specs.BlockMap.{below, is_whole_or}
use Rattle.bd_stack.proofs.path.is_over.Given as goal

-- those that are left decide
abbrev pub invariant-loop-d : goal.invariant-loop-d
invariant-loop-d l = list_all (is_whole_or l.setup l.base) l.d-iterator ≡ list_all (is_whole_or l.setup l.base) (below l.setup l.fn.dev)
