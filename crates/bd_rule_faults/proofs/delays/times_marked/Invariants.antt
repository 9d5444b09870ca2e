use Rattle.std.proofs.Common.{◌≡◌, ◌+◌}
use Rattle.std.specs.Prelude.{sum_by}
use Rattle.bd_machine.specs.BlockMap.{below}
use Rattle.bd_machine.specs.Marks.{times_of}
use Rattle.bd_rule_faults.proofs.delays.times_marked.Given as goal

-- the sum so far, and that of the devices that are left, are the whole
abbrev pub invariant-loop-d : goal.invariant-loop-d
invariant-loop-d l = l.sum + sum_by (times_of l.part) l.d-iterator ≡ sum_by (times_of l.part) (below l.setup l.fn.dev)
