use Rattle.std.proofs.Common.{◌≡◌, filter}
use Rattle.bd_machine.specs.BlockMap.{below, is_delay}
use Rattle.bd_machine.specs.Delays.{counted_all}
use Rattle.bd_delay.proofs.latency.count_below.Given as goal

-- with the devices that are left, all are counted
abbrev pub invariant-loop-d : goal.invariant-loop-d
invariant-loop-d l = counted_all l.way l.part l.table (filter (is_delay l.setup) l.d-iterator) ≡ counted_all l.way l.part l.part.delayed (filter (is_delay l.setup) (below l.setup l.fn.dev))
