use Rattle.std.proofs.Common.{◌≡◌, ◌+◌}
use Rattle.std.specs.Prelude.{sum_by}
use Rattle.bd_machine.specs.BlockMap.{below}
use Rattle.bd_machine.specs.Delays.{latency_at}
use Rattle.bd_delay.proofs.latency.latency_below.Given as goal

-- the sum so far, and that of the devices that are left, are the whole
abbrev pub invariant-loop-d : goal.invariant-loop-d
invariant-loop-d l = l.sum + sum_by (latency_at l.setup l.part l.way) l.d-iterator ≡ sum_by (latency_at l.setup l.part l.way) (below l.setup l.fn.dev)
