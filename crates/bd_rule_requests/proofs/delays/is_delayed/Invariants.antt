use Rattle.std.proofs.Common.{◌≡◌}
use Rattle.std.specs.List.{list_any}
use Rattle.bd_machine.specs.BlockMap.{below, is_delay}
use Rattle.bd_rule_requests.proofs.delays.is_delayed.Given as goal

abbrev pub invariant-loop-d : goal.invariant-loop-d
invariant-loop-d l = list_any (is_delay l.setup) l.d-iterator ≡ list_any (is_delay l.setup) (below l.setup l.fn.r.dev)
