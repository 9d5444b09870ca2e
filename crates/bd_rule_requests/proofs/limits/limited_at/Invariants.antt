use Rattle.std.proofs.Common.{◌≡◌, filter}
use Rattle.std.specs.List.{slice_get}
use Rattle.bd_machine.specs.BlockMap.{below}
use Rattle.bd_machine.specs.Limits.{counts_way, rates_of}
use Rattle.bd_rule_requests.proofs.limits.limited_at.Given as goal

abbrev pub invariant-loop-d : goal.invariant-loop-d
invariant-loop-d l = slice_get (filter (λ d. counts_way l.way (rates_of l.setup d)) l.d-iterator) l.before ≡ slice_get (filter (λ d. counts_way l.way (rates_of l.setup d)) (below l.setup l.fn.dev)) l.fn.place
