use Rattle.std.proofs.Common.{◌≡◌, ◌==◌, filter, length}
use Rattle.bd_machine.specs.BlockMap.{below, is_error}
use Rattle.bd_rule_requests.proofs.injections.counts_errors.Given as goal

abbrev pub invariant-loop-d : goal.invariant-loop-d
invariant-loop-d l = (l.left == length (filter (is_error l.setup) l.d-iterator)) ≡ (l.fn.count == length (filter (is_error l.setup) (below l.setup l.fn.dev)))
