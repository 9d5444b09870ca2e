use Rattle.std.proofs.Common.{◌≡◌, filter}
use Rattle.std.specs.List.{slice_get}
use Rattle.bd_machine.specs.BlockMap.{below, is_error}
use Rattle.bd_rule_requests.proofs.injections.is_error_at.Given as goal

abbrev pub invariant-loop-d : goal.invariant-loop-d
invariant-loop-d l = slice_get (filter (is_error l.setup) l.d-iterator) l.before ≡ slice_get (filter (is_error l.setup) (below l.setup l.fn.dev)) l.fn.place
