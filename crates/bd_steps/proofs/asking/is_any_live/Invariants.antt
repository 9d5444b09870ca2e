use Rattle.std.proofs.Common.{◌≡◌, ◌-◌}
use Rattle.std.specs.List.{list_any, range_with_len}
use Rattle.bd_steps.specs.Asking.{is_live_at}
use Rattle.bd_steps.proofs.asking.is_any_live.Given as goal

abbrev pub invariant-loop-n : goal.invariant-loop-n
invariant-loop-n g l = list_any (is_live_at (g.R.Records.registry_of l.registry)) (range_with_len l.n (l.count - l.n)) ≡ list_any (is_live_at (g.R.Records.registry_of l.registry)) (range_with_len 0 l.count)
