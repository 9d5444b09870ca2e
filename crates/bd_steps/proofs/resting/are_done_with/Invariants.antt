use Rattle.std.proofs.Common.{◌≡◌, ◌-◌}
use Rattle.std.specs.List.{list_all, range_with_len}
use Rattle.bd_steps.specs.Resting.{is_done_with}
use Rattle.bd_steps.proofs.resting.are_done_with.Given as goal

abbrev pub invariant-loop-n : goal.invariant-loop-n
invariant-loop-n l = list_all (is_done_with l.setup l.me l.destructed) (range_with_len l.n (l.count - l.n)) ≡ list_all (is_done_with l.setup l.me l.destructed) (range_with_len 0 l.count)
