use Rattle.std.proofs.Common.{◌≡◌, ◌-◌}
use Rattle.std.specs.List.{list_all, range_with_len}
use Rattle.bd_machine.specs.Run.{is_destructed}
use Rattle.bd_state.proofs.finished.all_destructed.Given as goal

abbrev pub invariant-loop-n : goal.invariant-loop-n
invariant-loop-n l = list_all (is_destructed l.setup l.state) (range_with_len l.n (l.count - l.n)) ≡ list_all (is_destructed l.setup l.state) (range_with_len 0 l.count)
