use Rattle.std.proofs.Common.{◌≡◌, ◌-◌}
use Rattle.std.specs.List.{list_any, range_with_len}
use Rattle.bd_thread.specs.Work.{is_left_at}
use Rattle.bd_thread.proofs.thread.Thread.has_left.Given as goal

abbrev pub invariant-loop-n : goal.invariant-loop-n
invariant-loop-n l = list_any (is_left_at l.self l.links) (range_with_len l.n (l.count - l.n)) ≡ list_any (is_left_at l.self l.links) (range_with_len 0 l.count)
