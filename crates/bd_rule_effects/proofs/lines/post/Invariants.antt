use Rattle.std.proofs.Common.{◌≡◌, ◌-◌, ◌++◌, map}
use Rattle.std.specs.List.{range_with_len}
use Rattle.bd_machine.specs.Scripts.{mark_to}
use Rattle.bd_rule_effects.proofs.lines.post.Given as goal

abbrev pub invariant-loop-receiver : goal.invariant-loop-receiver
invariant-loop-receiver l = l.due ++ map (mark_to l.mark) (range_with_len l.receiver (l.threads - l.receiver)) ≡ l.fn.due ++ map (mark_to l.mark) (range_with_len 0 l.threads)
