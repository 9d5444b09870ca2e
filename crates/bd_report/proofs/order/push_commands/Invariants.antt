use Rattle.std.proofs.Common.{◌≡◌, ◌++◌, map, take}
use Rattle.bd_report.specs.Order.{as_told}
use Rattle.bd_report.proofs.order.push_commands.Given as goal

abbrev pub invariant-loop-line : goal.invariant-loop-line
invariant-loop-line l = map as_told l.commands.items ≡ map as_told l.fn.commands.items ++ map (λ line. (l.script.thread, line)) (take l.line-index l.script.lines)
