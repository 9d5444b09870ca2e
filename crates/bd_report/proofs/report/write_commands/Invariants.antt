use Rattle.std.proofs.Common.{◌≡◌, ◌++◌, flat_map, take}
use Rattle.bd_report.specs.Order.{command_line}
use Rattle.bd_report.proofs.report.write_commands.Given as goal

abbrev pub invariant-loop-command : goal.invariant-loop-command
invariant-loop-command l = l.out.items ≡ l.fn.out.items ++ flat_map (command_line l.index) (take l.command-index l.commands)
