use Rattle.std.proofs.Common.{◌≡◌, map, take}
use Rattle.bd_report.specs.Order.{as_told, commands_of}
use Rattle.bd_report.proofs.order.commands_of.Given as goal

abbrev pub invariant-loop-script : goal.invariant-loop-script
invariant-loop-script l = map as_told l.commands.items ≡ commands_of (take l.script-index l.scripts)
