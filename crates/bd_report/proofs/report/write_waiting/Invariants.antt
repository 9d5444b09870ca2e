use Rattle.std.proofs.Common.{◌≡◌, ◌++◌, flat_map, take}
use Rattle.bd_report.specs.Report.{waiting_line}
use Rattle.bd_report.proofs.report.write_waiting.Given as goal

abbrev pub invariant-loop-command : goal.invariant-loop-command
invariant-loop-command l = l.out.items ≡ l.fn.out.items ++ flat_map waiting_line (take l.command-index l.waiting)
