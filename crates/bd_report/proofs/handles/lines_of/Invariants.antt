use Rattle.std.proofs.Common.{◌≡◌, drop}
use Rattle.bd_report.specs.Report.{lines_of}
use Rattle.bd_report.proofs.handles.lines_of.Given as goal

abbrev pub invariant-loop-script : goal.invariant-loop-script
invariant-loop-script l = lines_of (drop l.script-index l.scripts) l.thread ≡ lines_of l.scripts l.thread
