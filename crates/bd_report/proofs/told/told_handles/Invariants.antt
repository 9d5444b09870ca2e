use Rattle.std.proofs.Common.{take}
use Rattle.bd_report.specs.Index.{TellsTold, TellsClosed}
use Rattle.bd_report.proofs.told.told_handles.Given as goal

abbrev pub invariant-loop-entry : goal.invariant-loop-entry
invariant-loop-entry l = record {
  told : TellsTold l.told (take l.entry-index l.trace);
  closed : TellsClosed l.closed (take l.entry-index l.trace);
}
