-- A trace with an index: what the index says, the trace says.
use Rattle.std.specs.Prelude.{List}
use Rattle.bd_base.specs.declared.act.Entry.{Entry}
use Rattle.bd_report.specs.declared.index.TraceIndex.TheInside.{Inside}
use Rattle.bd_report.specs.Index.{TellsOutcomes, TellsCompletions, TellsTold}

abbrev pub trace_of : Inside → List Entry
trace_of t = t.trace.now

pub record Tells (t : Inside) : Type 0 where
  pub outcomes : TellsOutcomes t.outcomes t.trace.now
  pub completions : TellsCompletions t.completions t.trace.now
  pub told : TellsTold t.told t.trace.now
