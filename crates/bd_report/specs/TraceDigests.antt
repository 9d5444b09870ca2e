-- A trace with its digests: what they say, the trace says.
use Rattle.std.specs.Prelude.{List}
use Rattle.bd_base.specs.declared.act.Entry.{Entry}
use Rattle.bd_report.specs.declared.digests.Digests.TheInside.{Inside}
use Rattle.bd_report.specs.Index.{TellsDigests}

abbrev pub trace_of : Inside → List Entry
trace_of d = d.trace.now

abbrev pub Tells : Inside → Type 0
Tells d = TellsDigests d.first d.trace.now
