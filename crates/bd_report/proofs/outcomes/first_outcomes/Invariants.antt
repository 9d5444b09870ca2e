use Rattle.std.proofs.Common.{take}
use Rattle.bd_report.specs.Index.{TellsOutcomes}
use Rattle.bd_report.proofs.outcomes.first_outcomes.Given as goal

abbrev pub invariant-loop-entry : goal.invariant-loop-entry
invariant-loop-entry l = TellsOutcomes l.outcomes (take l.entry-index l.trace)
