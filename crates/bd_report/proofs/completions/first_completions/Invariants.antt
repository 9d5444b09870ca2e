use Rattle.std.proofs.Common.{take}
use Rattle.bd_report.specs.Index.{TellsCompletions}
use Rattle.bd_report.proofs.completions.first_completions.Given as goal

abbrev pub invariant-loop-entry : goal.invariant-loop-entry
invariant-loop-entry l = TellsCompletions l.completions (take l.entry-index l.trace)
