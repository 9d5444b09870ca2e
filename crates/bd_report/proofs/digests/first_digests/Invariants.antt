use Rattle.std.proofs.Common.{take}
use Rattle.bd_report.specs.Index.{TellsDigests}
use Rattle.bd_report.proofs.digests.first_digests.Given as goal

abbrev pub invariant-loop-entry : goal.invariant-loop-entry
invariant-loop-entry l = TellsDigests l.digests (take l.entry-index l.trace)
