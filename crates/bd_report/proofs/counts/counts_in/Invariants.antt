use Rattle.std.proofs.Common.{◌≡◌, None, take}
use Rattle.bd_report.specs.Counts.{counts_of}
use Rattle.bd_report.proofs.counts.counts_in.Given as goal

abbrev pub invariant-loop-entry : goal.invariant-loop-entry
invariant-loop-entry l = l.counts ≡ counts_of None (take l.entry-index l.entries)
