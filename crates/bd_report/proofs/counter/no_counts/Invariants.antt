use Rattle.std.proofs.Common.{◌≡◌, []}
use Rattle.bd_report.specs.Counts.{thread_counts}
use Rattle.bd_report.proofs.counter.no_counts.Given as goal

abbrev pub invariant-loop-thread : goal.invariant-loop-thread
invariant-loop-thread l = l.counts ≡ thread_counts l._thread []
