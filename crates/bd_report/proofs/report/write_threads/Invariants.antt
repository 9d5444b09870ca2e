use Rattle.std.proofs.Common.{◌≡◌, ◌++◌, drop}
use Rattle.bd_report.specs.Report.{thread_lines}
use Rattle.bd_report.proofs.report.write_threads.Given as goal

abbrev pub invariant-loop-thread : goal.invariant-loop-thread
invariant-loop-thread l = l.out.items ++ thread_lines l.scripts l.thread (drop l.thread l.threads) ≡ l.fn.out.items ++ thread_lines l.scripts 0 l.threads
