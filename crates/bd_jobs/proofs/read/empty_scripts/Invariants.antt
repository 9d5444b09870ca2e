use Rattle.std.proofs.Common.{◌≡◌, []}
use Rattle.bd_jobs.specs.Held.{all_scripts}
use Rattle.bd_jobs.proofs.read.empty_scripts.Given as goal

abbrev pub invariant-loop-thread : goal.invariant-loop-thread
invariant-loop-thread l = l.scripts.items ≡ all_scripts [] l.thread
