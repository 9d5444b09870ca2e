use Rattle.std.proofs.Common.{◌≡◌, ◌+◌, length}
use Rattle.bd_jobs.specs.Generated.{generated_commands, generated_scripts}
use Rattle.bd_jobs.proofs.generated.generated_scripts.Given as goal

abbrev pub invariant-loop-thread : goal.invariant-loop-thread
invariant-loop-thread l = record {
  first : l.first ≡ 1 + length (generated_commands l.n l.thread);
  scripts : l.scripts.items ≡ generated_scripts l.n l.thread;
}
