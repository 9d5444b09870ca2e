use Rattle.std.proofs.Common.{◌≡◌}
use Rattle.bd_jobs.specs.Generated.{generated}
use Rattle.bd_jobs.proofs.generator.generate.Given as goal

abbrev pub invariant-loop-thread : goal.invariant-loop-thread
invariant-loop-thread l = l.text.items ≡ generated l.n l.thread
