use Rattle.std.proofs.Common.{◌≡◌, ◌&&◌, ◌==◌, is_some, not}
use Rattle.bd_machine.specs.Registry.{references}
use Rattle.bd_machine.specs.Threads.{bits_of}
use Rattle.bd_rule_registry.proofs.bare.other_threads_of.Given as goal

abbrev pub invariant-loop-t : goal.invariant-loop-t
invariant-loop-t g l = l.threads.0 ≡ bits_of (λ u. not (l.thread == u) && is_some (references (g.R.Records.registry_of l.registry) u l.dev)) l.t
