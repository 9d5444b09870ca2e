use Rattle.std.proofs.Common.{◌≡◌, is_some}
use Rattle.bd_machine.specs.Registry.{references}
use Rattle.bd_machine.specs.Threads.{bits_of}
use Rattle.bd_rule_registry.proofs.bare.threads_of.Given as goal

abbrev pub invariant-loop-t : goal.invariant-loop-t
invariant-loop-t g l = l.threads.0 ≡ bits_of (λ t. is_some (references (g.R.Records.registry_of l.registry) t l.dev)) l.t
