use Rattle.std.proofs.Common.{◌≡◌, drop, filter, length}
use Rattle.bd_machine.specs.Registry.{handles_on, is_on}
use Rattle.bd_rule_registry.proofs.bare.has_no_handle.Given as goal

abbrev pub invariant-loop-h : goal.invariant-loop-h
invariant-loop-h g l = length (filter (is_on l.dev) (drop l.h-index l.h-items)) ≡ length (handles_on (g.R.Records.registry_of l.registry) l.dev)
