use Rattle.std.proofs.Common.{◌≡◌, ◌++◌, drop, filter, map}
use Rattle.bd_machine.specs.Registry.{handles_on, is_on, opener_of}
use Rattle.bd_rule_registry.proofs.devices.openers_of.Given as goal

abbrev pub invariant-loop-h : goal.invariant-loop-h
invariant-loop-h g l = l.openers ++ map opener_of (filter (is_on l.dev) (drop l.h-index l.h-items)) ≡ map opener_of (handles_on (g.R.Records.registry_of l.registry) l.dev)
