use Rattle.std.proofs.Common.{◌≡◌, not, drop, filter, length}
use Rattle.bd_machine.specs.Registry.{handles_on, is_on, is_own}
use Rattle.bd_rule_registry.proofs.bare.has_no_other_handle.Given as goal

abbrev pub invariant-loop-h : goal.invariant-loop-h
invariant-loop-h g l = length (filter (λ h. not (is_own l.thread l.id h)) (filter (is_on l.dev) (drop l.h-index l.h-items))) ≡ length (filter (λ h. not (is_own l.thread l.id h)) (handles_on (g.R.Records.registry_of l.registry) l.dev))
