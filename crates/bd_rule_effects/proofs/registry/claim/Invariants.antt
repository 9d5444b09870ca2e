use Rattle.std.proofs.Common.{◌≡◌, cond}
use Rattle.bd_machine.specs.declared.state.Handle.{Handle}
use Rattle.bd_machine.specs.Changes.{with_claim}
use Rattle.bd_machine.specs.Registry.{is_own}
use Rattle.bd_rule_effects.proofs.Each.{each}
use Rattle.bd_rule_effects.proofs.registry.claim.Given as goal

abbrev pub invariant-loop-i : goal.invariant-loop-i
invariant-loop-i l = l.handles ≡ each (λ (h : Handle). cond (is_own l.thread l.id h) (with_claim l.kind h) h) l.i l.fn.handles
