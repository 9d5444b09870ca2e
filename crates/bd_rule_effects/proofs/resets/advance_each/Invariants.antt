use Rattle.std.proofs.Common.{◌≡◌, cond}
use Rattle.bd_machine.specs.Asked.{is_reset_at}
use Rattle.bd_machine.specs.declared.state.Resetting.{Resetting}
use Rattle.bd_rule_effects.proofs.Each.{each}
use Rattle.bd_rule_effects.proofs.resets.advance_each.Given as goal

abbrev pub invariant-loop-i : goal.invariant-loop-i
invariant-loop-i l = l.resets ≡ each (λ (r : Resetting). cond (is_reset_at l.dev l.old r) (record r { stage = l.new }) r) l.i l.fn.resets
