use Rattle.std.proofs.Common.{◌≡◌}
use Rattle.bd_machine.specs.Messages.{freezing}
use Rattle.bd_rule_effects.proofs.Each.{each}
use Rattle.bd_rule_effects.proofs.resets.freeze_each.Given as goal

abbrev pub invariant-loop-i : goal.invariant-loop-i
invariant-loop-i l = l.resets ≡ each (freezing l.req l.threads) l.i l.fn.resets
