use Rattle.std.proofs.Common.{◌≡◌}
use Rattle.bd_machine.specs.Walks.{at_stage}
use Rattle.bd_rule_effects.proofs.Each.{each}
use Rattle.bd_rule_effects.proofs.resets.stage_each.Given as goal

abbrev pub invariant-loop-i : goal.invariant-loop-i
invariant-loop-i l = l.resets ≡ each (at_stage l.req l.stage) l.i l.fn.resets
