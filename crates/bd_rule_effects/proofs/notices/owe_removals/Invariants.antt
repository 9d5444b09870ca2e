use Rattle.std.proofs.Common.{◌≡◌, ◌++◌, drop}
use Rattle.bd_machine.specs.Messages.{removals_owed}
use Rattle.bd_rule_effects.proofs.notices.owe_removals.Given as goal

abbrev pub invariant-loop-dev : goal.invariant-loop-dev
invariant-loop-dev l = l.owed ++ removals_owed (drop l.dev-index l.devs) ≡ l.fn.owed ++ removals_owed l.devs
