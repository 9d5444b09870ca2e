use Rattle.std.proofs.Common.{◌≡◌, drop}
use Rattle.bd_machine.specs.Same.{same_id}
use Rattle.bd_machine.specs.Table.{look_up}
use Rattle.bd_rule_view.proofs.tokens.look_up.Given as goal

abbrev pub invariant-loop-entry : goal.invariant-loop-entry
invariant-loop-entry g l = look_up same_id (drop l.entry-index l.table) l.id ≡ look_up same_id l.table l.id
