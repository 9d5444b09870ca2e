use Rattle.std.proofs.Common.{◌≡◌, drop}
use Rattle.bd_machine.specs.Same.{same_handle}
use Rattle.bd_machine.specs.Table.{look_up}
use Rattle.bd_rule_requests.proofs.admission.size_of_handle.Given as goal

abbrev pub invariant-loop-row : goal.invariant-loop-row
invariant-loop-row l = look_up same_handle (drop l.row-index l.part.sized) l.handle.id ≡ look_up same_handle l.part.sized l.handle.id
