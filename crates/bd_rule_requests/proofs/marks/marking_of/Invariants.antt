use Rattle.std.proofs.Common.{◌≡◌, drop}
use Rattle.bd_machine.specs.Same.{same_dev}
use Rattle.bd_machine.specs.Table.{look_up}
use Rattle.bd_rule_requests.proofs.marks.marking_of.Given as goal

abbrev pub invariant-loop-row : goal.invariant-loop-row
invariant-loop-row l = look_up same_dev (drop l.row-index l.part.marked) l.dev ≡ look_up same_dev l.part.marked l.dev
