use Rattle.std.proofs.Common.{◌≡◌, drop}
use Rattle.std.specs.List.{list_any}
use Rattle.bd_rule_requests.specs.Marks.{carries_mark}
use Rattle.bd_rule_requests.proofs.marks.any_carries.Given as goal

-- those that are left decide
abbrev pub invariant-loop-row : goal.invariant-loop-row
invariant-loop-row l = list_any carries_mark (drop l.row-index l.rows) ≡ list_any carries_mark l.rows
