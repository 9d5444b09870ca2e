use Rattle.std.proofs.Common.{◌≡◌, ◌==◌, drop}
use Rattle.bd_machine.specs.Table.{look_up}
use Rattle.bd_rule_requests.proofs.messages.count_at.Given as goal

abbrev pub invariant-loop-row : goal.invariant-loop-row
invariant-loop-row l = look_up ◌==◌ (drop l.row-index l.table) l.thread ≡ look_up ◌==◌ l.table l.thread
