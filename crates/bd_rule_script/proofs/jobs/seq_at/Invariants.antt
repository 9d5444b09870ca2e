use Rattle.std.proofs.Common.{◌≡◌, drop, find}
use Rattle.bd_machine.specs.Asked.{is_submitted_at, seq_if_any}
use Rattle.bd_rule_script.proofs.jobs.seq_at.Given as goal

abbrev pub invariant-loop-s : goal.invariant-loop-s
invariant-loop-s l = seq_if_any (find (is_submitted_at l.line l.id) (drop l.s-index l.submitted)) ≡ seq_if_any (find (is_submitted_at l.line l.id) l.submitted)
