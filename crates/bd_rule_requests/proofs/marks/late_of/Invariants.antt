use Rattle.std.proofs.Common.{◌≡◌}
use Rattle.bd_machine.specs.Marks.{late_among, late_of}
use Rattle.bd_rule_requests.proofs.marks.late_of.Given as goal

-- the set so far, with those that are left
abbrev pub invariant-loop-d : goal.invariant-loop-d
invariant-loop-d l = late_among l.part l.late l.d-iterator ≡ late_of l.setup l.part l.fn.dev
