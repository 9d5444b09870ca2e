use Rattle.std.proofs.Common.{◌≡◌, ◌==◌, drop, find}
use Rattle.bd_machine.specs.Asked.{lines_if_any}
use Rattle.bd_rule_script.proofs.lines.lines_of.Given as goal

abbrev pub invariant-loop-script : goal.invariant-loop-script
invariant-loop-script l = lines_if_any (find (λ s. s.thread == l.thread) (drop l.script-index l.scripts)) ≡ lines_if_any (find (λ s. s.thread == l.thread) l.scripts)
