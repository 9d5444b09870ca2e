use Rattle.std.proofs.Common.{◌≡◌, ◌++◌, drop}
use Rattle.bd_steps.specs.Stopping.{in_lines}
use Rattle.bd_steps.proofs.stopping.add_lines.Given as goal

-- the ids so far, and then those in the lines that are left, are all
abbrev pub invariant-loop-line : goal.invariant-loop-line
invariant-loop-line l = l.ids ++ in_lines (drop l.line-index l.limited) ≡ l.fn.ids ++ in_lines l.limited
