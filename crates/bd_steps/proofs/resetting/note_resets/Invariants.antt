use Rattle.std.proofs.Common.{◌≡◌, ◌++◌, drop}
use Rattle.bd_steps.specs.Resetting.{asking}
use Rattle.bd_steps.proofs.resetting.note_resets.Given as goal

-- what is noted so far, and then what the resets that are left ask, is all
abbrev pub invariant-loop-reset : goal.invariant-loop-reset
invariant-loop-reset l = l.calls.items ++ asking (drop l.reset-index l.resets) ≡ l.fn.calls.items ++ asking l.resets
