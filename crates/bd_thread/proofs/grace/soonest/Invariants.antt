use Rattle.std.proofs.Common.{◌≡◌, None, drop}
use Rattle.bd_thread.specs.Grace.{soonest}
use Rattle.bd_thread.proofs.grace.soonest.Given as goal

-- the least so far, with those that are left
abbrev pub invariant-loop-row : goal.invariant-loop-row
invariant-loop-row l = soonest l.first (drop l.row-index l.marked) ≡ soonest None l.marked
