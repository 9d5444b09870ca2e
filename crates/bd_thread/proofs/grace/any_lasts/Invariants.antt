use Rattle.std.proofs.Common.{◌≡◌, drop}
use Rattle.std.specs.List.{list_any}
use Rattle.bd_thread.specs.Grace.{lasts_at}
use Rattle.bd_thread.proofs.grace.any_lasts.Given as goal

-- those that are left decide
abbrev pub invariant-loop-row : goal.invariant-loop-row
invariant-loop-row l = list_any lasts_at (drop l.row-index l.marked) ≡ list_any lasts_at l.marked
