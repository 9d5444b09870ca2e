use Rattle.std.proofs.Common.{◌≡◌, ◌++◌, drop}
use Rattle.bd_clones.proofs.duplicate.duplicate_rows.Given as goal

-- what was copied, and then what is left, is all
abbrev pub invariant-loop-row : goal.invariant-loop-row
invariant-loop-row g l = record {
  same : l.row-items ≡ l.rows;
  all : l.copies ++ drop l.row-index l.row-items ≡ l.row-items;
}
