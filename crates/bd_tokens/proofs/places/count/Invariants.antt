use Rattle.std.proofs.Common.{◌≡◌, ◌+◌, ◌≤◌, drop, length}
use Rattle.bd_tokens.specs.Places.{items_in}
use Rattle.bd_tokens.proofs.places.count.Given as goal

-- what is counted, and what is left
abbrev pub invariant-loop-row : goal.invariant-loop-row
invariant-loop-row l = record {
  within : l.count ≤ l.row-index;
  all : l.count + length (items_in (drop l.row-index l.rows)) ≡ length (items_in l.rows);
}
