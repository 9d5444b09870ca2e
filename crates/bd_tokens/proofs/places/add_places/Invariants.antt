use Rattle.std.proofs.Common.{◌≡◌, ◌≤◌, [], vec_len}
use Rattle.bd_tokens.specs.Places.{items_in, AreAt}
use Rattle.bd_tokens.proofs.places.add_places.Given as goal

abbrev pub invariant-loop-place : goal.invariant-loop-place
invariant-loop-place l = record {
  few : vec_len l.rows ≤ l._place;
  bound : l.places ≤ 4096;
  at : AreAt l.fn.tier 0 l.rows.items;
  none : items_in l.rows.items ≡ [];
}
