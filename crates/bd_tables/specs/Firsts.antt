-- The first row that passes a test.
use Rattle.std.specs.Prelude.{◌≡◌, ℕ, ◌<◌, Bool, true, false, List, length, slice_index_or}
use Rattle.bd_tables.specs.declared.row.Row.{Row}
use Rattle.bd_tables.specs.Shelf.{absent}

abbrev pub at : List Row → ℕ → Row
at rows i = slice_index_or rows i absent

-- none of the first n rows passes
abbrev pub NonePasses : (Row → Bool) → List Row → ℕ → Type 0
NonePasses p rows n = (j : ℕ) → j < n → p (at rows j) ≡ false

-- row i passes, and none before it
pub record IsFirst (p : Row → Bool) (rows : List Row) (i : ℕ) : Type 0 where
  pub inside : i < length rows
  pub passes : p (at rows i) ≡ true
  pub first : NonePasses p rows i
