-- A row that was replaced: it is the row of each device with that place, and the others stay.
use Rattle.std.proofs.Common.{◌≡◌, ◌≢◌, ℕ, zero, suc, ◌-◌, ◌<◌, List, [], ◌∷◌, ◌++◌, length, get_or, set, refl, sym, ◌∙◌, ap, arith}
use Rattle.std.proofs.lemmas.List.{get_or-set_same, get_or-set_other, length-set, set-get_or}
use Rattle.bd_base.specs.declared.id.DevId.{DevId}
use Rattle.bd_rule_channels.specs.ByDevice.{place_of, row_at, with_row}

pub place_within : (n : ℕ) (dev : DevId) → 0 < n → place_of n dev < n
place_within n dev h = omega arith

module _ {X : Type 0} (rows : List (List X)) (dev d : DevId) (row : List X) where
  pub row_same : 0 < length rows → place_of (length rows) dev ≡ place_of (length rows) d → row_at (with_row rows dev row) d ≡ row
  row_same h e =
      ap (λ (n : ℕ). get_or (with_row rows dev row) (place_of n d) []) (length-set rows (place_of (length rows) dev) row)
      ∙ ap (λ (i : ℕ). get_or (with_row rows dev row) i []) (sym e)
      ∙ get_or-set_same rows (place_of (length rows) dev) row [] (place_within (length rows) dev h)

  pub row_other : (place_of (length rows) d ≢ place_of (length rows) dev) → row_at (with_row rows dev row) d ≡ row_at rows d
  row_other ne =
      ap (λ (n : ℕ). get_or (with_row rows dev row) (place_of n d) []) (length-set rows (place_of (length rows) dev) row)
      ∙ get_or-set_other rows (place_of (length rows) dev) (place_of (length rows) d) row [] ne

  pub row_where_same : place_of (length rows) dev ≡ place_of (length rows) d → row_at rows dev ≡ row_at rows d
  row_where_same e = ap (λ (i : ℕ). get_or rows i []) e

pub row_again : {X : Type 0} (rows : List (List X)) (dev : DevId) → with_row rows dev (row_at rows dev) ≡ rows
row_again rows dev = set-get_or rows (place_of (length rows) dev) []

-- one empty row more
pub empty_more : {X : Type 0} (rows : List (List X)) (n : ℕ) → ((k : ℕ) → get_or rows k [] ≡ []) → get_or (rows ++ [] ∷ []) n [] ≡ []
empty_more [] zero h = refl
empty_more [] (suc n) h = refl
empty_more (r ∷ rs) zero h = h zero
empty_more (r ∷ rs) (suc n) h = empty_more rs n (λ k. h (suc k))
