-- What stands at a place of a list.
use Rattle.std.proofs.Common.{◌≡◌, ℕ, zero, suc, ◌<◌, Bool, true, List, [], ◌∷◌, length, set, Some, None, refl, sym, ◌∙◌, ap, subst, zero-add, arith}
use Rattle.std.specs.List.{list_all, range_with_len, slice_get}
use Rattle.std.proofs.lemmas.Bool.{and_parts}
use Rattle.std.proofs.lemmas.List.FromFn.{get_or-range_with_len, length-range_with_len}
use Rattle.std.proofs.lemmas.List.Sums.{AllPass-from_list_all}
use Rattle.std.proofs.lemmas.Option.{same_Some}

-- each place below the length has something
pub has_at : {X : Type 0} (xs : List X) (i : ℕ) → i < length xs → (x : X) × (slice_get xs i ≡ Some x)
has_at [] i h = absurd (omega arith)
has_at (x ∷ xs) zero h = (x, refl)
has_at (x ∷ xs) (suc i) h = has_at xs i (omega arith)

-- and each place that has something is below the length
pub is_below : {X : Type 0} (xs : List X) (i : ℕ) (x : X) → slice_get xs i ≡ Some x → i < length xs
is_below [] i x e = absurd (let f : None ≡ Some x = e in cc)
is_below (y ∷ xs) zero x e = omega arith
is_below (y ∷ xs) (suc i) x e = let lt : i < length xs = is_below xs i x e in omega arith

-- what is put at a place stands there
pub set_here : {X : Type 0} (xs : List X) (i : ℕ) (x : X) → i < length xs → slice_get (set xs i x) i ≡ Some x
set_here [] i x h = absurd (omega arith)
set_here (y ∷ xs) zero x h = refl
set_here (y ∷ xs) (suc i) x h = set_here xs i x (omega arith)

-- and all else as before
pub set_else : {X : Type 0} (xs : List X) (i j : ℕ) (x : X) → (i ≡ j → ⊥) → slice_get (set xs i x) j ≡ slice_get xs j
set_else [] i j x ne = refl
set_else (y ∷ xs) zero zero x ne = absurd (ne refl)
set_else (y ∷ xs) zero (suc j) x ne = refl
set_else (y ∷ xs) (suc i) zero x ne = refl
set_else (y ∷ xs) (suc i) (suc j) x ne = set_else xs i j x (λ e. ne (ap suc e))

-- what holds of all holds of what stands at a place
pub all_at : {X : Type 0} (p : X → Bool) (xs : List X) (i : ℕ) (x : X) → list_all p xs ≡ true → slice_get xs i ≡ Some x → p x ≡ true
all_at p [] i x h e = absurd (let f : None ≡ Some x = e in cc)
all_at p (y ∷ xs) zero x h e = subst (λ z. p z ≡ true) (same_Some y x e) (and_parts (p y) (list_all p xs) h).0
all_at p (y ∷ xs) (suc i) x h e = all_at p xs i x (and_parts (p y) (list_all p xs) h).1 e

-- what holds of all numbers below another holds of each
pub all_below : (p : ℕ → Bool) (k n : ℕ) → list_all p (range_with_len 0 k) ≡ true → n < k → p n ≡ true
all_below p k n h lt =
    subst (λ (m : ℕ). p m ≡ true) (get_or-range_with_len 0 k n 0 lt ∙ zero-add n)
    (AllPass-from_list_all p (range_with_len 0 k) h n 0 (subst (λ (m : ℕ). n < m) (sym (length-range_with_len 0 k)) lt))
