-- The items of a list that pass a test, one after another: one of them by its place, and how many there are.
use Rattle.std.proofs.Common.{◌≡◌, ℕ, zero, suc, ◌-◌, ◌<◌, Bool, true, false, cond, ◌==◌, List, ◌∷◌, length, filter, Some, ap, ◌∙◌, arith, ne_eqb}
use Rattle.std.specs.List.{slice_get}

one_less : (n : ℕ) → n ≡ suc n - 1
one_less n = omega arith

more_same : (n k : ℕ) → (suc n == suc k) ≡ (suc n - 1 == k)
more_same n k = grind arith

module _ {X : Type 0} (is : X → Bool) where
  kept : (x : X) (xs : List X) → is x ≡ true → filter is (x ∷ xs) ≡ x ∷ filter is xs
  kept x xs h = ap (λ (b : Bool). cond b (x ∷ filter is xs) (filter is xs)) h

  left_out : (x : X) (xs : List X) → is x ≡ false → filter is (x ∷ xs) ≡ filter is xs
  left_out x xs h = ap (λ (b : Bool). cond b (x ∷ filter is xs) (filter is xs)) h

  pub skips : (x : X) (xs : List X) (n : ℕ) → is x ≡ false → slice_get (filter is (x ∷ xs)) n ≡ slice_get (filter is xs) n
  skips x xs n h = ap (λ (ys : List X). slice_get ys n) (left_out x xs h)

  pub finds : (x : X) (xs : List X) (n : ℕ) → is x ≡ true → n ≡ 0 → slice_get (filter is (x ∷ xs)) n ≡ Some x
  finds x xs n h e = ap (λ (m : ℕ). slice_get (filter is (x ∷ xs)) m) e ∙ ap (λ (ys : List X). slice_get ys 0) (kept x xs h)

  pub passes : (x : X) (xs : List X) (n : ℕ) → is x ≡ true → 0 < n → slice_get (filter is (x ∷ xs)) n ≡ slice_get (filter is xs) (n - 1)
  passes x xs zero h p = absurd (omega arith)
  passes x xs (suc n) h p = ap (λ (ys : List X). slice_get ys (suc n)) (kept x xs h) ∙ ap (λ (m : ℕ). slice_get (filter is xs) m) (one_less n)

  pub passes_by : (x : X) (xs : List X) (n : ℕ) → is x ≡ false → (n == length (filter is (x ∷ xs))) ≡ (n == length (filter is xs))
  passes_by x xs n h = ap (λ (ys : List X). n == length ys) (left_out x xs h)

  pub counts : (x : X) (xs : List X) (n : ℕ) → is x ≡ true → n ≡ 0 → (n == length (filter is (x ∷ xs))) ≡ false
  counts x xs n h e = ap (λ (ys : List X). n == length ys) (kept x xs h) ∙ ne_eqb n (suc (length (filter is xs))) (λ q. omega (arith, q, e))

  pub counts_more : (x : X) (xs : List X) (n : ℕ) → is x ≡ true → 0 < n → (n == length (filter is (x ∷ xs))) ≡ (n - 1 == length (filter is xs))
  counts_more x xs zero h p = absurd (omega arith)
  counts_more x xs (suc n) h p = ap (λ (ys : List X). suc n == length ys) (kept x xs h) ∙ more_same n (length (filter is xs))
