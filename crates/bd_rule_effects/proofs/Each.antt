-- A loop that changes each element of a list, one after another.
use Rattle.std.proofs.Common.{◌≡◌, ℕ, zero, suc, ◌+◌, ◌<◌, ◌≤◌, List, [], ◌∷◌, length, get_or, set, map, refl, ◌∙◌, ap, arith}

one_more : (n : ℕ) → suc n ≡ n + 1
one_more n = omega arith

module _ {X : Type 0} (f : X → X) where
  -- the first n elements are changed
  abbrev pub each : ℕ → List X → List X
  each zero xs = xs
  each (suc n) [] = []
  each (suc n) (x ∷ xs) = f x ∷ each n xs

  pub each_length : (n : ℕ) (xs : List X) → length (each n xs) ≡ length xs
  each_length zero xs = refl
  each_length (suc n) [] = refl
  each_length (suc n) (x ∷ xs) = ap (λ (k : ℕ). suc k) (each_length n xs)

  pub each_end : (n : ℕ) (xs : List X) → length xs ≤ n → each n xs ≡ map f xs
  each_end zero [] h = refl
  each_end (suc n) [] h = refl
  each_end zero (x ∷ xs) h = absurd (omega arith)
  each_end (suc n) (x ∷ xs) h = ap (λ (ys : List X). f x ∷ ys) (each_end n xs (omega arith))

  next : (n : ℕ) (xs : List X) (d : X) → n < length xs → set (each n xs) n (f (get_or (each n xs) n d)) ≡ each (suc n) xs
  next n [] d h = absurd (omega arith)
  next zero (x ∷ xs) d h = refl
  next (suc n) (x ∷ xs) d h = ap (λ (ys : List X). f x ∷ ys) (next n xs d (omega arith))

  pub each_next : (n : ℕ) (xs : List X) (d y : X) → n < length xs → y ≡ f (get_or (each n xs) n d) → set (each n xs) n y ≡ each (n + 1) xs
  each_next n xs d y h e = ap (λ (z : X). set (each n xs) n z) e ∙ next n xs d h ∙ ap (λ (m : ℕ). each m xs) (one_more n)
