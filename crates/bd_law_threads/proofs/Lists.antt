-- Lists that are nothing together, and lists of stamps of which one is lower than another, or not above it.
use Rattle.std.proofs.Common.{◌≡◌, ℕ, ◌+◌, ◌<◌, ◌≤◌, List, [], ◌∷◌, ◌++◌, length, refl, arith}
use Rattle.std.specs.List.{AllByRecursion}
use Rattle.bd_law_logs.specs.Loose.{AreLower}
use Rattle.bd_law_threads.specs.Course.{AreNotAbove}

-- where two lists in a row are nothing, each is
pub left_nil : {X : Type 0} (xs ys : List X) → xs ++ ys ≡ [] → xs ≡ []
left_nil [] ys h = refl
left_nil (x ∷ xs) ys h = cc

pub right_nil : {X : Type 0} (xs ys : List X) → xs ++ ys ≡ [] → ys ≡ []
right_nil [] ys h = h
right_nil (x ∷ xs) ys h = cc

-- more in the first list leave it lower
pub lower_on : (xs zs ys : List ℕ) → AreLower xs ys → AreLower (xs ++ zs) ys
lower_on xs zs [] h = tt
lower_on [] zs (y ∷ ys) h = absurd h
lower_on (x ∷ xs) zs (y ∷ ys) h = (h.0, lower_on xs zs ys h.1)

-- and not above
pub not_above_on : (xs zs ys : List ℕ) → AreNotAbove xs ys → AreNotAbove (xs ++ zs) ys
not_above_on xs zs [] h = tt
not_above_on [] zs (y ∷ ys) h = absurd h
not_above_on (x ∷ xs) zs (y ∷ ys) h = (h.0, not_above_on xs zs ys h.1)

-- one more in the second list, above all of the first, which is the longer one
pub lower_more : (n : ℕ) (xs ys : List ℕ) → AreLower xs ys → AllByRecursion (λ x. x < n) xs → length ys < length xs → AreLower xs (ys ++ n ∷ [])
lower_more n [] ys h all l = (let bad : ⊥ = omega arith in absurd bad)
lower_more n (x ∷ xs) [] h all l = (all.0, tt)
lower_more n (x ∷ xs) (y ∷ ys) h all l = (h.0, lower_more n xs ys h.1 all.1 (omega arith))

-- more in the second list, each the last, where the first is long enough and has none above the last
pub not_above_more : (last : ℕ) (xs ys zs : List ℕ) → AreNotAbove xs ys → AllByRecursion (λ n. n ≤ last) xs → AllByRecursion (λ n. n ≡ last) zs
    → length ys + length zs ≤ length xs → AreNotAbove xs (ys ++ zs)
not_above_more last xs [] [] h within same le = tt
not_above_more last [] [] (z ∷ zs) h within same le = absurd (omega arith)
not_above_more last (x ∷ xs) [] (z ∷ zs) h within same le = (
  (let a : x ≤ last = within.0 in let b : z ≡ last = same.0 in omega arith),
  not_above_more last xs [] zs tt within.1 same.1 (omega arith),
)
not_above_more last [] (y ∷ ys) zs h within same le = absurd h
not_above_more last (x ∷ xs) (y ∷ ys) zs h within same le = (h.0, not_above_more last xs ys zs h.1 within.1 same (omega arith))

-- what is lower than a prefix of what isn't above it
pub lower_through : (xs ys rest zs : List ℕ) → AreNotAbove xs (ys ++ rest) → AreLower ys zs → AreLower xs zs
lower_through xs ys rest [] h low = tt
lower_through xs [] rest (z ∷ zs) h low = absurd low
lower_through [] (y ∷ ys) rest (z ∷ zs) h low = absurd h
lower_through (x ∷ xs) (y ∷ ys) rest (z ∷ zs) h low = (below, lower_through xs ys rest zs h.1 low.1)
  where
    below : x < z
    below =
        let a : x ≤ y = h.0 in
        let b : y < z = low.0 in omega arith
