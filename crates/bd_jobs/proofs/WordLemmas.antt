-- The value of digits, read from the front.
use Rattle.std.proofs.Common.{◌≡◌, ℕ, true, false, add-one, ◌+◌, ◌-◌, ◌*◌, ◌^◌, ◌<◌, ◌≤◌, List, [], ◌∷◌, length, drop, get_or, None, Some, refl, arith, subst}
use Rattle.std.specs.Prelude.{nat_lt, if◌then◌else◌}
use Rattle.std.proofs.lemmas.List.{drop_all}
use Rattle.std.proofs.Math.Seq.{drop-cons}
use Rattle.std.proofs.lemmas.Bool.Decides.{nat_tests}
use Rattle.bd_jobs.specs.Words.{value_from}

-- more digits make no smaller value
value_from-ge : (n : ℕ) (bs : List ℕ) → n ≤ value_from n bs
value_from-ge n [] = omega arith
value_from-ge n (b ∷ bs) = omega (arith, value_from-ge (n * 10 + (b - 48)) bs)

-- one digit further
pub value_from-drop : (n i : ℕ) (bs : List ℕ) → i < length bs → value_from n (drop i bs) ≡ value_from (n * 10 + (get_or bs i 0 - 48)) (drop (i + 1) bs)
value_from-drop n i bs lt = rw (drop-cons bs i 0) (rw add-one refl)

-- the value so far with one more digit is at most the whole value
pub digit_within : (n i all : ℕ) (bs : List ℕ) → i < length bs → value_from n (drop i bs) ≡ all → n * 10 + (get_or bs i 0 - 48) ≤ all
digit_within n i all bs lt e = omega (arith, value_from-ge (n * 10 + (get_or bs i 0 - 48)) (drop (i + 1) bs), value_from-drop n i bs lt)

pub too_large : (v : ℕ) → (v < 2 ^ 64 → ⊥) → None ≡ (if nat_lt v (2 ^ 64) then Some v else None)
too_large v above = let no : nat_lt v (2 ^ 64) ≡ false = grind (arith, nat_tests) in rw no refl

-- the value of all digits, where none is left
pub fits : (n i : ℕ) (bs : List ℕ) (v : ℕ) → length bs ≤ i → n < 2 ^ 64 → value_from n (drop i bs) ≡ v → Some n ≡ (if nat_lt v (2 ^ 64) then Some v else None)
fits n i bs v end below e =
    let whole : n ≡ v = rw (drop_all i bs end) at e in
    let P : ℕ → Type 0 = λ m. Some n ≡ (if nat_lt m (2 ^ 64) then Some m else None) in
    let yes : nat_lt n (2 ^ 64) ≡ true = grind (arith, nat_tests) in
    subst P whole (rw yes refl)
