-- The least of some sizes, and the used blocks of one.
use Rattle.std.proofs.Common.{◌≡◌, ℕ, suc, zero, ◌+◌, ◌*◌, ◌/◌, ◌<◌, ◌≤◌, List, [], ◌∷◌, length, get_or, drop, min, ap, arith}
use Rattle.std.proofs.lemmas.List.{drop_more}
use Rattle.std.proofs.lemmas.List.Sums.{sum_by-cons}
use Rattle.std.proofs.Math.Nat.{div-mul-le_self, lt-div-mul-add, mul-le-mul_right}
use Rattle.std.proofs.lemmas.Nat.{le-div}
use Rattle.bd_raid.specs.Raid.{least_of, used_of, used_of_all}

pub least_fits : (xs : List ℕ) → least_of xs ≤ 18446744073709551615
least_fits [] = omega arith
least_fits (x ∷ xs) = let rest = least_fits xs in omega (arith, rest)

-- each member has at least the least
pub least_le : (xs : List ℕ) (i : ℕ) → i < length xs → least_of xs ≤ get_or xs i 0
least_le [] i h = absurd (omega (arith, h))
least_le (x ∷ xs) zero h = omega arith
least_le (x ∷ xs) (suc i) h = let rest = least_le xs i (omega (arith, h)) in omega (arith, rest)

-- the least of what is left, with one more member
pub least_more : (a : ℕ) (xs : List ℕ) (i : ℕ) → i < length xs → min a (least_of (drop i xs)) ≡ min (min a (get_or xs i 0)) (least_of (drop (i + 1) xs))
least_more a xs i h = let e : least_of (drop i xs) ≡ min (get_or xs i 0) (least_of (drop (i + 1) xs)) = ap least_of (drop_more xs i 0 h) in omega (arith, e)

pub used_le : (size strip : ℕ) → used_of size strip ≤ size
used_le size strip = div-mul-le_self size strip

-- a larger member has no fewer used blocks
pub used_mono : (a b strip : ℕ) → 1 ≤ strip → a ≤ b → used_of a strip ≤ used_of b strip
used_mono a b strip some le =
    let under : a / strip * strip ≤ b = omega (arith, div-mul-le_self a strip, le) in
    mul-le-mul_right strip (le-div (a / strip) b strip (omega (arith, some)) under)

-- a member with a whole strip has a used block
pub used_some : (size strip : ℕ) → 1 ≤ strip → strip ≤ size → 1 ≤ used_of size strip
used_some size strip some whole =
    let above : size < size / strip * strip + strip = lt-div-mul-add {a = size} {b = strip} (omega (arith, some)) in
    omega (arith, above, whole)

-- the first member's used blocks come before those of the others
pub used_cons : (strip x : ℕ) (xs : List ℕ) → used_of_all strip (x ∷ xs) ≡ used_of x strip + used_of_all strip xs
used_cons strip x xs = sum_by-cons (λ size. used_of size strip) x xs

-- what all members have fits, where each of them does
pub used_fits : (strip top : ℕ) (xs : List ℕ) → ((i d : ℕ) → i < length xs → get_or xs i d ≤ top) → used_of_all strip xs ≤ length xs * top
used_fits strip top [] fits = omega arith
used_fits strip top (x ∷ xs) fits =
    let rest = used_fits strip top xs (λ i d h. fits (suc i) d (omega (arith, h))) in
    let first : x ≤ top = fits 0 0 (omega arith) in
    omega (arith, rest, first, used_le x strip, used_cons strip x xs)
