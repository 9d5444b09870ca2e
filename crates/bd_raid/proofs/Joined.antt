-- Concatenation: between which numbers the blocks of a member lie.
use Rattle.std.proofs.Common.{◌≡◌, ℕ, suc, zero, ◌+◌, ◌-◌, ◌<◌, ◌≤◌, true, false, cond, nat_lt, List, [], ◌∷◌, length, get_or, take, ◌∙◌, ap, inl, inr, arith}
use Rattle.std.proofs.lemmas.Bool.{cases_lt, lt-ltb}
use Rattle.std.proofs.lemmas.Bool.Decides.{nat_tests}
use Rattle.bd_raid.proofs.Least.{used_cons}
use Rattle.bd_raid.specs.Raid.{joined_from, used_of, used_of_all}

-- the number of a member, and between which numbers a block of it is
pub record Lies (strip : ℕ) (xs : List ℕ) (block : ℕ) : Type 0 where
  pub member : ℕ
  pub fits : member < length xs
  pub low : used_of_all strip (take member xs) ≤ block
  pub high : block < used_of_all strip (take member xs) + used_of (get_or xs member 0) strip

not_below : (a b : ℕ) → b ≤ a → nat_lt a b ≡ false
not_below a b h = grind (arith, nat_tests, h)

pub lies : (strip : ℕ) (xs : List ℕ) (block : ℕ) → block < used_of_all strip xs → Lies strip xs block
lies strip [] block h = absurd (omega (arith, h))
lies strip (x ∷ xs) block h = elim (cases_lt block (used_of x strip)) [
  | inl less ↦ record { member = 0; fits = omega arith; low = omega arith; high = omega (arith, less) }
  | inr more ↦
      let rest : Lies strip xs (block - used_of x strip) = lies strip xs (block - used_of x strip) (omega (arith, h, more, used_cons strip x xs)) in
      let sum = used_cons strip x (take rest.member xs) in
      record { member = suc rest.member; fits = omega (arith, rest.fits); low = omega (arith, rest.low, more, sum); high = omega (arith, rest.high, more, sum) }
]

-- a block between those numbers lies on that member
pub joined_at_member : (strip k : ℕ) (xs : List ℕ) (block j : ℕ) → j < length xs → used_of_all strip (take j xs) ≤ block
    → block < used_of_all strip (take j xs) + used_of (get_or xs j 0) strip → joined_from strip k xs block ≡ (k + j, block - used_of_all strip (take j xs))
joined_at_member strip k [] block j fits low high = absurd (omega (arith, fits))
joined_at_member strip k (x ∷ xs) block zero fits low high =
    let here : nat_lt block (used_of x strip) ≡ true = lt-ltb block (used_of x strip) (omega (arith, high)) in
    let zeros : k ≡ k + 0 = omega arith in
    let same : block ≡ block - used_of_all strip [] = omega arith in
    ap (λ t. cond t (k, block) (joined_from strip (k + 1) xs (block - used_of x strip))) here ∙ ap (λ (n : ℕ). (n, block)) zeros ∙ ap (λ (n : ℕ). (k + 0, n)) same
joined_at_member strip k (x ∷ xs) block (suc j) fits low high =
    let sums = used_cons strip x (take j xs) in
    let later : nat_lt block (used_of x strip) ≡ false = not_below block (used_of x strip) (omega (arith, low, sums)) in
    let sum = used_of_all strip (take j xs) in
    let rest = joined_at_member strip (k + 1) xs (block - used_of x strip) j (omega (arith, fits)) (omega (arith, low, sums)) (omega (arith, low, high, sums)) in
    let number : k + 1 + j ≡ k + suc j = omega arith in
    let place : block - used_of x strip - sum ≡ block - used_of_all strip (x ∷ take j xs) = omega (arith, sums) in
    ap (λ t. cond t (k, block) (joined_from strip (k + 1) xs (block - used_of x strip))) later ∙ rest ∙ ap (λ (n : ℕ). (n, block - used_of x strip - sum)) number ∙ ap (λ (n : ℕ). (k + suc j, n)) place
