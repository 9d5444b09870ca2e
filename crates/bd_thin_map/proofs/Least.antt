-- The first cluster of a list of numbers that no place has.
use Rattle.std.proofs.Common.{◌≡◌, ◌≢◌, ℕ, ◌<◌, ◌≤◌, true, false, nat_eq, List, length, get_or, replicate, set, inl, inr, sym, ap, ◌∙◌, subst, length-set, arith}
use Rattle.std.proofs.lemmas.Bool.{cases_eq, cases_lt}
use Rattle.std.proofs.lemmas.Bool.Decides.{nat_tests}
use Rattle.std.proofs.lemmas.List.{get_or-set_other, get_or-set_same, get_or_past}
use Rattle.std.proofs.lemmas.List.Sums.{fails_before_first, passes_at_first, position_or_len_is, prefix_len-le-length}
use Rattle.std.specs.List.{position_or_len}

not_free : (n : ℕ) → 0 < n → nat_eq 0 n ≡ false
not_free n h = grind (arith, nat_tests)

some_users : (n : ℕ) → nat_eq 0 n ≡ false → 0 < n
some_users n h = grind (arith, nat_tests)

no_users : (n : ℕ) → nat_eq 0 n ≡ true → n ≡ 0
no_users n h = grind (arith, nat_tests)

-- places have each cluster before it, and none has it
pub first_is : (xs : List ℕ) (n : ℕ) → n ≤ length xs → ((k : ℕ) → k < n → 0 < get_or xs k 0) → (n < length xs → get_or xs n 0 ≡ 0) → n ≡ position_or_len (nat_eq 0) xs
first_is xs n h before at = sym (position_or_len_is (nat_eq 0) xs n 0 h (λ k l. not_free _ (before k l)) (λ l. ap (nat_eq 0) (at l)))

pub used_before : (xs : List ℕ) (k : ℕ) → k < position_or_len (nat_eq 0) xs → 0 < get_or xs k 0
used_before xs k h = some_users _ (fails_before_first (nat_eq 0) xs k 0 h)

pub free_there : (xs : List ℕ) → position_or_len (nat_eq 0) xs < length xs → get_or xs (position_or_len (nat_eq 0) xs) 0 ≡ 0
free_there xs h = no_users _ (passes_at_first (nat_eq 0) xs 0 h)

pub within : (xs : List ℕ) → position_or_len (nat_eq 0) xs ≤ length xs
within xs = prefix_len-le-length _ xs

-- with another number for one cluster
pub at_set : (xs : List ℕ) (i y k : ℕ) → i < length xs → ((k ≡ i) → 0 < y) → (k ≢ i → 0 < get_or xs k 0) → 0 < get_or (set xs i y) k 0
at_set xs i y k h here there = elim (cases_eq k i) [
  | inl same ↦ subst (λ (n : ℕ). 0 < n) (sym (ap (λ (j : ℕ). get_or (set xs i y) j 0) same ∙ get_or-set_same xs i y 0 h)) (here same)
  | inr other ↦ subst (λ (n : ℕ). 0 < n) (sym (get_or-set_other xs i k y 0 other)) (there other)
]

pub none_at_first : (n : ℕ) → 0 ≡ position_or_len (nat_eq 0) (replicate n 0)
none_at_first n = first_is (replicate n 0) 0 (omega arith) (λ k l. absurd (omega (arith, l))) (λ l. grind arith)

-- the first one, where a cluster before it has no place any more
pub first_lowered : (xs : List ℕ) (i : ℕ) → i < position_or_len (nat_eq 0) xs → i ≡ position_or_len (nat_eq 0) (set xs i 0)
first_lowered xs i h =
    let inside : i < length xs = omega (arith, h, within xs) in
    first_is (set xs i 0) i (omega (arith, inside, length-set xs i 0))
    (λ k l. at_set xs i 0 k inside (λ same. absurd (omega (arith, same, l))) (λ other. used_before xs k (omega (arith, l, h))))
    (λ l. get_or-set_same xs i 0 0 inside)

-- the first one stays, where the cluster isn't the first one, nor comes before it without a place
pub first_kept : (xs : List ℕ) (i y : ℕ) → i < length xs → 0 < get_or xs i 0 → (i < position_or_len (nat_eq 0) xs → 0 < y) → position_or_len (nat_eq 0) xs ≡ position_or_len (nat_eq 0) (set xs i y)
first_kept xs i y inside had some =
    let n = position_or_len (nat_eq 0) xs in
    first_is (set xs i y) n (omega (arith, within xs, length-set xs i y))
    (λ k l. at_set xs i y k inside (λ same. some (omega (arith, same, l))) (λ other. used_before xs k l))
    (λ l. let there : n < length xs = omega (arith, l, length-set xs i y) in
    let other : n ≢ i = λ same. let none : get_or xs i 0 ≡ 0 = ap (λ (j : ℕ). get_or xs j 0) (sym same) ∙ free_there xs there in omega (arith, none, had) in
    get_or-set_other xs i n y 0 other ∙ free_there xs there)

-- the first one stays, where another cluster has one place more
pub first_kept_raised : (xs : List ℕ) (i y : ℕ) → i < length xs → i ≢ position_or_len (nat_eq 0) xs → 0 < y → position_or_len (nat_eq 0) xs ≡ position_or_len (nat_eq 0) (set xs i y)
first_kept_raised xs i y inside apart some =
    let n = position_or_len (nat_eq 0) xs in
    first_is (set xs i y) n (omega (arith, within xs, length-set xs i y))
    (λ k l. at_set xs i y k inside (λ same. some) (λ other. used_before xs k l))
    (λ l. let there : n < length xs = omega (arith, l, length-set xs i y) in
    get_or-set_other xs i n y 0 (λ same. apart (sym same)) ∙ free_there xs there)

-- a cluster that a place has is there
pub used_there : (xs : List ℕ) (i : ℕ) → 0 < get_or xs i 0 → i < length xs
used_there xs i h = elim (cases_lt i (length xs)) [
  | inl less ↦ less
  | inr more ↦ let none : get_or xs i 0 ≡ 0 = get_or_past xs i 0 more in absurd (omega (arith, none, h))
]
