-- The order of locks, and their names.
use Rattle.std.proofs.Common.{◌≡◌, ℕ, ◌<◌, ◌≤◌, Bool, true, false, cond, ◌&&◌, ◌==◌, List, [], ◌∷◌, inl, inr, refl, sym, ◌∙◌, ap, arith}
use Rattle.std.proofs.lemmas.Bool.{cases_lt}
use Rattle.std.proofs.lemmas.Bool.Decides.{nat_tests}
use Rattle.std.proofs.lemmas.Cmp.{nat_cmp_total, on_total, then_total}
use Rattle.std.specs.declared.cmp.Ordering.{Ordering}
use Rattle.std.specs.declared.cmp.Ordering.TheVariants.{Less, Equal, Greater}
use Rattle.std.specs.Ordering.{is_eq, is_le, nat_cmp, ordering_then}
use Rattle.std.specs.Cmp.{IsTotalOrder, nat_cmp_is}
use Rattle.std.specs.Map.{remove_entry}
use Rattle.bd_base.specs.declared.id.ReqId.{ReqId}
use Rattle.bd_range.specs.Locks.{is_named, key_cmp, key_of, LockKey}
use Rattle.bd_range.specs.Near.{is_key}

eq_then : (o p : Ordering) → is_eq (ordering_then o p) ≡ (is_eq o && is_eq p)
eq_then Less p = refl
eq_then Equal p = refl
eq_then Greater p = refl

eq_cmp : (a b : ℕ) → is_eq (nat_cmp a b) ≡ (b == a)
eq_cmp a b = grind (arith, nat_tests)

-- keys compare as equal where they are the same
pub eq_key : (a b : LockKey) → is_eq (key_cmp a b) ≡ is_key b a
eq_key a b =
    eq_then (ordering_then (nat_cmp a.0 b.0) (nat_cmp a.1 b.1)) (nat_cmp a.2 b.2)
    ∙ ap (λ c. c && is_eq (nat_cmp a.2 b.2)) (eq_then (nat_cmp a.0 b.0) (nat_cmp a.1 b.1))
    ∙ ap (λ c. c && is_eq (nat_cmp a.1 b.1) && is_eq (nat_cmp a.2 b.2)) (eq_cmp a.0 b.0)
    ∙ ap (λ c. (b.0 == a.0) && c && is_eq (nat_cmp a.2 b.2)) (eq_cmp a.1 b.1)
    ∙ ap (λ c. (b.0 == a.0) && (b.1 == a.1) && c) (eq_cmp a.2 b.2)

-- a lock compares as equal to a key where it has its name
pub named : (req : ReqId) (first : ℕ) (key : LockKey) → is_eq (key_cmp (key_of req first) key) ≡ is_named req first key
named req first key = eq_key (key_of req first) key

pub key_total : IsTotalOrder key_cmp
key_total = then_total (then_total (on_total (λ (k : LockKey). k.0) nat_cmp_total) (on_total (λ (k : LockKey). k.1) nat_cmp_total)) (on_total (λ (k : LockKey). k.2) nat_cmp_total)

-- two tests that agree take out the same
pub removed_same : {K X : Type 0} (p q : K → Bool) → ((k : K) → p k ≡ q k) → (es : List (K × X)) → remove_entry p es ≡ remove_entry q es
removed_same p q same [] = refl
removed_same p q same (e ∷ es) = ap (λ b. cond b es (e ∷ remove_entry p es)) (same e.0) ∙ ap (λ rest. cond (q e.0) es (e ∷ rest)) (removed_same p q same es)

le_then : (o p : Ordering) → is_le o ≡ true → is_le p ≡ true → is_le (ordering_then o p) ≡ true
le_then Less p a b = refl
le_then Equal p a b = b
le_then Greater p a b = a

le_cmp : (a b : ℕ) → a ≤ b → is_le (nat_cmp a b) ≡ true
le_cmp a b h = elim (cases_lt a b) [
  | inl less ↦ ap is_le (sym (nat_cmp_is a b Less less))
  | inr more ↦ ap is_le (sym (nat_cmp_is a b Equal (omega (arith, h, more))))
]

-- the least key of a block is not above one of a later block
pub from_low : (low : ℕ) (key : LockKey) → low ≤ key.0 → is_le (key_cmp (low, 0, 0) key) ≡ true
from_low low key h = le_then _ _ (le_then _ _ (le_cmp low key.0 h) (le_cmp 0 key.1 (omega arith))) (le_cmp 0 key.2 (omega arith))

-- the least key of a block is above one of an earlier block
pub before_end : (end : ℕ) (key : LockKey) → key.0 < end → is_le (key_cmp (end, 0, 0) key) ≡ false
before_end end key h = ap (λ o. is_le (ordering_then (ordering_then o (nat_cmp 0 key.1)) (nat_cmp 0 key.2))) (sym (nat_cmp_is end key.0 Greater h))
