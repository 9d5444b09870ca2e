-- Each lock that overlaps a range is among those that begin within 511 blocks before it and before its end.
use Rattle.std.proofs.Common.{◌≡◌, ℕ, suc, ◌+◌, ◌-◌, ◌<◌, ◌≤◌, Bool, true, false, cond, not, ◌&&◌, ◌||◌, ltb-true, List, [], ◌∷◌, All, filter, refl, ◌∙◌, ap, arith}
use Rattle.std.specs.List.{list_any}
use Rattle.std.specs.Map.{values_of}
use Rattle.std.specs.declared.ops.Bound.TheVariants.{Included, Excluded, Unbounded}
use Rattle.std.specs.BTreeMap.Range.{entries_between}
use Rattle.bd_base.specs.declared.id.ReqId.{ReqId}
use Rattle.bd_range.specs.Locks.{is_rival, key_cmp, LockKey, overlaps}
use Rattle.bd_range.proofs.Keys.{before_end, from_low}

other : (c : Bool) → (c ≡ true → false ≡ true) → (r : Bool) → r ≡ (c || r)
other true imp r = let no : false ≡ true = imp refl in cc
other false imp r = refl

-- a filter that keeps whatever a test finds leaves the test's answer
pub any_filtered : (f p : LockKey × ℕ → Bool) (es : List (LockKey × ℕ)) → All (λ n. n ≤ 512) (values_of es) → ((e : LockKey × ℕ) → e.1 ≤ 512 → f e ≡ true → p e ≡ true) → list_any f (filter p es) ≡ list_any f es
any_filtered f p [] short keeps = refl
any_filtered f p (e ∷ es) short keeps = go (p e) (keeps e (short 0 0 (omega arith))) (any_filtered f p es (λ k d h. short (suc k) d (omega (arith, h))) keeps)
  where
    go : (b : Bool) → (f e ≡ true → b ≡ true) → list_any f (filter p es) ≡ list_any f es → list_any f (cond b (e ∷ filter p es) (filter p es)) ≡ (f e || list_any f es)
    go true imp rest = ap (λ r. f e || r) rest
    go false imp rest = rest ∙ other (f e) imp (list_any f es)

pub both_true : (a b : Bool) → (a && b) ≡ true → (a ≡ true) × (b ≡ true)
both_true true b h = (refl, h)
both_true false b h = (h, absurd (let no : false ≡ true = h in cc))

-- where a lock begins that overlaps a range
pub begins_low : (first count a n : ℕ) → n ≤ 512 → overlaps first count a n ≡ true → first - 511 ≤ a
begins_low first count a n short h = let low = ltb-true first (a + n) (both_true _ _ h).0 in omega (arith, low, short)

pub begins_before : (first count a n : ℕ) → overlaps first count a n ≡ true → a < first + count
begins_before first count a n h = ltb-true a (first + count) (both_true _ _ h).1

inside : (a b : Bool) → a ≡ true → b ≡ false → (a && not b) ≡ true
inside a b p q = ap (λ x. x && not b) p ∙ ap not q

pub up_to : (req : ReqId) (first count low end : ℕ) → low ≡ first - 511 → end ≡ first + count → (es : List (LockKey × ℕ)) → All (λ n. n ≤ 512) (values_of es)
    → list_any (is_rival req first count) (entries_between key_cmp (Included (low, 0, 0)) (Excluded (end, 0, 0)) es) ≡ list_any (is_rival req first count) es
up_to req first count low end l u es short = any_filtered (is_rival req first count) _ es short (λ e few h.
    let over : overlaps first count e.0.0 e.1 ≡ true = (both_true _ _ h).1 in
    let low_is : low ≤ e.0.0 = omega (arith, l, begins_low first count e.0.0 e.1 few over) in
    let end_is : e.0.0 < end = omega (arith, u, begins_before first count e.0.0 e.1 over) in
    inside _ _ (from_low low e.0 low_is) (before_end end e.0 end_is))

pub from_there : (req : ReqId) (first count low : ℕ) → low ≡ first - 511 → (es : List (LockKey × ℕ)) → All (λ n. n ≤ 512) (values_of es)
    → list_any (is_rival req first count) (entries_between key_cmp (Included (low, 0, 0)) Unbounded es) ≡ list_any (is_rival req first count) es
from_there req first count low l es short = any_filtered (is_rival req first count) _ es short (λ e few h.
    let over : overlaps first count e.0.0 e.1 ≡ true = (both_true _ _ h).1 in
    let low_is : low ≤ e.0.0 = omega (arith, l, begins_low first count e.0.0 e.1 few over) in
    inside _ _ (from_low low e.0 low_is) refl)
