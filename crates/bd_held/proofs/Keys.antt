-- Keys of held requests: those that are equal, and the first of them.
use Rattle.std.proofs.Common.{◌≡◌, ℕ, ◌==◌, ◌<◌, ◌≤◌, Bool, true, false, cond, ◌||◌, nat_lt, nat_le, List, [], ◌∷◌, Option, Some, None, refl, sym, ◌∙◌, ap, ap₂, leb-true, le-leb, eqb-true, arith}
use Rattle.std.specs.declared.cmp.Ordering.{Ordering}
use Rattle.std.specs.declared.cmp.Ordering.TheVariants.{Less, Equal, Greater}
use Rattle.std.specs.BTreeMap.Range.{IsLeBy}
use Rattle.std.specs.BTreeSet.{insert_key}
use Rattle.std.specs.List.{All, list_any}
use Rattle.std.specs.Ordering.{is_eq, is_gt, match_ordering, nat_cmp, ordering_then}
use Rattle.std.proofs.lemmas.Bool.{ltb-true}
use Rattle.std.proofs.lemmas.List.Elements.{All-head, All-tail}
use Rattle.bd_held.specs.Holds.{first_hold, has_due, key_cmp, key_of, HoldKey}
use Rattle.bd_held.specs.declared.held.HeldRequest.{HeldRequest}

-- ---- equal keys

then_first : (a b : Ordering) → is_eq (ordering_then a b) ≡ true → is_eq a ≡ true
then_first Less b h = cc
then_first Equal b h = refl
then_first Greater b h = cc

then_second : (a b : Ordering) → is_eq (ordering_then a b) ≡ true → is_eq b ≡ true
then_second Less b h = cc
then_second Equal b h = h
then_second Greater b h = cc

nat_same : (x y : ℕ) → is_eq (nat_cmp x y) ≡ true → x ≡ y
nat_same x y h = go (nat_lt x y) (x == y) refl h
  where
    go : (b c : Bool) → (x == y) ≡ c → is_eq (cond b Less (cond c Equal Greater)) ≡ true → x ≡ y
    go true c e k = cc
    go false true e k = eqb-true x y e
    go false false e k = cc

-- the moment, the thread and the number of two keys that are equal
pub same_moment : (a b : HoldKey) → is_eq (key_cmp a b) ≡ true → a.0 ≡ b.0
same_moment a b h = nat_same a.0 b.0 (then_first _ (nat_cmp a.1 b.1) (then_first _ (nat_cmp a.2 b.2) h))

pub same_thread : (a b : HoldKey) → is_eq (key_cmp a b) ≡ true → a.1 ≡ b.1
same_thread a b h = nat_same a.1 b.1 (then_second (nat_cmp a.0 b.0) _ (then_first _ (nat_cmp a.2 b.2) h))

pub same_number : (a b : HoldKey) → is_eq (key_cmp a b) ≡ true → a.2 ≡ b.2
same_number a b h = nat_same a.2 b.2 (then_second (ordering_then (nat_cmp a.0 b.0) (nat_cmp a.1 b.1)) _ h)

-- ---- holds that end

-- a key that doesn't come after another has no later moment
moment_le : (a b : HoldKey) → IsLeBy key_cmp a b → a.0 ≤ b.0
moment_le a b h = go (nat_lt a.0 b.0) (a.0 == b.0) refl refl h
  where
    go : (c d : Bool) → nat_lt a.0 b.0 ≡ c → (a.0 == b.0) ≡ d → is_gt (ordering_then (ordering_then (cond c Less (cond d Equal Greater)) (nat_cmp a.1 b.1)) (nat_cmp a.2 b.2)) ≡ false → a.0 ≤ b.0
    go true d p q k = let less : a.0 < b.0 = ltb-true a.0 b.0 p in omega (arith, less)
    go false true p q k = let same : a.0 ≡ b.0 = eqb-true a.0 b.0 q in omega (arith, same)
    go false false p q k = cc

later_not : (now m n : ℕ) → nat_le m now ≡ false → m ≤ n → nat_le n now ≡ false
later_not now m n early le = go (nat_le n now) refl
  where
    go : (b : Bool) → nat_le n now ≡ b → b ≡ false
    go true e = let come : n ≤ now = leb-true n now e in let first : nat_le m now ≡ true = le-come come in let f : true ≡ false = sym first ∙ early in cc
      where
        le-come : n ≤ now → nat_le m now ≡ true
        le-come come = le-leb m now (omega (arith, come, le))
    go false e = refl

-- where the first of them hasn't ended, none has
none_due : (now : ℕ) (first : HoldKey) (keys : List HoldKey) → nat_le first.0 now ≡ false → All (IsLeBy key_cmp first) keys → has_due now keys ≡ false
none_due now first [] early least = refl
none_due now first (k ∷ ks) early least =
    ap₂ (λ (b c : Bool). b || c) (later_not now first.0 k.0 early (moment_le first k (All-head (IsLeBy key_cmp first) k ks least)))
    (none_due now first ks early (All-tail (IsLeBy key_cmp first) k ks least))

pub first_due : (now : ℕ) (keys : List HoldKey) (h : HeldRequest) → Some h ≡ first_hold keys → All (IsLeBy key_cmp (key_of h.req h.until)) keys → nat_le h.until now ≡ has_due now keys
first_due now [] h is least = cc
first_due now (k ∷ ks) h is least = go (nat_le h.until now) refl
  where
    at : h.until ≡ k.0
    at = ap (λ (o : Option HeldRequest). until_of o) is
      where
        until_of : Option HeldRequest → ℕ
        until_of None = 0
        until_of (Some x) = x.until

    go : (b : Bool) → nat_le h.until now ≡ b → b ≡ has_due now (k ∷ ks)
    go true e = sym (ap (λ (c : Bool). c || has_due now ks) (ap (λ (m : ℕ). nat_le m now) (sym at) ∙ e))
    go false e = sym (none_due now (key_of h.req h.until) (k ∷ ks) e least)

pub none_first : (now : ℕ) (keys : List HoldKey) → None ≡ first_hold keys → false ≡ has_due now keys
none_first now [] is = refl
none_first now (k ∷ ks) is = cc

-- ---- a key that is put in

pub still_has : (p : HoldKey → Bool) (keys : List HoldKey) (new : HoldKey) → list_any p keys ≡ true → list_any p (insert_key key_cmp keys new) ≡ true
still_has p [] new h = cc
still_has p (k ∷ ks) new h = go (key_cmp new k) (p k) refl h (still_has p ks new)
  where
    go : (r : Ordering) (b : Bool) → p k ≡ b → b || list_any p ks ≡ true → (list_any p ks ≡ true → list_any p (insert_key key_cmp ks new) ≡ true)
        → list_any p (match_ordering r (new ∷ k ∷ ks) (k ∷ ks) (k ∷ insert_key key_cmp ks new)) ≡ true
    go Less b e m rest = last (p new) (list_any p (k ∷ ks)) (ap (λ (c : Bool). c || list_any p ks) e ∙ m)
      where
        last : (x y : Bool) → y ≡ true → x || y ≡ true
        last true y q = refl
        last false y q = q
    go Equal b e m rest = ap (λ (c : Bool). c || list_any p ks) e ∙ m
    go Greater true e m rest = ap (λ (c : Bool). c || list_any p (insert_key key_cmp ks new)) e
    go Greater false e m rest = ap (λ (c : Bool). c || list_any p (insert_key key_cmp ks new)) e ∙ rest m
