-- The order by stamp and thread.
use Rattle.std.proofs.Common.{◌≡◌, ◌<◌, ◌≤◌, true, false, ◌==◌, ◌&&◌, nat_lt, ◌⊎◌, inl, inr, List, [], ◌∷◌, ◌++◌, sym, eqb-true, arith}
use Rattle.std.specs.List.{AllByRecursion}
use Rattle.std.proofs.lemmas.Bool.{cases_lt, or_cases, and_parts, ltb-true, ltb-false, or_parts, and_cases, eqb-false}
use Rattle.bd_base.specs.declared.act.Entry.{Entry}
use Rattle.bd_log.specs.Merge.{IsBefore, IsOrdered, is_before}

pub all_map : {X : Type 0} (P Q : X → Type 0) (xs : List X) → ((x : X) → P x → Q x) → AllByRecursion P xs → AllByRecursion Q xs
all_map P Q [] f h = tt
all_map P Q (x ∷ xs) f h = (f x h.0, all_map P Q xs f h.1)

pub all_both : {X : Type 0} (P Q R : X → Type 0) (xs : List X) → ((x : X) → P x → Q x → R x) → AllByRecursion P xs → AllByRecursion Q xs → AllByRecursion R xs
all_both P Q R [] f h k = tt
all_both P Q R (x ∷ xs) f h k = (f x h.0 k.0, all_both P Q R xs f h.1 k.1)

pub all_append : {X : Type 0} (P : X → Type 0) (xs ys : List X) → AllByRecursion P xs → AllByRecursion P ys → AllByRecursion P (xs ++ ys)
all_append P [] ys h k = k
all_append P (x ∷ xs) ys h k = (h.0, all_append P xs ys h.1 k)

pub all_any : {X : Type 0} (P : X → Type 0) (xs : List X) → ((x : X) → P x) → AllByRecursion P xs
all_any P [] f = tt
all_any P (x ∷ xs) f = (f x, all_any P xs f)

pub before_trans : (x y z : Entry) → IsBefore x y → IsBefore y z → IsBefore x z
before_trans x y z (inl a) (inl b) = inl (omega arith)
before_trans x y z (inl a) (inr b) = inl (omega arith)
before_trans x y z (inr a) (inl b) = inl (omega arith)
before_trans x y z (inr a) (inr b) = inr (omega arith, omega arith)

pub never_both : (x y : Entry) → IsBefore x y → IsBefore y x → ⊥
never_both x y (inl h) (inl k) = omega arith
never_both x y (inl h) (inr k) = omega arith
never_both x y (inr h) (inl k) = omega arith
never_both x y (inr h) (inr k) = omega arith

pub is_before-true : (x y : Entry) → is_before x y ≡ true → IsBefore x y
is_before-true x y h = go (or_cases (nat_lt x.stamp y.stamp) ((x.stamp == y.stamp) && nat_lt x.thread y.thread) h)
  where
    go : (nat_lt x.stamp y.stamp ≡ true) ⊎ (((x.stamp == y.stamp) && nat_lt x.thread y.thread) ≡ true) → IsBefore x y
    go (inl a) = inl (ltb-true x.stamp y.stamp a)
    go (inr b) = let p = and_parts (x.stamp == y.stamp) (nat_lt x.thread y.thread) b in inr (eqb-true x.stamp y.stamp p.0, ltb-true x.thread y.thread p.1)

-- of two entries of different threads, one is before the other
pub is_before-false : (x y : Entry) → is_before x y ≡ false → (x.thread ≡ y.thread → ⊥) → IsBefore y x
is_before-false x y h ne = go (cases_lt y.stamp x.stamp)
  where
    p : (nat_lt x.stamp y.stamp ≡ false) × (((x.stamp == y.stamp) && nat_lt x.thread y.thread) ≡ false)
    p = or_parts (nat_lt x.stamp y.stamp) ((x.stamp == y.stamp) && nat_lt x.thread y.thread) h

    last : x.stamp ≡ y.stamp → ((x.stamp == y.stamp) ≡ false) ⊎ (nat_lt x.thread y.thread ≡ false) → y.thread < x.thread
    last e (inl f) = absurd (eqb-false x.stamp y.stamp f e)
    last e (inr f) = let le : y.thread ≤ x.thread = ltb-false x.thread y.thread f in omega arith

    go : (y.stamp < x.stamp) ⊎ (x.stamp ≤ y.stamp) → IsBefore y x
    go (inl lt) = inl lt
    go (inr le) =
        let ge : y.stamp ≤ x.stamp = ltb-false x.stamp y.stamp p.0 in
        let e : x.stamp ≡ y.stamp = omega arith in
        inr (sym e, last e (and_cases (x.stamp == y.stamp) (nat_lt x.thread y.thread) p.1))

pub ordered_append : (xs ys : List Entry) → IsOrdered xs → IsOrdered ys → AllByRecursion (λ x. AllByRecursion (IsBefore x) ys) xs → IsOrdered (xs ++ ys)
ordered_append [] ys h k a = k
ordered_append (x ∷ xs) ys h k a = (all_append (IsBefore x) xs ys h.0 a.0, ordered_append xs ys h.1 k a.1)
