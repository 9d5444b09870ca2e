-- Ids whose numbers rise: a ticket of an id is the only one of it, and the others rise without it.
use Rattle.std.proofs.Common.{◌≡◌, ℕ, zero, suc, ◌+◌, ◌<◌, ◌≤◌, Bool, true, false, not, cond, ◌==◌, List, [], ◌∷◌, ◌++◌, length, get_or, take, drop, position, Option, Some, None, is_some, remove, IfNone, IfSome, OnSome, refl, sym, ◌∙◌, ap, subst, eqb-true, arith}
use Rattle.std.proofs.lemmas.Bool.{and_parts}
use Rattle.std.proofs.lemmas.Grind.{common_steps}
use Rattle.std.specs.List.{position_or_len, HoldsAt}
use Rattle.bd_base.specs.declared.id.ReqId.{ReqId}
use Rattle.bd_msg.specs.Purse.{same_request, RiseBelow, RisesBetween}

-- one with a greater number comes last
rises_more : (low high : ℕ) (xs : List ReqId) (id : ReqId) → RisesBetween low high xs → high ≤ id.seq → RisesBetween low (id.seq + 1) (xs ++ id ∷ [])
rises_more low high [] id h q = (omega (arith, h, q), omega arith)
rises_more low high (x ∷ xs) id h q = (h.0, rises_more (x.seq + 1) high xs id h.1 q)

pub more : (least : ℕ) (xs : List ReqId) (id : ReqId) → RiseBelow xs least → least ≤ id.seq → RiseBelow (xs ++ id ∷ []) (id.seq + 1)
more least xs id h q = rises_more 0 least xs id h q

-- from a lesser number on they rise as well
rises_lower : (low lower high : ℕ) (xs : List ReqId) → lower ≤ low → RisesBetween low high xs → RisesBetween lower high xs
rises_lower low lower high [] q h = omega (arith, q, h)
rises_lower low lower high (x ∷ xs) q h = (omega (arith, q, h.0), h.1)

rises_less : (low high : ℕ) (xs : List ReqId) (i : ℕ) → RisesBetween low high xs → RisesBetween low high (take i xs ++ drop (suc i) xs)
rises_less low high [] zero h = h
rises_less low high [] (suc i) h = h
rises_less low high (x ∷ xs) zero h = rises_lower (x.seq + 1) low high xs (omega (arith, h.0)) h.1
rises_less low high (x ∷ xs) (suc i) h = (h.0, rises_less (x.seq + 1) high xs i h.1)

-- one was taken out
less : (next : Option ℕ) (xs : List ReqId) (i : ℕ) → IfSome next (RiseBelow xs) → IfSome next (RiseBelow (take i xs ++ drop (suc i) xs))
less None xs i h = tt
less (Some next) xs i h = rises_less 0 next xs i h

pub taken : {X : Type 0} (r : Option X) (next : Option ℕ) (old new : List ReqId) (i : ℕ) → IfSome next (RiseBelow old) → OnSome r (new ≡ remove old i) → IfNone r (new ≡ old) → IfSome next (RiseBelow new)
taken None next old new i h some none = subst (λ (xs : List ReqId). IfSome next (RiseBelow xs)) (sym none) h
taken (Some x) next old new i h some none = subst (λ (xs : List ReqId). IfSome next (RiseBelow xs)) (sym some) (less next old i h)

low_less : (i n : ℕ) → suc i < suc n → i < n
low_less i n p = omega arith

-- one that stands later has a greater number
later_greater : (low high : ℕ) (xs : List ReqId) (i : ℕ) (d : ReqId) → i < length xs → RisesBetween low high xs → low ≤ (get_or xs i d).seq
later_greater low high [] i d within h = absurd (omega (arith, within))
later_greater low high (x ∷ xs) zero d within h = h.0
later_greater low high (x ∷ xs) (suc i) d within h =
    let later : x.seq + 1 ≤ (get_or xs i d).seq = later_greater (x.seq + 1) high xs i d (low_less i (length xs) within) h.1 in omega (arith, later, h.0)

same_number : (a b : ReqId) → same_request a b ≡ true → a.seq ≡ b.seq
same_number a b h = eqb-true a.seq b.seq (and_parts (a.thread == b.thread) (a.seq == b.seq) h).1

-- one with a lesser number is another
other : (x id : ReqId) → x.seq < id.seq → same_request x id ≡ false
other x id q = go (same_request x id) refl
  where
    go : (b : Bool) → same_request x id ≡ b → b ≡ false
    go true e = let is : x.seq ≡ id.seq = same_number x id e in absurd (omega (arith, is, q))
    go false e = refl

first_is : (low high : ℕ) (id : ReqId) (xs : List ReqId) (i : ℕ) → RisesBetween low high xs → i < length xs → same_request (get_or xs i id) id ≡ true
    → position_or_len (λ x. same_request x id) xs ≡ i
first_is low high id [] i h within same = absurd (omega (arith, within))
first_is low high id (x ∷ xs) zero h within same = ap (λ (b : Bool). cond (not b) (1 + position_or_len (λ x. same_request x id) xs) 0) same
first_is low high id (x ∷ xs) (suc i) h within same =
    let within' = low_less i (length xs) within in
    let later : x.seq + 1 ≤ (get_or xs i id).seq = later_greater (x.seq + 1) high xs i id within' h.1 in
    let number : (get_or xs i id).seq ≡ id.seq = same_number (get_or xs i id) id same in
    let ih : position_or_len (λ x. same_request x id) xs ≡ i = first_is (x.seq + 1) high id xs i h.1 within' same in
    ap (λ (b : Bool). cond (not b) (1 + position_or_len (λ x. same_request x id) xs) 0) (other x id (omega (arith, later, number)))
    ∙ ap (λ (n : ℕ). 1 + n) ih ∙ (let one : 1 + i ≡ suc i = omega arith in one)

-- where numbers rise, a ticket of an id is the first of it
pub only_place : (next : Option ℕ) (id : ReqId) (xs : List ReqId) (i : ℕ) → IfSome next (RiseBelow xs) → is_some next ≡ true → i < length xs → HoldsAt (λ x. same_request x id ≡ true) xs i
    → position (λ x. same_request x id) xs ≡ Some i
only_place None id xs i h some within same = cc
only_place (Some next) id xs i h some within same =
    let first : position_or_len (λ x. same_request x id) xs ≡ i = first_is 0 next id xs i h within (same id) in
    grind (arith, common_steps)
