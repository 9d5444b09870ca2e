-- A list of open requests whose numbers rise, and the counts of each device's work and each handle's requests, after one
-- came or went.
use Rattle.std.proofs.Common.{◌≡◌, ℕ, zero, suc, ◌+◌, ◌-◌, ◌<◌, ◌≤◌, Bool, true, false, Option, Some, None, is_some, IfSome, cond, not, ◌&&◌, ◌==◌, filter, List, [], ◌∷◌, ◌++◌, length, get_or, take, drop, slice_index_or, eqb-true, eq-eqb, refl, sym, ◌∙◌, ap, subst, arith}
use Rattle.std.proofs.lemmas.Bool.{and_parts}
use Rattle.std.proofs.lemmas.List.Sums.{sum_by_push, sum_by-remove}
use Rattle.bd_base.specs.declared.id.HandleId.{HandleId}
use Rattle.bd_base.specs.declared.id.ReqId.{ReqId}
use Rattle.bd_machine.specs.declared.handle_counts.HandleCounts.{HandleCounts}
use Rattle.bd_machine.specs.declared.state.Open.{Open}
use Rattle.bd_machine.specs.Opens.{count_of, open_of, work_of, work_on, CountsLess, CountsMore, CountsOneLess, CountsOneMore, IsRegular, RisesBetween, TakenOut}
use Rattle.bd_machine.specs.Same.{same_handle, same_request}

-- one with a greater number comes last
rises_more : (low high : ℕ) (os : List Open) (o : Open) → RisesBetween low high os → high ≤ o.id.seq → RisesBetween low (o.id.seq + 1) (os ++ o ∷ [])
rises_more low high [] o h q = (omega (arith, h, q), omega arith)
rises_more low high (x ∷ os) o h q = (h.0, rises_more (x.id.seq + 1) high os o h.1 q)

work_more : (n : ℕ) (os : List Open) (o : Open) → work_on n (os ++ o ∷ []) ≡ work_on n os + work_of n o
work_more n [] o = omega arith
work_more n (x ∷ os) o = let ih : work_on n (os ++ o ∷ []) ≡ work_on n os + work_of n o = work_more n os o in omega (arith, ih)

-- 1 where the request is of the handle, or else 0
abbrev one_of : HandleId → Open → ℕ
one_of handle o = cond (same_handle o.handle handle) 1 0

pub more_regular : (os : List Open) (old new : List ℕ) (was now : HandleCounts) (next : ℕ) (o : Open) → IsRegular os old was next → next ≤ o.id.seq → CountsMore old new o → length new ≡ length old
    → CountsOneMore was now o.handle → IsRegular (os ++ o ∷ []) new now (o.id.seq + 1)
more_regular os old new was now next o h q more len one = record {
  rises = rises_more 0 next os o h.rises q;
  counted = λ n. more n ∙ ap (λ (k : ℕ). k + work_of n o) (h.counted n) ∙ sym (work_more n os o);
  handled = λ handle. one handle.0 ∙ ap (λ (k : ℕ). k + one_of handle o) (h.handled handle) ∙ sym (sum_by_push (one_of handle) os o);
  few = omega (arith, h.few, len);
}

-- from a lesser number on they rise as well
rises_lower : (low lower high : ℕ) (os : List Open) → lower ≤ low → RisesBetween low high os → RisesBetween lower high os
rises_lower low lower high [] q h = omega (arith, q, h)
rises_lower low lower high (x ∷ os) q h = (omega (arith, q, h.0), h.1)

rises_less : (low high : ℕ) (os : List Open) (i : ℕ) → RisesBetween low high os → RisesBetween low high (take i os ++ drop (suc i) os)
rises_less low high [] zero h = h
rises_less low high [] (suc i) h = h
rises_less low high (x ∷ os) zero h = rises_lower (x.id.seq + 1) low high os (omega (arith, h.0)) h.1
rises_less low high (x ∷ os) (suc i) h = (h.0, rises_less (x.id.seq + 1) high os i h.1)

low_less : (i n : ℕ) → suc i < suc n → i < n
low_less i n p = omega arith

work_less : (n : ℕ) (os : List Open) (i : ℕ) (o : Open) → i < length os → o ≡ get_or os i o → work_on n os ≡ work_on n (take i os ++ drop (suc i) os) + work_of n o
work_less n [] i o within at = absurd (omega (arith, within))
work_less n (x ∷ os) zero o within at = subst (λ (z : Open). work_of n x + work_on n os ≡ work_on n os + work_of n z) (sym at) (omega arith)
work_less n (x ∷ os) (suc i) o within at = let ih : work_on n os ≡ work_on n (take i os ++ drop (suc i) os) + work_of n o = work_less n os i o (low_less i (length os) within) at in omega (arith, ih)

-- those with greater numbers are others
greater_stay : (low high : ℕ) (req : ReqId) (os : List Open) → req.seq < low → RisesBetween low high os → os ≡ filter (λ o. not (same_request o.id req)) os
greater_stay low high req [] q h = refl
greater_stay low high req (x ∷ os) q h =
    go (x.id.thread == req.thread) (x.id.seq == req.seq) refl (greater_stay (x.id.seq + 1) high req os (omega (arith, q, h.0)) h.1)
  where
    go : (a b : Bool) → (x.id.seq == req.seq) ≡ b → os ≡ filter (λ o. not (same_request o.id req)) os → x ∷ os ≡ cond (not (a && b)) (x ∷ filter (λ o. not (same_request o.id req)) os) (filter (λ o. not (same_request o.id req)) os)
    go true true e ih = let is : x.id.seq ≡ req.seq = eqb-true x.id.seq req.seq e in absurd (omega (arith, is, q, h.0))
    go false true e ih = ap (λ zs. x ∷ zs) ih
    go true false e ih = ap (λ zs. x ∷ zs) ih
    go false false e ih = ap (λ zs. x ∷ zs) ih

-- one that stands later has a greater number
later_greater : (low high : ℕ) (os : List Open) (i : ℕ) (o : Open) → i < length os → o ≡ get_or os i o → RisesBetween low high os → low ≤ o.id.seq
later_greater low high [] i o within at h = absurd (omega (arith, within))
later_greater low high (x ∷ os) zero o within at h = subst (λ (z : Open). low ≤ z.id.seq) (sym at) h.0
later_greater low high (x ∷ os) (suc i) o within at h = let later : x.id.seq + 1 ≤ o.id.seq = later_greater (x.id.seq + 1) high os i o (low_less i (length os) within) at h.1 in omega (arith, later, h.0)

same_number : (a b : ReqId) → same_request a b ≡ true → a.seq ≡ b.seq
same_number a b h = eqb-true a.seq b.seq (and_parts (a.thread == b.thread) (a.seq == b.seq) h).1

-- where numbers rise, one of an id is the only one
pub only_one : (low high : ℕ) (req : ReqId) (os : List Open) (i : ℕ) (o : Open) → i < length os → o ≡ get_or os i o → same_request o.id req ≡ true → RisesBetween low high os
    → take i os ++ drop (suc i) os ≡ filter (λ o. not (same_request o.id req)) os
only_one low high req [] i o within at same h = absurd (omega (arith, within))
only_one low high req (x ∷ os) zero o within at same h =
    let this : same_request x.id req ≡ true = subst (λ (z : Open). same_request z.id req ≡ true) at same in
    let rest = greater_stay (x.id.seq + 1) high req os (omega (arith, same_number x.id req this)) h.1 in
    rest ∙ sym (ap (λ (b : Bool). cond (not b) (x ∷ filter (λ o. not (same_request o.id req)) os) (filter (λ o. not (same_request o.id req)) os)) this)
only_one low high req (x ∷ os) (suc i) o within at same h =
    let within' = low_less i (length os) within in
    let later : x.id.seq + 1 ≤ o.id.seq = later_greater (x.id.seq + 1) high os i o within' at h.1 in
    go (x.id.thread == req.thread) (x.id.seq == req.seq) refl (omega (arith, later, same_number o.id req same)) (only_one (x.id.seq + 1) high req os i o within' at same h.1)
  where
    go : (a b : Bool) → (x.id.seq == req.seq) ≡ b → x.id.seq < req.seq → take i os ++ drop (suc i) os ≡ filter (λ o. not (same_request o.id req)) os
        → x ∷ (take i os ++ drop (suc i) os) ≡ cond (not (a && b)) (x ∷ filter (λ o. not (same_request o.id req)) os) (filter (λ o. not (same_request o.id req)) os)
    go true true e less ih = absurd (omega (arith, eqb-true x.id.seq req.seq e, less))
    go false true e less ih = ap (λ zs. x ∷ zs) ih
    go true false e less ih = ap (λ zs. x ∷ zs) ih
    go false false e less ih = ap (λ zs. x ∷ zs) ih

pub less_regular : (os : List Open) (old new : List ℕ) (was now : HandleCounts) (next i : ℕ) (o : Open) → IsRegular os old was next → i < length os → o ≡ get_or os i o → CountsLess old new o → length new ≡ length old
    → CountsOneLess was now o.handle → IsRegular (take i os ++ drop (suc i) os) new now next
less_regular os old new was now next i o h within at less len one = record {
  rises = rises_less 0 next os i h.rises;
  counted = λ n. less n ∙ counted n (h.counted n) (work_less n os i o within at);
  handled = λ handle. one handle.0 ∙ handled handle (h.handled handle) (sum_by-remove (one_of handle) os i o within);
  few = omega (arith, h.few, len);
}
  where
    handled : (handle : HandleId) → count_of was handle.0 ≡ open_of handle os → open_of handle (take i os ++ drop (suc i) os) + one_of handle (get_or os i o) ≡ open_of handle os
        → count_of was handle.0 - one_of handle o ≡ open_of handle (take i os ++ drop (suc i) os)
    handled handle p q =
        let this : open_of handle (take i os ++ drop (suc i) os) + one_of handle o ≡ open_of handle os = subst (λ (z : Open). open_of handle (take i os ++ drop (suc i) os) + one_of handle z ≡ open_of handle os) (sym at) q in
        omega (arith, p, this)

    counted : (n : ℕ) → slice_index_or old n 0 ≡ work_on n os → work_on n os ≡ work_on n (take i os ++ drop (suc i) os) + work_of n o → slice_index_or old n 0 - work_of n o ≡ work_on n (take i os ++ drop (suc i) os)
    counted n p q = omega (arith, p, q)

-- one was taken out, where numbers rise
pub taken_regular : (req : ReqId) (os new : List Open) (old left : List ℕ) (was now : HandleCounts) (next : Option ℕ) (o : Open) → IfSome next (IsRegular os old was) → TakenOut req os new o
    → CountsLess old left o → length left ≡ length old → CountsOneLess was now o.handle → IfSome next (IsRegular new left now)
taken_regular req os new old left was now None o h taken less len one = tt
taken_regular req os new old left was now (Some next) o h taken less len one =
    subst (λ (zs : List Open). IsRegular zs left now next) (sym taken.rest) (less_regular os old left was now next taken.place o h taken.within taken.at less len one)

pub taken_is : (req : ReqId) (os new : List Open) (old : List ℕ) (was : HandleCounts) (next : Option ℕ) (o : Open) → is_some next ≡ true → IfSome next (IsRegular os old was) → TakenOut req os new o
    → new ≡ filter (λ o. not (same_request o.id req)) os
taken_is req os new old was None o some h taken = cc
taken_is req os new old was (Some next) o some h taken =
    taken.rest ∙ only_one 0 next req os taken.place o taken.within taken.at (equal_ids o.id req taken.thread taken.seq) h.rises
  where
    equal_ids : (a b : ReqId) → a.thread ≡ b.thread → a.seq ≡ b.seq → same_request a b ≡ true
    equal_ids a b p q = ap (λ (c : Bool). c && (a.seq == b.seq)) (eq-eqb a.thread b.thread p) ∙ eq-eqb a.seq b.seq q
