-- The seats of a node learn of a Shutdown, one after the other.
use Rattle.std.proofs.Common.{◌≡◌, ℕ, ◌+◌, ◌<◌, ◌≤◌, Bool, true, false, List, set, Some, refl, sym, ◌∙◌, ap, subst, ltb-false, ltb-true, nat_lt, arith}
use Rattle.std.specs.List.{slice_get}
use Rattle.std.proofs.lemmas.Option.{same_Some}
use Rattle.bd_worker.specs.declared.seat.Seat.{Seat}
use Rattle.bd_worker.specs.Shutting.{LearnsShut}
use Rattle.bd_worker.proofs.Places.{is_below, set_else, set_here}

-- one more learnt of it
pub learnt_more : {D : Type 0} → (stamp : ℕ) (before seats : List (Seat D)) (place : ℕ) (old new : Seat D) → slice_get seats place ≡ Some old → ((i : ℕ) → place ≤ i → slice_get seats i ≡ slice_get before i)
    → ((i : ℕ) (a b : Seat D) → 0 < i → i < place → slice_get before i ≡ Some a → slice_get seats i ≡ Some b → LearnsShut stamp a b)
    → LearnsShut stamp old new
    → (i : ℕ) (a b : Seat D) → 0 < i → i < place + 1 → slice_get before i ≡ Some a → slice_get (set seats place new) i ≡ Some b → LearnsShut stamp a b
learnt_more {D} stamp before seats place old new at later learnt learns i a b positive lt h k = go (nat_lt i place) refl
  where
    go : (below : Bool) → nat_lt i place ≡ below → LearnsShut stamp a b
    go true e =
        let low : i < place = ltb-true i place e in
        learnt i a b positive low h (sym (set_else seats place i new (λ x. omega arith)) ∙ k)
    go false e =
        let high : place ≤ i = ltb-false i place e in
        let same : i ≡ place = omega arith in
        let first : old ≡ a = same_Some old a (sym at ∙ later place (omega arith) ∙ ap (slice_get before) (sym same) ∙ h) in
        let second : new ≡ b = same_Some new b (sym (set_here seats place new (is_below seats place old at)) ∙ ap (slice_get (set seats place new)) (sym same) ∙ k) in
        subst (λ (x : Seat D). LearnsShut stamp x b) first (subst (λ (x : Seat D). LearnsShut stamp old x) second learns)
