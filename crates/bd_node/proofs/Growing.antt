-- What the seats' logs grow by in a round.
use Rattle.std.proofs.Common.{◌≡◌, ℕ, zero, suc, ◌+◌, ◌<◌, ◌≤◌, Bool, true, false, nat_lt, All, IsPermutation, List, [], ◌∷◌, ◌++◌, length, length-append, map, sum_by, None, Option, Some, refl, sym, ◌∙◌, ap, subst, ltb-false, ltb-true, arith}
use Rattle.std.specs.List.{list_all, slice_get}
use Rattle.std.specs.Prelude.{slice_index_or}
use Rattle.std.proofs.lemmas.List.Sorted.{sum_by-IsPermutation, All-permutation, IsPermutation-sym}
use Rattle.std.proofs.lemmas.List.Sums.{sum_by-cons}
use Rattle.std.proofs.lemmas.Option.{slice_get-get_or}
use Rattle.bd_base.specs.declared.act.Entry.{Entry}
use Rattle.bd_log.specs.Merge.{entries_of, Part}
use Rattle.bd_outside.specs.Clock.{Moments}
use Rattle.bd_outside.specs.Disk.{DiskState}
use Rattle.bd_wires.specs.declared.wires.Wires.{Wires}
use Rattle.bd_worker.specs.declared.seat.Seat.{Seat}
use Rattle.bd_worker.specs.Seats.{made_by, AllWentOn, HasMoved}
use Rattle.bd_node.specs.Whole.{log_with, seat_goes}
use Rattle.bd_worker.proofs.Places.{all_at}
use Rattle.bd_node.proofs.Rounds.{no_halt}

-- a sum of which no part falls
sum_grows : {X : Type 0} (f : X → ℕ) (xs ys : List X) → length ys ≡ length xs → ((i : ℕ) (d : X) → i < length xs → f (slice_index_or xs i d) ≤ f (slice_index_or ys i d)) → sum_by f xs ≤ sum_by f ys
sum_grows f [] [] len h = omega arith
sum_grows f [] (y ∷ ys) len h = absurd (omega (arith, len))
sum_grows f (x ∷ xs) [] len h = absurd (omega (arith, len))
sum_grows f (x ∷ xs) (y ∷ ys) len h =
    let first : f x ≤ f y = h 0 x (omega arith) in
    let rest : sum_by f xs ≤ sum_by f ys = sum_grows f xs ys (omega (arith, len)) (λ i d lt. h (suc i) d (omega (arith, lt))) in
    let old : sum_by f (x ∷ xs) ≡ f x + sum_by f xs = sum_by-cons f x xs in
    let new : sum_by f (y ∷ ys) ≡ f y + sum_by f ys = sum_by-cons f y ys in
    omega arith

-- seats that were dealt, had their turns, and were put in order, where none has to halt
pub still_grows : {D : Type 0} {state : D → DiskState} (w : Wires) (range : Option Moments) (old dealt turned new : List (Seat D))
    → IsPermutation old dealt
    → length turned ≡ length dealt
    → AllWentOn state w range dealt turned
    → IsPermutation turned new
    → list_all seat_goes new ≡ true
    → sum_by made_by old ≤ sum_by made_by new
still_grows {D} {state} w range old dealt turned new as-dealt len on gathered go =
    let first : sum_by made_by dealt ≡ sum_by made_by old = sum_by-IsPermutation made_by old dealt as-dealt in
    let turns : sum_by made_by dealt ≤ sum_by made_by turned = sum_grows made_by dealt turned len (λ i d lt. (on i d lt).grows (all_go i d (subst (λ (n : ℕ). i < n) (sym len) lt))) in
    let last : sum_by made_by new ≡ sum_by made_by turned = sum_by-IsPermutation made_by turned new gathered in
    omega arith
  where
    all_go : All (λ s. s.halted ≡ None) turned
    all_go = All-permutation (λ s. s.halted ≡ None) new turned (IsPermutation-sym turned new gathered) (λ i d lt. no_halt (slice_index_or new i d).halted (all_at seat_goes new i (slice_index_or new i d) go (slice_get-get_or new i d lt)))

abbrev size : Part → ℕ
size p = length p.entries

-- of the same threads, all that they made differs as what is in their logs
pub made_alike : {D : Type 0} (trace : List Entry) (xs ys : List (Seat D)) → length ys ≡ length xs → ((i : ℕ) (a b : Seat D) → slice_get xs i ≡ Some a → slice_get ys i ≡ Some b → b.worker.log.thread ≡ a.worker.log.thread)
    → sum_by size (map (log_with trace) ys) + sum_by made_by xs ≡ sum_by size (map (log_with trace) xs) + sum_by made_by ys
made_alike trace [] [] len h = refl
made_alike trace [] (y ∷ ys) len h = absurd (omega (arith, len))
made_alike trace (x ∷ xs) [] len h = absurd (omega (arith, len))
made_alike {D} trace (x ∷ xs) (y ∷ ys) len h =
    let gone : List Entry = entries_of x.worker.log.thread trace in
    let old : size (log_with trace x) ≡ length gone + made_by x = length-append gone x.worker.log.entries in
    let new : size (log_with trace y) ≡ length gone + made_by y =
    ap (λ (t : ℕ). length (entries_of t trace ++ y.worker.log.entries)) (h 0 x y refl refl) ∙ length-append gone y.worker.log.entries in
    let rest : sum_by size (map (log_with trace) ys) + sum_by made_by xs ≡ sum_by size (map (log_with trace) xs) + sum_by made_by ys = made_alike trace xs ys (omega (arith, len)) (λ i a b at at'. h (suc i) a b at at') in
    let made-old : sum_by made_by (x ∷ xs) ≡ made_by x + sum_by made_by xs = sum_by-cons made_by x xs in
    let made-new : sum_by made_by (y ∷ ys) ≡ made_by y + sum_by made_by ys = sum_by-cons made_by y ys in
    let all-old : sum_by size (map (log_with trace) (x ∷ xs)) ≡ size (log_with trace x) + sum_by size (map (log_with trace) xs) = sum_by-cons size (log_with trace x) (map (log_with trace) xs) in
    let all-new : sum_by size (map (log_with trace) (y ∷ ys)) ≡ size (log_with trace y) + sum_by size (map (log_with trace) ys) = sum_by-cons size (log_with trace y) (map (log_with trace) ys) in
    omega arith

-- whether a round moved, by what was in the logs before and after
pub moved_round : (made left made' left' : ℕ) → left ≤ left' → made' + left ≡ made + left' → HasMoved made made' (nat_lt left left')
moved_round made left made' left' more same = go (nat_lt left left') refl
  where
    go : (b : Bool) → nat_lt left left' ≡ b → HasMoved made made' b
    go true e = let lt : left < left' = ltb-true left left' e in omega (arith, lt, same)
    go false e = let le : left' ≤ left = ltb-false left left' e in omega (arith, le, more, same)
