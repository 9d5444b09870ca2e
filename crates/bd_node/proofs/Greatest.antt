-- The greatest of the logs' last stamps, read log by log; and gathering makes no stamp.
use Rattle.std.proofs.Common.{◌≡◌, ℕ, zero, suc, ◌<◌, ◌≤◌, max, All, List, [], ◌∷◌, length, take, Some, refl, sym, ◌∙◌, ap, arith}
use Rattle.std.specs.List.{slice_get}
use Rattle.std.specs.Prelude.{slice_index_or}
use Rattle.bd_node.specs.declared.node.Node.{Node}
use Rattle.bd_worker.specs.declared.seat.Seat.{Seat}
use Rattle.bd_worker.specs.Seats.{IsHandedOut}
use Rattle.bd_node.specs.Gathering.{greatest_last, Gathers}
use Rattle.bd_worker.proofs.Places.{has_at, is_below}

max_later : (a b c : ℕ) → max a (max b c) ≡ max (max a b) c
max_later a b c = omega arith

-- one log more was read
pub greatest_more : {D : Type 0} (seats : List (Seat D)) (i : ℕ) (d : Seat D) → i < length seats
    → greatest_last (take (suc i) seats) ≡ max (greatest_last (take i seats)) (slice_index_or seats i d).worker.log.last
greatest_more [] i d lt = absurd (omega (arith, lt))
greatest_more (s ∷ ss) zero d lt = let e : max s.worker.log.last 0 ≡ max 0 s.worker.log.last = omega arith in e
greatest_more (s ∷ ss) (suc i) d lt =
    let first : ℕ = s.worker.log.last in
    let before : ℕ = greatest_last (take i ss) in
    let next : ℕ = (slice_index_or ss i d).worker.log.last in
    let rest : greatest_last (take (suc i) ss) ≡ max before next = greatest_more ss i d (omega (arith, lt)) in
    ap (λ (n : ℕ). max first n) rest ∙ max_later first before next

-- where the last stamp of each log is this one, the greatest is, if there is a log
all_are : {D : Type 0} (stamp : ℕ) (seats : List (Seat D)) → 0 < length seats → ((i : ℕ) (s : Seat D) → slice_get seats i ≡ Some s → s.worker.log.last ≡ stamp) → greatest_last seats ≡ stamp
all_are stamp [] some h = absurd (omega (arith, some))
all_are stamp (s ∷ []) some h = let first : s.worker.log.last ≡ stamp = h 0 s refl in let e : max s.worker.log.last 0 ≡ stamp = omega arith in e
all_are stamp (s ∷ t ∷ ss) some h =
    let first : s.worker.log.last ≡ stamp = h 0 s refl in
    let rest : greatest_last (t ∷ ss) ≡ stamp = all_are stamp (t ∷ ss) (omega arith) (λ i u at. h (suc i) u at) in
    let e : max s.worker.log.last (greatest_last (t ∷ ss)) ≡ stamp = omega arith in
    e

pub gathered_stamps : {D : Type 0} (old new : Node D) → Gathers old new → greatest_last new.seats.items ≡ greatest_last old.seats.items
gathered_stamps {D} old new g = go old.seats.items new.seats.items g.len g.greatest g.each
  where
    go : (xs ys : List (Seat D)) → length ys ≡ length xs → g.stamp ≡ greatest_last xs → ((i : ℕ) (a b : Seat D) → slice_get xs i ≡ Some a → slice_get ys i ≡ Some b → IsHandedOut g.stamp a b) → greatest_last ys ≡ greatest_last xs
    go [] [] len most each = refl
    go [] (y ∷ ys) len most each = absurd (omega (arith, len))
    go (x ∷ xs) ys len most each = all_are g.stamp ys (omega (arith, len)) (λ i b at.
        let a = has_at (x ∷ xs) i (let within : i < length ys = is_below ys i b at in omega (arith, len, within)) in
        ap (λ (s : Seat D). s.worker.log.last) (each i a.0 b a.1 at).is) ∙ most
