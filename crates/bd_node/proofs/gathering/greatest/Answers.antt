use Rattle.std.proofs.Common.{◌≡◌, ℕ, zero, suc, ◌+◌, ◌<◌, ◌≤◌, max, All, List, [], ◌∷◌, length, take, sym, ◌∙◌, ap, ap₂, subst, slice_index_or, arith}
use Rattle.std.proofs.lemmas.List.{take_all}
use Rattle.bd_worker.specs.declared.seat.Seat.{Seat}
use Rattle.bd_node.specs.Gathering.{greatest_last}
use Rattle.bd_node.proofs.Greatest.{greatest_more}
use Rattle.bd_node.proofs.gathering.greatest.Goals as goal

-- where none of the first was above the one number, and the next isn't above the other, none of these is above that
all_more : {X : Type 0} (last : X → ℕ) (xs : List X) (i : ℕ) (d : X) (a b : ℕ) → i < length xs → a ≤ b → last (slice_index_or xs i d) ≤ b → All (λ s. last s ≤ a) (take i xs) → All (λ s. last s ≤ b) (take (suc i) xs)
all_more last [] i d a b within more here all = absurd (omega (arith, within))
all_more last (y ∷ ys) zero d a b within more here all = go
  where
    go : All (λ s. last s ≤ b) (y ∷ [])
    go zero e less = here
    go (suc k) e less = absurd (omega (arith, less))
all_more last (y ∷ ys) (suc i) d a b within more here all = go (all_more last ys i d a b (omega (arith, within)) more here (λ j e lower. all (suc j) e (omega (arith, lower))))
  where
    go : All (λ s. last s ≤ b) (take (suc i) ys) → All (λ s. last s ≤ b) (y ∷ take (suc i) ys)
    go rest zero e less = let first : last y ≤ a = all zero e (omega arith) in omega (arith, first, more)
    go rest (suc k) e less = rest k e (omega (arith, less))

pub returns-clause-is : goal.returns-clause-is
returns-clause-is g c =
    c.loop-seat.invariant.is ∙ ap (λ (ss : List (Seat g.row.D.Denot)). greatest_last ss) (take_all c.loop-seat.seat-index c.args.seats.now (omega (arith, c.loop-seat-test.false, c.loop-seat.auto.seat-index-end)))

pub returns-clause-above : goal.returns-clause-above
returns-clause-above g c =
    subst (All (λ (s : Seat g.row.D.Denot). s.worker.log.last ≤ c.loop-seat.greatest)) (take_all c.loop-seat.seat-index c.args.seats.now (omega (arith, c.loop-seat-test.false, c.loop-seat.auto.seat-index-end))) c.loop-seat.invariant.above

pub loop-seat-preserved : goal.loop-seat-preserved
loop-seat-preserved g c =
    let i = c.loop-seat.seat-index in
    let seat = c.seat-item.result in
    let greater : c.greater-greatest.result ≡ max c.loop-seat.greatest c.last.result = c.greater-greatest.ensures in
    let first : c.loop-seat.greatest ≤ c.greater-greatest.result = omega arith in
    let given : c.last.result ≤ c.greater-greatest.result = omega arith in
    let last : c.last.result ≡ (slice_index_or c.args.seats.now i seat).worker.log.last = c.last.ensures ∙ ap (λ (s : Seat g.row.D.Denot). s.worker.log.last) c.seat-item.is in
    let here : (slice_index_or c.args.seats.now i seat).worker.log.last ≤ c.greater-greatest.result = omega arith in
    let before : c.loop-seat.greatest ≡ greatest_last (take i c.args.seats.now) = c.loop-seat.invariant.is in
    let more : greatest_last (take (suc i) c.args.seats.now) ≡ max (greatest_last (take i c.args.seats.now)) (slice_index_or c.args.seats.now i seat).worker.log.last = greatest_more c.args.seats.now i seat c.loop-seat-test.true in
    let is : c.greater-greatest.result ≡ greatest_last (take (suc i) c.args.seats.now) = greater ∙ ap₂ (λ (m n : ℕ). max m n) before last ∙ sym more in
    let next : suc i ≡ i + 1 = omega arith in
    record {
      is = subst (λ n. c.greater-greatest.result ≡ greatest_last (take n c.args.seats.now)) next is;
      above = subst (λ n. All (λ (s : Seat g.row.D.Denot). s.worker.log.last ≤ c.greater-greatest.result) (take n c.args.seats.now)) next
          (all_more (λ (s : Seat g.row.D.Denot). s.worker.log.last) c.args.seats.now i seat c.loop-seat.greatest c.greater-greatest.result c.loop-seat-test.true first here c.loop-seat.invariant.above);
    }
