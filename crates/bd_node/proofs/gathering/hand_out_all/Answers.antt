use Rattle.std.proofs.Common.{◌≡◌, ◌≢◌, ◌+◌, ◌<◌, ◌≤◌, ◌++◌, ◌∷◌, [], List, ℕ, Some, length, map, take, sym, ◌∙◌, ap, subst, append_assoc, slice_index_or, arith}
use Rattle.std.specs.List.{slice_get}
use Rattle.std.proofs.lemmas.List.{map-append, take_all, take_more}
use Rattle.std.proofs.lemmas.List.Elements.{All-get_or}
use Rattle.std.proofs.lemmas.Option.{get_or_from_slice_get, slice_get-get_or}
use Rattle.bd_log.specs.Merge.{Part}
use Rattle.bd_worker.specs.declared.seat.Seat.{Seat}
use Rattle.bd_worker.specs.Seats.{part_in, IsHandedOut}
use Rattle.bd_node.proofs.Gathered.{more_at}
use Rattle.bd_worker.proofs.Places.{is_below, set_else}
use Rattle.bd_node.proofs.gathering.hand_out_all.Goals as goal

pub hand_out-part-requires : goal.hand_out-part-requires
hand_out-part-requires g c =
    let seats = c.loop-place.seats in
    let place = c.loop-place.place in
    let old = slice_index_or seats place c.index-seats-place.result in
    let lt : place < length seats = omega arith in
    let at : slice_get c.args.seats.now place ≡ Some old = sym (c.loop-place.invariant.later place (omega arith)) ∙ slice_get-get_or seats place c.index-seats-place.result lt in
    subst (λ (x : Seat g.row.D.Denot). x.worker.log.last ≤ c.args.stamp) (get_or_from_slice_get c.args.seats.now place old old at)
    (All-get_or (λ s. s.worker.log.last ≤ c.args.stamp) c.args.seats.now place old (is_below c.args.seats.now place old at) c.requires.below)

pub loop-place-preserved : goal.loop-place-preserved
loop-place-preserved g c =
    let i = c.loop-place.invariant in
    let seats = c.loop-place.seats in
    let place = c.loop-place.place in
    let new = c.hand_out-part.new.self in
    let old = slice_index_or seats place c.index-seats-place.result in
    let lt : place < length seats = omega arith in
    let here : slice_get seats place ≡ Some old = slice_get-get_or seats place c.index-seats-place.result lt in
    let at : slice_get c.args.seats.now place ≡ Some old = sym (i.later place (omega arith)) ∙ here in
    let ne : (k : ℕ) → place + 1 ≤ k → place ≢ k = (λ k le e. omega arith) in
    let before = map part_in (take place c.args.seats.now) in
    let next : take (place + 1) c.args.seats.now ≡ take place c.args.seats.now ++ old ∷ [] =
    take_more c.args.seats.now place old (is_below c.args.seats.now place old at)
    ∙ ap (λ (x : Seat g.row.D.Denot). take place c.args.seats.now ++ x ∷ []) (get_or_from_slice_get c.args.seats.now place old old at) in
    record {
      later = λ k le. set_else seats place k new (ne k le) ∙ i.later k (omega arith);
      out = more_at (IsHandedOut c.args.stamp) c.args.seats.now seats place old new here i.later i.out c.hand_out-part.ensures.out;
      room = omega (arith, i.room, c.push_reserved.ensures.capacity);
      parts =
          c.push_reserved.ensures.items
          ∙ ap (λ (ps : List Part). ps ++ c.hand_out-part.result ∷ []) i.parts
          ∙ append_assoc c.args.parts.now.items before (c.hand_out-part.result ∷ [])
          ∙ ap (λ (ps : List Part). c.args.parts.now.items ++ (before ++ ps)) (ap (λ (q : Part). q ∷ []) c.hand_out-part.ensures.handed)
          ∙ ap (λ (ps : List Part). c.args.parts.now.items ++ ps)
          (sym (map-append part_in (take place c.args.seats.now) (old ∷ [])) ∙ ap (map part_in) (sym next));
    }

pub returns-clause-each : goal.returns-clause-each
returns-clause-each g c = λ i a b h k. (let lt : i < length c.args.seats.now = is_below c.args.seats.now i a h in c.loop-place.invariant.out i a b (omega arith) h k)

pub returns-clause-parts : goal.returns-clause-parts
returns-clause-parts g c = c.loop-place.invariant.parts ∙ ap (λ (ss : List (Seat g.row.D.Denot)). c.args.parts.now.items ++ map part_in ss) (take_all c.loop-place.place c.args.seats.now (omega arith))
