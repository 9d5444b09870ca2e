use Rattle.std.proofs.Common.{◌≢◌, ◌≤◌, ◌<◌, arith, length, slice_index_or, ◌∙◌}
use Rattle.std.proofs.lemmas.Option.{slice_get-get_or}
use Rattle.std.proofs.Math.Seq.{map-set_same}
use Rattle.bd_worker.specs.declared.seat.Seat.{Seat}
use Rattle.bd_worker.proofs.Places.{is_below, set_else}
use Rattle.bd_node.proofs.Learning.{learnt_more}
use Rattle.bd_node.proofs.ending.learn_all.Goals as goal

pub loop-place-preserved : goal.loop-place-preserved
loop-place-preserved g c =
    let i = c.loop-place.invariant in
    let seats = c.loop-place.seats in
    let place = c.loop-place.place in
    let new = c.learn_shut.new.self in
    let old = slice_index_or seats place c.index-seats-place.result in
    let lt : place < length seats = omega arith in
    let ne : place ≢ 0 = λ e. omega arith in
    record {
      first = set_else seats place 0 new ne ∙ i.first;
      later = λ k le. (let other : place ≢ k = λ e. omega arith in let before : place ≤ k = omega arith in set_else seats place k new other ∙ i.later k before);
      learnt = learnt_more c.args.stamp c.args.seats.now seats place old new (slice_get-get_or seats place c.index-seats-place.result lt) i.later i.learnt c.learn_shut.ensures.shut;
      disks = map-set_same (λ (s : Seat g.row.D.Denot). s.disks) seats place new c.index-seats-place.result c.learn_shut.ensures.disks ∙ i.disks;
    }

pub returns-clause-others : goal.returns-clause-others
returns-clause-others g c = λ i a b positive h k. (let lt : i < length c.args.seats.now = is_below c.args.seats.now i a h in c.loop-place.invariant.learnt i a b positive (omega arith) h k)
