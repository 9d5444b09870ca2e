use Rattle.std.proofs.Common.{refl}
use Rattle.std.specs.Prelude.{slice_index_or}
use Rattle.std.proofs.lemmas.Option.{slice_get-get_or}
use Rattle.bd_node.proofs.Crews.{all_still, one_stepped}
use Rattle.bd_node.proofs.crew.Crew.turn.Goals as goal

pub returns-then-moved-clause-seats : goal.returns-then-moved-clause-seats
returns-then-moved-clause-seats g c =
    let seats = c.args.seats.now in
    let range = g.C.Clock.range c.args.self.now.watch.now.outside.now.clock.now in
    let old = slice_index_or seats c.args.place c.index-seats-place.result in
    one_stepped g.D.Disk.state c.args.wires.now range seats seats c.args.place old c.step-moved.new.self refl (all_still g.D.Disk.state c.args.wires.now range seats)
    (slice_get-get_or seats c.args.place c.index-seats-place.result c.requires.within) (c.step-moved.ensures.went range c.now-now.ensures)

pub returns-else-moved-clause-seats : goal.returns-else-moved-clause-seats
returns-else-moved-clause-seats g c =
    let seats = c.args.seats.now in
    let range = g.C.Clock.range c.args.self.now.watch.now.outside.now.clock.now in
    let old = slice_index_or seats c.args.place c.index-seats-place.result in
    one_stepped g.D.Disk.state c.args.wires.now range seats seats c.args.place old c.step-moved.new.self refl (all_still g.D.Disk.state c.args.wires.now range seats)
    (slice_get-get_or seats c.args.place c.index-seats-place.result c.requires.within) (c.step-moved.ensures.went range c.now-now.ensures)
