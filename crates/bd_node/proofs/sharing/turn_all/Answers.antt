use Rattle.std.proofs.Common.{◌∙◌}
use Rattle.std.proofs.lemmas.List.Sorted.{length_permutation, All-permutation}
use Rattle.bd_worker.specs.Seats.{IsSitting}
use Rattle.bd_node.specs.Disks.{disks_of}
use Rattle.bd_node.proofs.Dealing.{still_seated, still_within}
use Rattle.bd_node.proofs.Growing.{still_grows}
use Rattle.bd_node.proofs.Kept.{all_same, all_then, seats_kept, seats_reordered}
use Rattle.bd_node.proofs.sharing.turn_all.Goals as goal

pub turn_each-requires-clause-sits : goal.turn_each-requires-clause-sits
turn_each-requires-clause-sits g c κs within = All-permutation (IsSitting g.D.Disk.state c.args.wires.now) c.args.seats.now c.deal_out.new.seats c.deal_out.ensures c.requires.sits

pub returns-clause-len : goal.returns-clause-len
returns-clause-len g c =
    length_permutation c.turn_each.new.seats c.gather.new.seats c.gather.ensures.same
    ∙ c.turn_each.ensures.len
    ∙ length_permutation c.args.seats.now c.deal_out.new.seats c.deal_out.ensures

pub returns-clause-seats : goal.returns-clause-seats
returns-clause-seats g c =
    still_seated c.args.wires.now (g.C.Clock.range c.args.watch.now.outside.now.clock.now) c.args.seats.now c.deal_out.new.seats c.turn_each.new.seats c.gather.new.seats c.deal_out.ensures c.turn_each.ensures.len c.turn_each.ensures.each
    c.gather.ensures.same c.gather.ensures.sorted

pub returns-clause-grows : goal.returns-clause-grows
returns-clause-grows g c =
    still_grows c.args.wires.now (g.C.Clock.range c.args.watch.now.outside.now.clock.now) c.args.seats.now c.deal_out.new.seats c.turn_each.new.seats c.gather.new.seats c.deal_out.ensures c.turn_each.ensures.len c.turn_each.ensures.each
    c.gather.ensures.same

pub returns-clause-kept : goal.returns-clause-kept
returns-clause-kept g c =
    let state = g.D.Disk.state in
    let old = c.args.seats.now in
    let dealt = c.deal_out.new.seats in
    let turned = c.turn_each.new.seats in
    let new = c.gather.new.seats in
    all_then state (disks_of old) (disks_of dealt) (disks_of new) (seats_reordered state old dealt c.deal_out.ensures)
    (all_then state (disks_of dealt) (disks_of turned) (disks_of new)
    (all_same state (disks_of dealt) (disks_of turned) (seats_kept state c.args.wires.now (g.C.Clock.range c.args.watch.now.outside.now.clock.now) dealt turned c.turn_each.ensures.len c.turn_each.ensures.each))
    (seats_reordered state turned new c.gather.ensures.same))

pub returns-clause-times : goal.returns-clause-times
returns-clause-times g c =
    still_within c.args.wires.now (g.C.Clock.range c.args.watch.now.outside.now.clock.now) c.args.seats.now c.deal_out.new.seats c.turn_each.new.seats c.gather.new.seats c.deal_out.ensures c.turn_each.ensures.len c.turn_each.ensures.each
    c.gather.ensures.same
