use Rattle.std.proofs.Common.{ap, subst, ◌∙◌}
use Rattle.bd_worker.specs.Seats.{AllWentOn}
use Rattle.bd_node.proofs.Crews.{all_sit, all_then}
use Rattle.bd_node.proofs.crew.Crew.pass.Goals as goal

pub loop-place-preserved : goal.loop-place-preserved
loop-place-preserved g c =
    let w = c.args.wires.now in
    let state = g.D.Disk.state in
    let range = g.C.Clock.range c.args.self.now.watch.now.outside.now.clock.now in
    let i = c.loop-place.invariant in
    let turned = c.turn_then_first-turned in
    let on = subst (λ r. AllWentOn state w r c.loop-place.seats turned.new.seats) (ap (λ x. g.C.Clock.range x.now.outside.now.clock.now) i.watch) turned.ensures.seats in
    record {
      len = turned.auto.seats ∙ i.len;
      on = all_then state w range c.args.seats.now c.loop-place.seats turned.new.seats i.len i.on on;
      watch = turned.ensures.watch ∙ i.watch;
    }

pub turn_then_first-turned-requires-clause-sit : goal.turn_then_first-turned-requires-clause-sit
turn_then_first-turned-requires-clause-sit g c =
    all_sit g.D.Disk.state c.args.wires.now (g.C.Clock.range c.args.self.now.watch.now.outside.now.clock.now) c.args.seats.now c.loop-place.seats c.loop-place.invariant.len c.requires c.loop-place.invariant.on
