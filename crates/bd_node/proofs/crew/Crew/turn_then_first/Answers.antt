use Rattle.std.proofs.Common.{ap, subst}
use Rattle.bd_worker.specs.Seats.{AllWentOn}
use Rattle.bd_node.proofs.Crews.{all_sit, all_then}
use Rattle.bd_node.proofs.crew.Crew.turn_then_first.Goals as goal

pub returns-then-moved-clause-seats : goal.returns-then-moved-clause-seats
returns-then-moved-clause-seats g c =
    let w = c.args.wires.now in
    let state = g.D.Disk.state in
    let range = g.C.Clock.range c.args.self.now.watch.now.outside.now.clock.now in
    let first = c.turn-moved.new.seats in
    let second = subst (λ r. AllWentOn state w r first c.turn.new.seats) (ap (λ x. g.C.Clock.range x.now.outside.now.clock.now) c.turn-moved.ensures.watch) c.turn.ensures.seats in
    all_then state w range c.args.seats.now first c.turn.new.seats c.turn-moved.auto.seats c.turn-moved.ensures.seats second

pub turn-requires-clause-sit : goal.turn-requires-clause-sit
turn-requires-clause-sit g c =
    all_sit g.D.Disk.state c.args.wires.now (g.C.Clock.range c.args.self.now.watch.now.outside.now.clock.now) c.args.seats.now c.turn-moved.new.seats c.turn-moved.auto.seats c.requires.sit c.turn-moved.ensures.seats
