use Rattle.std.proofs.Common.{ap, subst, ◌∙◌}
use Rattle.bd_worker.specs.Seats.{AllWentOn}
use Rattle.bd_node.proofs.Crews.{all_sit, all_then}
use Rattle.bd_node.proofs.crew.Crew.work.Goals as goal

pub returns-then-not-pass_once : goal.returns-then-not-pass_once
returns-then-not-pass_once g c =
    let w = c.args.wires.now in
    let state = g.D.Disk.state in
    let range = g.C.Clock.range c.args.self.now.watch.now.outside.now.clock.now in
    let i = c.loop.invariant in
    let on = subst (λ r. AllWentOn state w r c.loop.seats c.pass_once.new.seats) (ap (λ x. g.C.Clock.range x.now.outside.now.clock.now) i.watch) c.pass_once.ensures.seats in
    all_then state w range c.args.seats.now c.loop.seats c.pass_once.new.seats i.len i.on on

pub loop-preserved : goal.loop-preserved
loop-preserved g c =
    let w = c.args.wires.now in
    let state = g.D.Disk.state in
    let range = g.C.Clock.range c.args.self.now.watch.now.outside.now.clock.now in
    let i = c.loop.invariant in
    let on = subst (λ r. AllWentOn state w r c.loop.seats c.pass_once.new.seats) (ap (λ x. g.C.Clock.range x.now.outside.now.clock.now) i.watch) c.pass_once.ensures.seats in
    record {
      len = c.pass_once.auto.seats ∙ i.len;
      on = all_then state w range c.args.seats.now c.loop.seats c.pass_once.new.seats i.len i.on on;
      watch = c.pass_once.ensures.watch ∙ i.watch;
    }

pub pass_once-requires : goal.pass_once-requires
pass_once-requires g c =
    all_sit g.D.Disk.state c.args.wires.now (g.C.Clock.range c.args.self.now.watch.now.outside.now.clock.now) c.args.seats.now c.loop.seats c.loop.invariant.len c.requires c.loop.invariant.on
