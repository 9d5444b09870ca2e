use Rattle.std.proofs.Common.{◌≡◌, length}
use Rattle.bd_worker.specs.Seats.{AllWentOn}
use Rattle.bd_node.proofs.crew.Crew.pass.Given as goal

abbrev pub invariant-loop-place : goal.invariant-loop-place
invariant-loop-place g l = record {
  len : length l.seats ≡ length l.initial.seats;
  on : AllWentOn g.D.Disk.state l.wires (g.C.Clock.range l.initial.self.watch.now.outside.now.clock.now) l.initial.seats l.seats;
  watch : l.self.watch ≡ l.initial.self.watch;
}
