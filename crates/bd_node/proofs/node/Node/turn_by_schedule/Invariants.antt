use Rattle.std.proofs.Common.{◌≡◌}
use Rattle.bd_node.specs.Schedule.{advance_by}
use Rattle.bd_worker.specs.Seats.{HasMoved}
use Rattle.bd_node.specs.Times.{KeepsTimes}
use Rattle.bd_node.specs.Whole.{entries_made, HasAllDisks, IsNode, KeepsDisks}
use Rattle.bd_node.proofs.node.Node.turn_by_schedule.Given as goal

abbrev pub invariant-loop : goal.invariant-loop
invariant-loop g l = record {
  node : IsNode g.D.Disk.state l.self;
  setup : l.self.setup ≡ l.initial.self.setup;
  flag : l.self.shut ≡ l.initial.self.shut;
  disks : KeepsDisks g.D.Disk.state l.initial.self l.self;
  kept : HasAllDisks g.D.Disk.state l.initial.self l.self;
  times : KeepsTimes (g.C.Clock.range l.clock) l.initial.self l.self;
  moved : HasMoved (entries_made l.initial.self) (entries_made l.self) l.moved;
  schedule : l.self.schedule.state ≡ advance_by l.counter l.initial.self.schedule.state;
}
