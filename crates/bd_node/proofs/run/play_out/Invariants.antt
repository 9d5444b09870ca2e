use Rattle.std.proofs.Common.{◌≡◌}
use Rattle.bd_node.specs.Times.{KeepsTimes}
use Rattle.bd_node.specs.Whole.{HasAllDisks, IsNode, KeepsDisks}
use Rattle.bd_node.proofs.run.play_out.Given as goal

abbrev pub invariant-loop : goal.invariant-loop
invariant-loop g l = record {
  node : IsNode g.D.Disk.state l.node;
  disks : KeepsDisks g.D.Disk.state l.initial.node l.node;
  times : KeepsTimes (g.C.Clock.range l.outside.clock.now) l.initial.node l.node;
  kept : HasAllDisks g.D.Disk.state l.initial.node l.node;
  setup : l.node.setup ≡ l.initial.node.setup;
}
