use Rattle.std.proofs.Common.{refl, ◌∙◌}
use Rattle.std.proofs.lemmas.List.Sorted.{IsPermutation-refl}
use Rattle.bd_node.proofs.Starts.{node_begins}
use Rattle.bd_node.proofs.Telling.{made_in_logs}
use Rattle.bd_node.proofs.node.Node.build.Goals as goal

pub returns-in-Ok-seat_all-clause-opened : goal.returns-in-Ok-seat_all-clause-opened
returns-in-Ok-seat_all-clause-opened g c =
    node_begins g.D.Disk.state c.args.disks.items _ c.requires.disks c.new-in-Ok-seat_all.ensures.items c.in-Ok.ensures refl c.in-Ok-seat_all.ensures.seated

pub returns-in-Ok-seat_all-clause-node : goal.returns-in-Ok-seat_all-clause-node
returns-in-Ok-seat_all-clause-node g c = record {
  starts = c.args.disks.items;
  node = node_begins g.D.Disk.state c.args.disks.items _ c.requires.disks c.new-in-Ok-seat_all.ensures.items c.in-Ok.ensures refl c.in-Ok-seat_all.ensures.seated;
}

pub returns-in-Ok-seat_all-clause-none : goal.returns-in-Ok-seat_all-clause-none
returns-in-Ok-seat_all-clause-none g c = made_in_logs c.new-in-Ok-seat_all.result.items c.in-Ok-seat_all.seats.items c.new-in-Ok-seat_all.ensures.items ∙ c.in-Ok-seat_all.ensures.none

pub returns-in_default-clause-kept : goal.returns-in_default-clause-kept
returns-in_default-clause-kept g c = IsPermutation-refl c.args.disks.items
