use Rattle.std.proofs.Common.{ℕ, ap, sym, subst, length}
use Rattle.bd_log.specs.Merge.{Part}
use Rattle.std.specs.List.{sum_by}
use Rattle.bd_worker.specs.Seats.{HasMoved}
use Rattle.bd_node.specs.Whole.{entries_made}
use Rattle.bd_node.proofs.Histories.{keeps_disks_then}
use Rattle.bd_node.proofs.Kept.{node_same, node_then}
use Rattle.bd_node.proofs.node.Node.round_by.Goals as goal

pub returns-clause-disks : goal.returns-clause-disks
returns-clause-disks g c = keeps_disks_then g.D.Disk.state c.args.self.now c.turn_by_schedule.new.self c.gather.new.self c.in_ok-moved.ensures.disks c.in_ok-gather.ensures.disks

pub returns-clause-moved : goal.returns-clause-moved
returns-clause-moved g c =
    subst (λ (n : ℕ). HasMoved (entries_made c.args.self.now) n c.in_ok-moved.moved) (sym (ap (sum_by (λ (p : Part). length p.entries)) c.gather.ensures.same.logs)) c.in_ok-moved.ensures.moved

pub returns-clause-kept : goal.returns-clause-kept
returns-clause-kept g c =
    node_then g.D.Disk.state c.args.self.now c.turn_by_schedule.new.self c.gather.new.self c.turn_by_schedule.ensures.kept (node_same g.D.Disk.state c.turn_by_schedule.new.self c.gather.new.self c.gather.ensures.kept)

pub returns-in_err-gather-clause-kept : goal.returns-in_err-gather-clause-kept
returns-in_err-gather-clause-kept g c =
    node_then g.D.Disk.state c.args.self.now c.turn_by_schedule.new.self c.gather.new.self c.turn_by_schedule.ensures.kept (node_same g.D.Disk.state c.turn_by_schedule.new.self c.gather.new.self c.gather.ensures.kept)
