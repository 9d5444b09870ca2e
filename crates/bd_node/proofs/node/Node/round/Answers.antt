use Rattle.std.proofs.Common.{◌≡◌, ℕ, ◌+◌, ◌≤◌, ap, length, nat_lt, subst, sum_by, sym, arith}
use Rattle.bd_log.specs.Merge.{Part}
use Rattle.bd_worker.specs.Seats.{HasMoved}
use Rattle.bd_node.specs.Whole.{entries_left, entries_made}
use Rattle.bd_node.proofs.Growing.{moved_round}
use Rattle.bd_node.proofs.Histories.{keeps_disks_then}
use Rattle.bd_node.proofs.Kept.{node_same, node_still, node_then}
use Rattle.bd_node.proofs.node.Node.round.Goals as goal

pub returns-clause-disks : goal.returns-clause-disks
returns-clause-disks g c = keeps_disks_then g.D.Disk.state c.args.self.now c.turn_in_round.new.self c.gather.new.self c.in_ok-turn_in_round.ensures.disks c.in_ok-gather.ensures.disks

pub returns-clause-kept : goal.returns-clause-kept
returns-clause-kept g c =
    node_then g.D.Disk.state c.args.self.now c.turn_in_round.new.self c.gather.new.self c.turn_in_round.ensures.kept (node_same g.D.Disk.state c.turn_in_round.new.self c.gather.new.self c.gather.ensures.kept)

pub returns-in_err-gather-clause-kept : goal.returns-in_err-gather-clause-kept
returns-in_err-gather-clause-kept g c =
    node_then g.D.Disk.state c.args.self.now c.turn_in_round.new.self c.gather.new.self c.turn_in_round.ensures.kept (node_same g.D.Disk.state c.turn_in_round.new.self c.gather.new.self c.gather.ensures.kept)

pub returns-in_err-before-clause-kept : goal.returns-in_err-before-clause-kept
returns-in_err-before-clause-kept g c = node_still g.D.Disk.state c.args.self.now

pub returns-in_err-after-clause-kept : goal.returns-in_err-after-clause-kept
returns-in_err-after-clause-kept g c = c.turn_in_round.ensures.kept

pub returns-clause-moved : goal.returns-clause-moved
returns-clause-moved g c =
    let o = c.args.self.now in
    let mid = c.turn_in_round.new.self in
    let made = c.in_ok-turn_in_round.ensures.made in
    let before : c.in_ok-before.before ≡ entries_left o = c.in_ok-before.ensures in
    let after : c.in_ok-after.after ≡ entries_left mid = c.in_ok-after.ensures in
    let more : c.in_ok-before.before ≤ c.in_ok-after.after = omega (arith, before, after, made.more) in
    let same : entries_made mid + c.in_ok-before.before ≡ entries_made o + c.in_ok-after.after = omega (arith, before, after, made.same) in
    subst (λ (n : ℕ). HasMoved (entries_made o) n (nat_lt c.in_ok-before.before c.in_ok-after.after)) (sym (ap (sum_by (λ (p : Part). length p.entries)) c.gather.ensures.same.logs))
    (moved_round (entries_made o) c.in_ok-before.before (entries_made mid) c.in_ok-after.after more same)
