use Rattle.std.proofs.Common.{◌∙◌}
use Rattle.bd_node.proofs.Histories.{keeps_disks_then}
use Rattle.bd_node.proofs.Kept.{node_then}
use Rattle.bd_node.proofs.run.play_out.Goals as goal

pub loop-preserved-in-Continue-1 : goal.loop-preserved-in-Continue-1
loop-preserved-in-Continue-1 g c =
    let i = c.loop.invariant in
    let shut = c.in_ok-shut-in-Idle.ensures in
    record {
      node = shut.node;
      disks = keeps_disks_then g.D.Disk.state c.args.node.now c.loop.node c.shut.new.self i.disks shut.disks;
      times = λ within. shut.times _ (i.times within);
      kept = node_then g.D.Disk.state c.args.node.now c.loop.node c.shut.new.self i.kept c.shut.ensures.kept;
      setup = shut.setup ∙ i.setup;
    }

pub loop-preserved-in_ok-round_by-in-Schedule : goal.loop-preserved-in_ok-round_by-in-Schedule
loop-preserved-in_ok-round_by-in-Schedule g c =
    let i = c.loop.invariant in
    let turns = c.in_ok-round_by-in-Schedule.ensures in
    record {
      node = turns.node;
      disks = keeps_disks_then g.D.Disk.state c.args.node.now c.loop.node c.round_by.new.self i.disks turns.disks;
      times = λ within. turns.times (i.times within);
      kept = node_then g.D.Disk.state c.args.node.now c.loop.node c.round_by.new.self i.kept c.round_by.ensures.kept;
      setup = turns.setup ∙ i.setup;
    }

pub loop-preserved : goal.loop-preserved
loop-preserved g c =
    let i = c.loop.invariant in
    let turns = c.in_ok-round-in-Reactors.ensures in
    record {
      node = turns.node;
      disks = keeps_disks_then g.D.Disk.state c.args.node.now c.loop.node c.round.new.self i.disks turns.disks;
      times = λ within. turns.times (i.times within);
      kept = node_then g.D.Disk.state c.args.node.now c.loop.node c.round.new.self i.kept c.round.ensures.kept;
      setup = turns.setup ∙ i.setup;
    }

pub returns-in_err-shut-in-Idle-clause-kept : goal.returns-in_err-shut-in-Idle-clause-kept
returns-in_err-shut-in-Idle-clause-kept g c = node_then g.D.Disk.state c.args.node.now c.loop.node c.shut.new.self c.loop.invariant.kept c.shut.ensures.kept

pub returns-in_err-round_by-in-Schedule-clause-kept : goal.returns-in_err-round_by-in-Schedule-clause-kept
returns-in_err-round_by-in-Schedule-clause-kept g c = node_then g.D.Disk.state c.args.node.now c.loop.node c.round_by.new.self c.loop.invariant.kept c.round_by.ensures.kept

pub returns-in_err-round-in-Reactors-clause-kept : goal.returns-in_err-round-in-Reactors-clause-kept
returns-in_err-round-in-Reactors-clause-kept g c = node_then g.D.Disk.state c.args.node.now c.loop.node c.round.new.self c.loop.invariant.kept c.round.ensures.kept

pub returns-in-Done-clause-kept : goal.returns-in-Done-clause-kept
returns-in-Done-clause-kept g c = c.loop.invariant.kept
