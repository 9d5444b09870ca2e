use Rattle.std.proofs.Common.{Bool, true, false, refl, sym, ◌∙◌, ap, subst}
use Rattle.bd_node.specs.Schedule.{advance}
use Rattle.bd_worker.specs.Seats.{HasMoved}
use Rattle.bd_node.specs.Whole.{entries_made}
use Rattle.bd_node.proofs.Advancing.{advance_next, advance_none}
use Rattle.bd_node.proofs.Histories.{keeps_disks_still, keeps_disks_then}
use Rattle.bd_node.proofs.Kept.{node_still, node_then}
use Rattle.bd_node.proofs.Telling.{moved_more}
use Rattle.bd_node.proofs.node.Node.turn_by_schedule.Goals as goal
use Rattle.bd_node.proofs.node.Node.turn_by_schedule.Goals.{then-moved, else-moved}

pub loop-init : goal.loop-init
loop-init g c = record { node = c.requires; setup = refl; flag = refl; disks = keeps_disks_still g.D.Disk.state c.args.self.now; kept = node_still g.D.Disk.state c.args.self.now; times = λ within. within; moved = refl; schedule = advance_none c.args.self.now.schedule.state }

pub loop-preserved : goal.loop-preserved
loop-preserved g c =
    let i = c.loop.invariant in
    let first = entries_made c.args.self.now in
    let before = entries_made c.loop.self in
    let after = entries_made c.next_turn.new.self in
    record {
      node = c.in_ok-turned.ensures.node;
      setup = c.in_ok-turned.ensures.setup ∙ i.setup;
      flag = c.in_ok-turned.ensures.flag ∙ i.flag;
      disks = keeps_disks_then g.D.Disk.state c.args.self.now c.loop.self c.next_turn.new.self i.disks c.in_ok-turned.ensures.disks;
      kept = node_then g.D.Disk.state c.args.self.now c.loop.self c.next_turn.new.self i.kept c.next_turn.ensures.kept;
      times = λ within. c.in_ok-turned.ensures.times (i.times within);
      moved = elim c.if-moved.branch [
        | then-moved w ↦
            subst (λ (b : Bool). HasMoved first after b) (sym (w.moved-is ∙ w.if-moved.true))
            (moved_more first before after true c.in_ok-turned.turned (subst (λ (b : Bool). HasMoved first before b) w.if-moved.true i.moved) c.in_ok-turned.ensures.moved)
        | else-moved w ↦
            subst (λ (b : Bool). HasMoved first after b) (sym w.moved-is)
            (moved_more first before after false c.in_ok-turned.turned (subst (λ (b : Bool). HasMoved first before b) w.if-moved.false i.moved) c.in_ok-turned.ensures.moved)
      ];
      schedule =
          c.in_ok-turned.ensures.schedule
          ∙ ap advance i.schedule
          ∙ advance_next c.loop.counter c.args.self.now.schedule.state;
    }

pub returns-in_err-turned-clause-kept : goal.returns-in_err-turned-clause-kept
returns-in_err-turned-clause-kept g c = node_then g.D.Disk.state c.args.self.now c.loop.self c.next_turn.new.self c.loop.invariant.kept c.next_turn.ensures.kept
