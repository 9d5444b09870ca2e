-- What the logs had is merged after the trace, and was counted.
use Rattle.std.proofs.Common.{◌≡◌, ◌≤◌, List, length, map, vec_len, vec_capacity, refl, sym, ◌∙◌, ap, subst, rules}
use Rattle.std.proofs.lemmas.Result.{on_ok_weaker}
use Rattle.bd_base.specs.declared.act.Entry.{Entry}
use Rattle.bd_log.specs.Merge.{AreOfDifferentThreads}
use Rattle.bd_report.specs.Counter.{HasCounted}
use Rattle.bd_report.specs.declared.counter.Counter.{Counter}
use Rattle.bd_worker.specs.declared.seat.Seat.{Seat}
use Rattle.bd_node.specs.Gathering.{Gathers}
use Rattle.bd_worker.specs.Seats.{part_in}
use Rattle.bd_node.specs.Whole.{past_of}
use Rattle.bd_node.proofs.Gathered.{any_room, counts_all, gathered_all, gathered_logs, gathered_node, gathers_so}
use Rattle.bd_node.proofs.Greatest.{gathered_stamps}
use Rattle.bd_node.proofs.Kept.{gathers_disks, unchanged_disks}
use Rattle.bd_node.proofs.Settling.{parts_apart}
use Rattle.bd_node.proofs.Telling.{ok_of}
use Rattle.bd_node.proofs.Times.{times_gathered}
use Rattle.bd_node.proofs.node.Node.gather.Goals as goal

pub merge_logs-requires-clause-apart : goal.merge_logs-requires-clause-apart
merge_logs-requires-clause-apart g c =
    let n = c.args.self.now in
    let h = c.requires.node in
    subst (λ (ss : List (Seat g.row.D.Denot)). AreOfDifferentThreads (map part_in ss)) (sym c.make_room.ensures.same.seats)
    (parts_apart g.D.Disk.state n.setup.now n.wires c.requires.starts (past_of h.met n.trace.items) n.seats.items n.shut h.phases h.seated part_in (λ s. refl))

pub merge_logs-requires-clause-parts : goal.merge_logs-requires-clause-parts
merge_logs-requires-clause-parts g c =
    subst (λ (ss : List (Seat g.row.D.Denot)). length ss ≤ vec_capacity c.in_ok-parts.parts) (sym c.make_room.ensures.same.seats) c.in_ok-parts.ensures.parts

pub returns-then-left-eq0-clause-none : goal.returns-then-left-eq0-clause-none
returns-then-left-eq0-clause-none g c = λ none. (refl, any_room c.args.self.now _)

pub returns-clause-same : goal.returns-clause-same
returns-clause-same g c =
    let n = c.args.self.now in
    let left = c.merge_logs.new.self in
    let all : Gathers n left = gathers_so n c.make_room.new.self left _ _ c.make_room.ensures.same c.merge_logs.ensures in
    gathered_logs n left c.add.new.self _ all

pub returns-clause-left : goal.returns-clause-left
returns-clause-left g c =
    let n = c.args.self.now in
    let left = c.merge_logs.new.self in
    let all : Gathers n left = gathers_so n c.make_room.new.self left _ _ c.make_room.ensures.same c.merge_logs.ensures in
    ok_of c.add.result (gathered_all n left c.add.new.self left.room all)

pub returns-clause-stamps : goal.returns-clause-stamps
returns-clause-stamps g c =
    let n = c.args.self.now in
    let left = c.merge_logs.new.self in
    let all : Gathers n left = gathers_so n c.make_room.new.self left _ _ c.make_room.ensures.same c.merge_logs.ensures in
    ok_of c.add.result (gathered_stamps n left all)

pub returns-clause-node : goal.returns-clause-node
returns-clause-node g c =
    let n = c.args.self.now in
    let mid = c.make_room.new.self in
    let left = c.merge_logs.new.self in
    let h = c.requires.node in
    let all : Gathers n left = gathers_so n mid left _ _ c.make_room.ensures.same c.merge_logs.ensures in
    let many : vec_len mid.trace ≡ length mid.trace.items = search rules in
    let gone : c.len-gathered.result ≡ length n.trace.items = c.len-gathered.ensures ∙ many ∙ ap (λ (es : List Entry). length es) c.make_room.ensures.same.trace in
    let counted : HasCounted n.setup.now n.trace.items left.counter = subst (λ (k : Counter). HasCounted n.setup.now n.trace.items k) (sym all.counter) h.counted in
    on_ok_weaker c.add.result (λ counts. record {
      starts = c.requires.starts;
      node = gathered_node n left c.add.new.self _ all (counts_all n left c.add.new.self left.room all c.as_slice-2.result.now c.len-gathered.result c.as_slice-2.ensures.value gone counts) g.D.Disk.state c.requires.starts h;
    }) (c.add.ensures.counted n.setup.now n.trace.items counted)

pub returns-clause-disks : goal.returns-clause-disks
returns-clause-disks g c =
    let n = c.args.self.now in
    let mid = c.make_room.new.self in
    let left = c.merge_logs.new.self in
    let h = c.requires.node in
    let all : Gathers n left = gathers_so n mid left _ _ c.make_room.ensures.same c.merge_logs.ensures in
    let many : vec_len mid.trace ≡ length mid.trace.items = search rules in
    let gone : c.len-gathered.result ≡ length n.trace.items = c.len-gathered.ensures ∙ many ∙ ap (λ (es : List Entry). length es) c.make_room.ensures.same.trace in
    let counted : HasCounted n.setup.now n.trace.items left.counter = subst (λ (k : Counter). HasCounted n.setup.now n.trace.items k) (sym all.counter) h.counted in
    on_ok_weaker c.add.result (λ counts. record {
      shelf = all.shelf;
      node = gathered_node n left c.add.new.self _ all (counts_all n left c.add.new.self left.room all c.as_slice-2.result.now c.len-gathered.result c.as_slice-2.ensures.value gone counts) g.D.Disk.state;
    }) (c.add.ensures.counted n.setup.now n.trace.items counted)

pub returns-clause-kept : goal.returns-clause-kept
returns-clause-kept g c =
    let n = c.args.self.now in
    let left = c.merge_logs.new.self in
    gathers_disks n left (gathers_so n c.make_room.new.self left _ _ c.make_room.ensures.same c.merge_logs.ensures)

pub returns-in_err-parts-clause-kept : goal.returns-in_err-parts-clause-kept
returns-in_err-parts-clause-kept g c = unchanged_disks _ c.make_room.new.self c.make_room.ensures.same

pub returns-clause-times : goal.returns-clause-times
returns-clause-times g c =
    let n = c.args.self.now in
    let left = c.merge_logs.new.self in
    let all : Gathers n left = gathers_so n c.make_room.new.self left _ _ c.make_room.ensures.same c.merge_logs.ensures in
    ok_of c.add.result (λ range within. times_gathered range n left all within)
