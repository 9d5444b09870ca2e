use Rattle.std.proofs.Common.{List, length, ap, refl, subst, sym, ◌∙◌}
use Rattle.bd_base.specs.declared.act.Entry.{Entry}
use Rattle.bd_ring.specs.Slots.{Holder}
use Rattle.bd_worker.specs.Seats.{Continues}
use Rattle.bd_worker.proofs.Borrowing.{gives_own, gives_start}
use Rattle.bd_worker.proofs.Borrowing.{borrowed_continues}
use Rattle.bd_worker.specs.declared.seat.Seat.{Seat}
use Rattle.bd_worker.proofs.Missing.{missed_once}
use Rattle.bd_worker.proofs.seat.Seat.borrow.Goals as goal

pub returns-clause-goes : goal.returns-clause-goes
returns-clause-goes g c =
    let s = c.args.self.now in
    let w = c.args.wires.now in
    let worker = c.work_with.new.self in
    let lent = c.work_with.new.lent in
    let disks = c.work_with.new.disks in
    subst (λ (es : List Entry). Continues g.D.Disk.state w s (record s { worker = worker; passes = record s.passes { slot = c.give.new.pass }; seen = length es; disks = disks })) (sym c.journal.ensures.rows)
    (subst (λ (h : Holder). Continues g.D.Disk.state w s (record s { worker = worker; passes = record s.passes { slot = h }; seen = length lent.journal; disks = disks })) (sym c.give.ensures)
    (borrowed_continues g.D.Disk.state w s worker disks c.in-Some.lent lent c.try_take.new.pass c.in-Some.ensures.take c.in_ok-turned.ensures.goes))

pub returns-clause-quiet : goal.returns-clause-quiet
returns-clause-quiet g c =
    let count = ap (λ (h : Holder). h.borrowed) c.give.ensures ∙ ap (λ (h : Holder). h.borrowed) c.in-Some.ensures.take.0 in
    (record { passes = refl; count = count }, (c.in-Some.lent, c.in_ok-turned.ensures.quiet))

pub returns-in_default-clause-goes : goal.returns-in_default-clause-goes
returns-in_default-clause-goes g c = missed_once g.D.Disk.state c.args.wires.now c.args.self.now c.try_take.new.pass c.in_default.ensures.take.0

pub returns-in_default-clause-quiet : goal.returns-in_default-clause-quiet
returns-in_default-clause-quiet g c =
    let s = c.args.self.now in
    (ap (λ (h : Holder). let x : Seat g.row.D.Denot = record s { passes = record s.passes { slot = h } } in x) c.in_default.ensures.take.0, c.in_default.ensures.take.1)

-- what the slot gave was lent as the worker wants it, so what the worker left may be given back
pub give-requires-clause-start : goal.give-requires-clause-start
give-requires-clause-start g c =
    gives_start g.D.Disk.state c.args.wires.now c.args.self.now c.work_with.new.self c.work_with.new.disks c.in-Some.lent c.work_with.new.lent c.try_take.new.pass c.in-Some.ensures.take c.in_ok-turned.ensures.goes c.requires.sits

pub give-requires-clause-own : goal.give-requires-clause-own
give-requires-clause-own g c =
    gives_own g.D.Disk.state c.args.wires.now c.args.self.now c.work_with.new.self c.work_with.new.disks c.in-Some.lent c.work_with.new.lent c.try_take.new.pass c.in-Some.ensures.take c.in_ok-turned.ensures.goes c.requires.sits
