use Rattle.std.proofs.Common.{◌≡◌, ℕ, List, length, refl, subst, sym, ◌∙◌}
use Rattle.bd_base.specs.declared.act.Entry.{Entry}
use Rattle.bd_ring.specs.Slots.{after_give}
use Rattle.bd_disks.specs.Contents.{contents_of}
use Rattle.bd_worker.specs.Seats.{IsSeat}
use Rattle.bd_worker.specs.Shutting.{Shuts}
use Rattle.bd_worker.proofs.Borrowing.{lent_is}
use Rattle.bd_worker.proofs.Missing.{missed_as, missed_lent_to, missed_seat, missed_shuts}
use Rattle.bd_worker.proofs.Shut.{gives_own, gives_start}
use Rattle.bd_worker.proofs.Shut.{seat_by, seat_shuts}
use Rattle.bd_worker.proofs.seat.Seat.shut.Goals as goal

pub shut-requires : goal.shut-requires
shut-requires g c = missed_lent_to g.D.Disk.state c.args.wires.now c.args.self.now c.take-lent.new.pass.missed c.take-lent.result c.take-lent.new.pass c.requires.sits c.take-lent.ensures

pub returns : goal.returns
returns g c =
    let s = c.args.self.now in
    let w = c.args.wires.now in
    let n = c.take-lent.new.pass.missed in
    let stamp = c.in_ok-stamp.stamp in
    let shut = c.in_ok-stamp.ensures in
    let at = c.requires.sits.sits.seat.worker in
    let thread : s.worker.log.thread ≡ 0 = at.log_thread ∙ sym at.me ∙ c.requires.first in
    record {
      shut = (
        shut.above,
        subst (λ (es : List Entry). Shuts g.D.Disk.state w stamp s (seat_by s c.shut.new.self c.give.new.pass (length es))) (sym c.journal.ensures.rows)
            (missed_shuts g.D.Disk.state w s n stamp (seat_by s c.shut.new.self c.give.new.pass (length c.shut.new.lent.journal))
            (seat_shuts g.D.Disk.state w (missed_as n s) c.take-lent.result c.shut.new.lent c.take-lent.new.pass c.give.new.pass c.take-lent.ensures c.give.ensures stamp c.args.above c.shut.new.self c.requires.first thread shut)),
      );
      disks = refl;
    }

pub give-requires-clause-start : goal.give-requires-clause-start
give-requires-clause-start g c =
    let s = c.args.self.now in
    let w = c.args.wires.now in
    let h = c.requires.sits in
    let x = missed_as c.take-lent.new.pass.missed s in
    let zero : h.t ≡ 0 = sym h.sits.seat.worker.me ∙ c.requires.first in
    let q : IsSeat g.D.Disk.state h.setup 0 h.p h.sits.course h.past w h.opened s = subst (λ (n : ℕ). IsSeat g.D.Disk.state h.setup n h.p h.sits.course h.past w h.opened s) zero h.sits.seat in
    let r = missed_seat g.D.Disk.state w s c.take-lent.new.pass.missed h.setup 0 h.p h.sits.course h.past h.opened q in
    let contents = contents_of g.D.Disk.state s.disks in
    let shut = c.in_ok-stamp.ensures.at h.setup h.p h.sits.course h.past contents q.worker (lent_is h.setup 0 h.p h.sits.course h.past w h.opened x c.take-lent.result c.take-lent.new.pass r c.take-lent.ensures) in
    gives_start g.D.Disk.state w x c.take-lent.result c.shut.new.lent c.take-lent.new.pass (after_give c.take-lent.new.pass c.shut.new.lent.journal) c.take-lent.ensures refl h.setup h.p h.sits.course h.past h.opened c.in_ok-stamp.stamp c.shut.new.self r shut

pub give-requires-clause-own : goal.give-requires-clause-own
give-requires-clause-own g c =
    let s = c.args.self.now in
    let w = c.args.wires.now in
    let h = c.requires.sits in
    let x = missed_as c.take-lent.new.pass.missed s in
    let zero : h.t ≡ 0 = sym h.sits.seat.worker.me ∙ c.requires.first in
    let q : IsSeat g.D.Disk.state h.setup 0 h.p h.sits.course h.past w h.opened s = subst (λ (n : ℕ). IsSeat g.D.Disk.state h.setup n h.p h.sits.course h.past w h.opened s) zero h.sits.seat in
    let r = missed_seat g.D.Disk.state w s c.take-lent.new.pass.missed h.setup 0 h.p h.sits.course h.past h.opened q in
    let contents = contents_of g.D.Disk.state s.disks in
    let shut = c.in_ok-stamp.ensures.at h.setup h.p h.sits.course h.past contents q.worker (lent_is h.setup 0 h.p h.sits.course h.past w h.opened x c.take-lent.result c.take-lent.new.pass r c.take-lent.ensures) in
    gives_own g.D.Disk.state w x c.take-lent.result c.shut.new.lent c.take-lent.new.pass (after_give c.take-lent.new.pass c.shut.new.lent.journal) c.take-lent.ensures refl h.setup h.p h.sits.course h.past h.opened c.in_ok-stamp.stamp c.shut.new.self r shut
