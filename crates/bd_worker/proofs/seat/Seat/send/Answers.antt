use Rattle.std.proofs.Common.{ℕ, refl, subst}
use Rattle.bd_seat.specs.Outgoing.{FlushedAll}
use Rattle.bd_worker.proofs.Departing.{departed_continues}
use Rattle.bd_worker.proofs.seat.Seat.send.Goals as goal

pub returns-clause-goes : goal.returns-clause-goes
returns-clause-goes g c =
    let s = c.args.self.now in
    departed_continues g.D.Disk.state c.args.wires.now s (record s.worker.links { queues = c.flush_all.new.queues }) (record s.passes { sends = c.flush_all.new.sends }) refl refl
    c.flush_all.ensures.queues c.flush_all.ensures.sends
    (subst (λ (n : ℕ). FlushedAll s.worker.me n s.passes.sends.items s.worker.links.queues.items c.flush_all.new.sends.items c.flush_all.new.queues.items) c.last.ensures c.in_ok-flush_all.ensures.flushed)

pub returns-clause-went : goal.returns-clause-went
returns-clause-went g c =
    let s = c.args.self.now in
    record {
      flushed = subst (λ (n : ℕ). FlushedAll s.worker.me n s.passes.sends.items s.worker.links.queues.items c.flush_all.new.sends.items c.flush_all.new.queues.items) c.last.ensures c.in_ok-flush_all.ensures.flushed;
      all = c.in_ok-flush_all.ensures.all;
      passes = refl;
      links = refl;
      thread = refl;
    }
