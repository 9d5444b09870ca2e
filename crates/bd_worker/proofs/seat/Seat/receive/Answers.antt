use Rattle.std.proofs.Common.{refl, ap}
use Rattle.bd_log.specs.Log.{Written}
use Rattle.bd_worker.proofs.Seats.{received_continues}
use Rattle.bd_worker.proofs.seat.Seat.receive.Goals as goal

pub returns-clause-goes : goal.returns-clause-goes
returns-clause-goes g c =
    let s = c.args.self.now in
    received_continues g.D.Disk.state c.args.wires.now s c.fetch.new.pass c.fetch.new.log (record s.worker.links { queues = c.fetch.new.queues }) refl c.fetch.ensures.len c.in_ok-fetch.ensures.fetched

pub returns-clause-entries : goal.returns-clause-entries
returns-clause-entries g c = ap (λ (l : Written). l.entries) c.in_ok-fetch.ensures.fetched.log_is

pub returns-clause-came : goal.returns-clause-came
returns-clause-came g c = record { fetched = c.in_ok-fetch.ensures.fetched; all = c.in_ok-fetch.ensures.all; passes = refl; links = refl; thread = refl }
