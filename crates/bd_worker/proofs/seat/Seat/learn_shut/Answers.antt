use Rattle.std.proofs.Common.{subst, sym, true}
use Rattle.bd_log.specs.Log.{Written}
use Rattle.bd_worker.specs.Shutting.{LearnsShut}
use Rattle.bd_worker.proofs.Shut.{learns_shut}
use Rattle.bd_worker.proofs.seat.Seat.learn_shut.Goals as goal

pub returns-clause-shut : goal.returns-clause-shut
returns-clause-shut g c =
    let s = c.args.self.now in
    subst (λ (log : Written). LearnsShut c.args.stamp s (record s { worker = record s.worker { links = record s.worker.links { shut = true }; log = log } })) (sym c.meet.ensures)
    (learns_shut c.args.stamp s c.requires.other c.requires.later)
