use Rattle.std.proofs.lemmas.Result.{on_ok_weaker}
use Rattle.bd_worker.proofs.Borrowing.{alone}
use Rattle.bd_worker.proofs.seat.Seat.work.Goals as goal

pub returns-clause-goes : goal.returns-clause-goes
returns-clause-goes g c = on_ok_weaker c.work.result (λ goes w. alone g.D.Disk.state w c.args.self.now c.work.new.self c.work.new.disks goes) c.work.ensures.goes
