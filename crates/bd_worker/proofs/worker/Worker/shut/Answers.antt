use Rattle.std.proofs.Common.{refl, sym}
use Rattle.bd_worker.proofs.Lent.{replica_left}
use Rattle.bd_worker.proofs.Shut.{logged, shut_with, IsLogged}
use Rattle.bd_worker.proofs.worker.Worker.shut.Goals as goal

pub catch_up-requires-clause-state : goal.catch_up-requires-clause-state
catch_up-requires-clause-state c = replica_left c.args.self.now c.args.seen c.args.lent.now c.requires

pub returns : goal.returns
returns c =
    let old = c.args.self.now in
    let lent = c.args.lent.now in
    let stamp = c.in_ok-stamp.stamp in
    let pushed = c.in_ok-stamp.ensures in
    let log : IsLogged c.last_stamp.result c.args.above stamp old.log c.push.new.self =
    logged old.log c.meet.new.self c.meet-2.new.self c.push.new.self c.last_stamp.result c.args.above stamp c.meet.ensures c.meet-2.ensures pushed.stamp pushed.entries pushed.last pushed.thread in
    record {
      flag = refl;
      above = log.second;
      later = log.later;
      thread = refl;
      entries = log.has.entries;
      at = λ setup p d past contents a lends.
          shut_with setup p d past contents old c.args.seen lent c.catch_up.new.replica c.push.new.self stamp c.shut.new.self (sym (c.journal-journal.ensures.leaves setup lends.start))
          c.catch_up.ensures.setup c.in_ok-catch_up.ensures.state log.later log.has c.in_ok-shut.ensures.ok a lends;
    }
