use Rattle.std.proofs.lemmas.Result.{on_ok_weaker}
use Rattle.bd_jobs.proofs.HeldLemmas.{adds}
use Rattle.bd_jobs.proofs.read.add.Goals as goal

pub returns : goal.returns
returns c = λ commands threads held.
    on_ok_weaker c.push.result (λ more.
    adds c.args.scripts.now.items c.args.command c.index_mut-script.result.now c.push.new.self commands threads c.requires c.index_mut-script.ensures.value more held)
    c.push.ensures.ok
