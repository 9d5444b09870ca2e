use Rattle.std.proofs.lemmas.Result.{IfOk-weaker}
use Rattle.bd_node.specs.Disks.{told_of}
use Rattle.bd_top.proofs.Histories.{exercised}
use Rattle.bd_top.proofs.top.exercise.Goals as goal

pub returns-clause-done : goal.returns-clause-done
returns-clause-done g c =
    let ready = c.in_ok-ready.ready in
    IfOk-weaker _ _ _
    (λ done. exercised (g.C.Clock.range c.args.outside.now.clock.now) c.args.numbers c.args.playing.threads ready.setup (told_of _ ready.setup ready.disks.threads) done.trace done.text.items c.in_ok-ready.ensures.earlier c.in_ok-ready.ensures.setup)
    (c.play_and_report.ensures.played c.in_ok-ready.ensures.alone c.in_ok-ready.ensures.earlier)

pub returns-clause-starts : goal.returns-clause-starts
returns-clause-starts g c = c.play_and_report.ensures.starts c.in_ok-ready.ensures.alone
