use Rattle.bd_log.proofs.Choice.{first_more}
use Rattle.bd_log.proofs.firsts.first_of.Goals as goal

pub loop-place-preserved : goal.loop-place-preserved
loop-place-preserved c =
    let asked = c.sooner-first.ensures in
    first_more c.args.parts.now c.loop-place.first c.loop-place.place c.sooner-first.result c.loop-place.invariant c.loop-place-test.true asked.either asked.first asked.second asked.part
