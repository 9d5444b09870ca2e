use Rattle.std.proofs.Common.{◌+◌, drop}
use Rattle.std.proofs.lemmas.List.{drop_more}
use Rattle.bd_machine.proofs.Moving.{moved_on}
use Rattle.bd_steps.proofs.stopping.add_all.Goals as goal

pub loop-req-preserved : goal.loop-req-preserved
loop-req-preserved c =
    moved_on c.loop-req.ids c.push.new.self _ (drop c.loop-req.req-index c.args.more.now) (drop (c.loop-req.req-index + 1) c.args.more.now) _
    c.in_ok-push.ensures.ok (drop_more _ c.loop-req.req-index _ c.loop-req-test.true) c.loop-req.invariant
