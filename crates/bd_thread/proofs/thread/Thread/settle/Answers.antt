use Rattle.std.proofs.Common.{drop}
use Rattle.bd_thread.proofs.Looked.{look_same}
use Rattle.bd_thread.proofs.thread.Thread.settle.Goals as goal

pub loop-round-preserved : goal.loop-round-preserved
loop-round-preserved c = λ keeps looks.
    c.look_again.ensures (drop c.args.entries c.args.links.now.entries) c.loop-round.touched keeps c.take_first.ensures.all c.in-Some.ensures.first c.take_first.ensures.holds (c.loop-round.invariant keeps looks)

pub returns-in_default : goal.returns-in_default
returns-in_default c = λ keeps looks.
    look_same (drop c.args.entries c.args.links.now.entries) c.loop-round.touched c.take_first.new.self c.args.self.now c.take_first.ensures.all (c.take_first.ensures.none c.in_default.is) c.take_first.ensures.holds (c.loop-round.invariant keeps looks)
