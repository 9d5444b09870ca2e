use Rattle.std.proofs.Common.{refl}
use Rattle.bd_touched.proofs.Holding.{keeps_then, same_holds}
use Rattle.bd_touched.proofs.touched.Touched.expire.Goals as goal

pub loop-round-init : goal.loop-round-init
loop-round-init c = record {
  covers = λ req on. on;
  keeps = same_holds c.args.self.now c.args.self.now refl;
}

pub loop-round-preserved : goal.loop-round-preserved
loop-round-preserved c = record {
  covers = λ req on. c.end_first.ensures.covers req (c.loop-round.invariant.covers req on);
  keeps = keeps_then c.args.self.now c.loop-round.self c.end_first.new.self c.loop-round.invariant.keeps c.end_first.ensures.covers c.end_first.ensures.keeps;
}
