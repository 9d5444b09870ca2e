use Rattle.std.proofs.Common.{refl}
use Rattle.bd_touched.proofs.Holding.{keeps_then, same_holds}
use Rattle.bd_touched.proofs.touched.Touched.take_holds.Goals as goal

pub loop-entry-init : goal.loop-entry-init
loop-entry-init c = record {
  covers = λ req on. on;
  keeps = same_holds c.args.self.now c.args.self.now refl;
}

pub loop-entry-preserved : goal.loop-entry-preserved
loop-entry-preserved c = record {
  covers = λ req on. c.in_ok-take_hold.ensures.covers req (c.bound_holds.ensures.covers req (c.loop-entry.invariant.covers req on));
  keeps = keeps_then c.args.self.now c.bound_holds.new.self c.take_hold.new.self
      (keeps_then c.args.self.now c.loop-entry.self c.bound_holds.new.self c.loop-entry.invariant.keeps c.bound_holds.ensures.covers c.bound_holds.ensures.keeps)
      c.in_ok-take_hold.ensures.covers c.in_ok-take_hold.ensures.keeps;
}
