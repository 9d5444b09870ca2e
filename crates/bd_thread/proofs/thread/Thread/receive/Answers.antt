use Rattle.std.proofs.Common.{None, Some, refl, subst}
use Rattle.bd_thread.specs.Sent.{Takes}
use Rattle.bd_thread.proofs.Alone.{alone_then, comes_alone, takes_alone}
use Rattle.bd_thread.proofs.Going.{acted_then}
use Rattle.bd_thread.proofs.Idle.{received_more}
use Rattle.bd_thread.proofs.thread.Thread.receive.Goals as goal

pub returns-clause-acted : goal.returns-clause-acted
returns-clause-acted c = acted_then _ _ _ _ _ _ c.in_ok-id.ensures.acted c.in_ok-came.ensures.acted

pub returns-clause-quiet : goal.returns-clause-quiet
returns-clause-quiet c = λ few.
    let o = c.args.self.now in
    let a = c.args.links.now in
    let m = c.take.new.self in
    let b = c.take.new.links in
    absurd (received_more o a m b c.came.new.self c.came.new.links c.in-Some.id (subst (Takes o a m b) c.in-Some.is c.in_ok-id.ensures.takes) c.in_ok-came.ensures.acted few)

pub returns-clause-alone : goal.returns-clause-alone
returns-clause-alone c =
    alone_then _ _ _ (takes_alone _ _ _ _ _ c.in_ok-id.ensures.takes) (comes_alone c.in-Some.id c.take.new.self c.take.new.links c.came.new.self c.came.new.links c.in_ok-came.ensures.came)

pub returns-in_default-clause-alone : goal.returns-in_default-clause-alone
returns-in_default-clause-alone c = takes_alone _ _ _ _ _ c.in_ok-id.ensures.takes

pub returns-clause-receives : goal.returns-clause-receives
returns-clause-receives c = record {
  id = Some c.in-Some.id;
  middle = c.take.new.self;
  shared = c.take.new.links;
  takes = subst (Takes c.args.self.now c.args.links.now c.take.new.self c.take.new.links) c.in-Some.is c.in_ok-id.ensures.takes;
  came = c.in_ok-came.ensures.came;
  taken_is = refl;
}

pub returns-in_default-clause-receives : goal.returns-in_default-clause-receives
returns-in_default-clause-receives c = record {
  id = None;
  middle = c.take.new.self;
  shared = c.take.new.links;
  takes = subst (Takes c.args.self.now c.args.links.now c.take.new.self c.take.new.links) c.in_default.is c.in_ok-id.ensures.takes;
  came = (refl, refl);
  taken_is = refl;
}
