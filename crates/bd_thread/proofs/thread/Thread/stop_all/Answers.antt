use Rattle.std.proofs.Common.{List, refl, sym, ◌∙◌, subst, arith}
use Rattle.std.proofs.lemmas.List.{drop_all, drop_more}
use Rattle.bd_base.specs.declared.id.ReqId.{ReqId}
use Rattle.bd_thread.specs.Aborts.{StopsEach}
use Rattle.bd_thread.proofs.Going.{acted_none, acted_then}
use Rattle.bd_thread.proofs.thread.Thread.stop_all.Goals as goal

pub loop-req-init : goal.loop-req-init
loop-req-init c = record {
  acted = acted_none _ _;
  tickets = λ keeps. keeps;
  stops = λ n links each. subst (λ (reqs : List ReqId). StopsEach reqs c.args.cause c.args.self.now c.args.links.now n links) (c.as_slice-req-items.ensures ∙ c.in_ok-reqs.ensures) each;
}

pub loop-req-preserved : goal.loop-req-preserved
loop-req-preserved c = record {
  acted = acted_then _ _ _ _ _ _ c.loop-req.invariant.acted c.in_ok-stop.ensures.acted;
  tickets = λ keeps. c.in_ok-stop.ensures.tickets (c.loop-req.invariant.tickets keeps);
  stops = λ n links each. c.loop-req.invariant.stops n links
      (subst (λ (reqs : List ReqId). StopsEach reqs c.args.cause c.loop-req.self c.loop-req.links n links) (sym (drop_more _ c.loop-req.req-index _ c.loop-req-test.true))
      (record { middle = c.stop.new.self; shared = c.stop.new.links; first = c.in_ok-stop.ensures.stops; second = each }));
}

pub returns : goal.returns
returns c = record {
  acted = c.loop-req.invariant.acted;
  tickets = c.loop-req.invariant.tickets;
  stops = c.loop-req.invariant.stops _ _
      (subst (λ (reqs : List ReqId). StopsEach reqs c.args.cause c.loop-req.self c.loop-req.links c.loop-req.self c.loop-req.links) (sym (drop_all c.loop-req.req-index _ (omega (arith, c.loop-req-test.false))))
      (refl, refl));
}
