use Rattle.std.proofs.Common.{◌≡◌, ◌∷◌, ◌++◌, List, Option, length, option_to_list, refl, sym, ◌∙◌, ap, subst, arith}
use Rattle.bd_base.specs.declared.id.ReqId.{ReqId}
use Rattle.bd_thread.specs.declared.thread.Thread.{Thread}
use Rattle.bd_thread.specs.Noted.{CallsEach}
use Rattle.bd_thread.proofs.Going.{acted_none, acted_then}
use Rattle.bd_thread.proofs.Noted.{called_all, called_first, none_in}
use Rattle.bd_thread.proofs.Waiting.{acted_noted, tickets_noted}
use Rattle.bd_thread.proofs.thread.Thread.call_all.Goals as goal

pub loop-round-init : goal.loop-round-init
loop-round-init c = record { acted = acted_none _ _; tickets = λ keeps. keeps; left = omega arith; each = λ n links each. each }

pub loop-round-preserved : goal.loop-round-preserved
loop-round-preserved c =
    let m = c.loop-round.self in
    let b = c.loop-round.links in
    let u : Thread = record m { calls = c.pop_front.new.self } in
    let n = c.call.new.self in
    let d = c.call.new.links in
    let req = c.in-Some.req in
    let called = c.in_ok-call.ensures in
    let items : m.calls.items ≡ req ∷ u.calls.items = c.pop_front.ensures.items ∙ ap (λ (o : Option ReqId). option_to_list o ++ u.calls.items) c.in-Some.is in
    let same : n.calls.items ≡ u.calls.items = ap (λ q. q.items) called.noted in
    record {
      acted = acted_then _ _ _ _ _ _ (acted_noted _ _ m _ u refl c.loop-round.invariant.acted) called.acted;
      tickets = λ keeps. called.tickets (tickets_noted m u refl (c.loop-round.invariant.tickets keeps));
      left = omega (arith, c.loop-round.invariant.left, ap length items, ap length same);
      each = λ x links each. c.loop-round.invariant.each x links
          (subst (λ (reqs : List ReqId). CallsEach reqs m b x links) (sym items)
          (record { middle = n; shared = d; first = called_first req m b u n d refl called.acted called.quiet; second = subst (λ (reqs : List ReqId). CallsEach reqs n d x links) same each }));
    }
