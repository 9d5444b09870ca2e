use Rattle.std.proofs.Common.{◌≡◌, Some, slice_get, sym, ◌∙◌, arith}
use Rattle.bd_tokens.specs.Walks.{walks_in}
use Rattle.bd_thread.proofs.Alone.{alone_none, alone_then}
use Rattle.bd_thread.proofs.Going.{acted_none, acted_then}
use Rattle.bd_thread.proofs.Idle.{idle_here}
use Rattle.bd_thread.proofs.Walking.{visits_all, visits_below, visits_there}
use Rattle.bd_thread.proofs.thread.Thread.walk_all.Goals as goal

pub loop-place-init : goal.loop-place-init
loop-place-init c = record { acted = acted_none _ _; tickets = λ keeps. keeps; quiet = idle_here _ _ (λ i walk less found. absurd (omega (arith, less))); alone = alone_none _ }

pub loop-place-preserved : goal.loop-place-preserved
loop-place-preserved c =
    let o = c.args.self.now in
    let a = c.args.links.now in
    let m = c.loop-place.self in
    let b = c.loop-place.links in
    let n = c.walk.new.self in
    let d = c.walk.new.links in
    let at : slice_get (walks_in m.held.items) c.loop-place.place ≡ Some c.in-Some.id = sym c.walk_at.ensures ∙ c.in-Some.is in
    record {
      acted = acted_then _ _ _ _ _ _ c.loop-place.invariant.acted c.in_ok-walk.ensures.acted;
      tickets = λ keeps. c.in_ok-walk.ensures.tickets (c.loop-place.invariant.tickets keeps);
      quiet = visits_below c.loop-place.place c.in-Some.id o a m b n d c.loop-place.invariant.acted c.in_ok-walk.ensures.acted at c.loop-place.invariant.quiet c.in_ok-walk.ensures.quiet;
      alone = alone_then _ _ _ c.loop-place.invariant.alone c.in_ok-walk.ensures.alone;
    }

pub returns-in_default-clause-quiet : goal.returns-in_default-clause-quiet
returns-in_default-clause-quiet c =
    visits_there c.loop-place.place c.args.self.now c.args.links.now c.loop-place.self c.loop-place.links (omega (arith, c.loop-place-test.true, c.walk_count-place-end.ensures)) (sym c.walk_at.ensures ∙ c.in_default.is) c.loop-place.invariant.quiet

pub returns-clause-quiet : goal.returns-clause-quiet
returns-clause-quiet c =
    visits_all c.loop-place.place c.args.self.now c.args.links.now c.loop-place.self c.loop-place.links (omega (arith, c.loop-place-test.false, c.walk_count-place-end.ensures)) c.loop-place.invariant.quiet
