use Rattle.std.proofs.Common.{arith}
use Rattle.bd_thread.specs.Limits.{NoLimitAt}
use Rattle.bd_thread.proofs.Alone.{alone_none, alone_then}
use Rattle.bd_thread.proofs.Going.{acted_none, acted_then}
use Rattle.bd_thread.proofs.Idle.{idle_below, idle_here}
use Rattle.bd_thread.proofs.Unlimited.{limits_all}
use Rattle.bd_thread.proofs.thread.Thread.limit_all.Goals as goal

pub loop-place-init : goal.loop-place-init
loop-place-init c = record { acted = acted_none _ _; tickets = λ keeps. keeps; quiet = idle_here _ _ (λ place less. absurd (omega (arith, less))); alone = alone_none _ }

pub loop-place-preserved : goal.loop-place-preserved
loop-place-preserved c = record {
  acted = acted_then _ _ _ _ _ _ c.loop-place.invariant.acted c.in_ok-limit_at.ensures.acted;
  tickets = λ keeps. c.in_ok-limit_at.ensures.tickets (c.loop-place.invariant.tickets keeps);
  quiet = idle_below NoLimitAt c.loop-place.place _ _ _ _ _ _ c.loop-place.invariant.acted c.in_ok-limit_at.ensures.acted c.loop-place.invariant.quiet c.in_ok-limit_at.ensures.quiet;
  alone = alone_then _ _ _ c.loop-place.invariant.alone c.in_ok-limit_at.ensures.alone;
}

pub returns : goal.returns
returns c = record {
  acted = c.loop-place.invariant.acted;
  tickets = c.loop-place.invariant.tickets;
  quiet = limits_all c.loop-place.place c.args.self.now c.args.links.now c.loop-place.self c.loop-place.links (omega (arith, c.loop-place-test.false, c.len-place-end.ensures)) c.loop-place.invariant.quiet;
  alone = c.loop-place.invariant.alone;
}
