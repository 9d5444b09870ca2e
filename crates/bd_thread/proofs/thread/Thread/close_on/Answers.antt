use Rattle.std.proofs.Common.{arith}
use Rattle.bd_thread.proofs.Going.{acted_none, acted_then}
use Rattle.bd_thread.proofs.Idle.{idle_here, idle_then, leaves_idle}
use Rattle.bd_thread.proofs.thread.Thread.close_on.Goals as goal

pub loop-round-init : goal.loop-round-init
loop-round-init c = record { acted = acted_none _ _; tickets = λ keeps. keeps; quiet = idle_here _ _ (λ begun. absurd (omega arith)) }

pub loop-round-preserved : goal.loop-round-preserved
loop-round-preserved c = record {
  acted = acted_then _ _ _ _ _ _ c.loop-round.invariant.acted c.in_ok-close_left.ensures.acted;
  tickets = λ keeps. c.in_ok-close_left.ensures.tickets (c.loop-round.invariant.tickets keeps);
  quiet = idle_then _ _ _ _ _ _ c.loop-round.invariant.acted c.in_ok-close_left.ensures.acted (λ before now begun. now) c.loop-round.invariant.quiet
      (leaves_idle _ _ _ _ _ _ c.in_ok-close_left.ensures.closes);
}

pub returns-then-not-branch : goal.returns-then-not-branch
returns-then-not-branch c = record {
  acted = acted_then _ _ _ _ _ _ c.loop-round.invariant.acted c.in_ok-close_left.ensures.acted;
  tickets = λ keeps. c.in_ok-close_left.ensures.tickets (c.loop-round.invariant.tickets keeps);
  quiet = idle_then _ _ _ _ _ _ c.loop-round.invariant.acted c.in_ok-close_left.ensures.acted (λ before now. now) c.loop-round.invariant.quiet
      (leaves_idle _ _ _ _ _ _ c.in_ok-close_left.ensures.closes);
}
