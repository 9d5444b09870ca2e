use Rattle.std.proofs.Common.{arith}
use Rattle.bd_thread.proofs.Alone.{alone_none, alone_then}
use Rattle.bd_thread.proofs.Gracing.{none_marked}
use Rattle.bd_thread.proofs.Going.{acted_none, acted_then}
use Rattle.bd_thread.proofs.Idle.{idle_here, idle_so, idle_then}
use Rattle.bd_thread.proofs.thread.Thread.harden_due.Goals as goal

pub loop-round-init : goal.loop-round-init
loop-round-init c = record { acted = acted_none _ _; tickets = λ keeps. keeps; quiet = idle_here _ _ (λ begun. absurd (omega arith)); alone = alone_none _ }

pub loop-round-preserved : goal.loop-round-preserved
loop-round-preserved c = record {
  acted = acted_then _ _ _ _ _ _ c.loop-round.invariant.acted c.in_ok-harden_next.ensures.acted;
  tickets = λ keeps. c.in_ok-harden_next.ensures.tickets (c.loop-round.invariant.tickets keeps);
  quiet = idle_then _ _ _ _ _ _ c.loop-round.invariant.acted c.in_ok-harden_next.ensures.acted (λ before now begun. now) c.loop-round.invariant.quiet c.in_ok-harden_next.ensures.quiet;
  alone = alone_then _ _ _ c.loop-round.invariant.alone c.in_ok-harden_next.ensures.alone;
}

pub returns-then-not-branch : goal.returns-then-not-branch
returns-then-not-branch c = record {
  acted = acted_then _ _ _ _ _ _ c.loop-round.invariant.acted c.in_ok-harden_next.ensures.acted;
  tickets = λ keeps. c.in_ok-harden_next.ensures.tickets (c.loop-round.invariant.tickets keeps);
  quiet = idle_then _ _ _ _ _ _ c.loop-round.invariant.acted c.in_ok-harden_next.ensures.acted (λ before now. now) c.loop-round.invariant.quiet c.in_ok-harden_next.ensures.quiet;
  alone = alone_then _ _ _ c.loop-round.invariant.alone c.in_ok-harden_next.ensures.alone;
}

pub returns-after-loop-round : goal.returns-after-loop-round
returns-after-loop-round c = record {
  acted = c.loop-round.invariant.acted;
  tickets = c.loop-round.invariant.tickets;
  quiet = idle_so _ _ _ _ (λ so. none_marked c.args.self.now c.args.links.now (λ some. so (omega (arith, some)))) c.loop-round.invariant.quiet;
  alone = c.loop-round.invariant.alone;
}
