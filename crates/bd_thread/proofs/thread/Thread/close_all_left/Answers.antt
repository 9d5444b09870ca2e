use Rattle.std.proofs.Common.{arith}
use Rattle.bd_thread.specs.Waits.{NoHandleOn}
use Rattle.bd_thread.proofs.Going.{acted_none, acted_then}
use Rattle.bd_thread.proofs.Idle.{idle_here, idle_then}
use Rattle.bd_thread.proofs.Waiting.{unclosed_below}
use Rattle.bd_thread.proofs.thread.Thread.close_all_left.Goals as goal

pub loop-place-init : goal.loop-place-init
loop-place-init c = record { acted = acted_none _ _; tickets = λ keeps. keeps; quiet = idle_here _ _ (λ dev none. absurd (omega (arith, none))) }

pub loop-place-preserved : goal.loop-place-preserved
loop-place-preserved c = record {
  acted = acted_then _ _ _ _ _ _ c.loop-place.invariant.acted c.in_ok-close_on.ensures.acted;
  tickets = λ keeps. c.in_ok-close_on.ensures.tickets (c.loop-place.invariant.tickets keeps);
  quiet = idle_then {Q = NoHandleOn (record { 0 = c.in-Ok.dev })} _ _ _ _ _ _ c.loop-place.invariant.acted c.in_ok-close_on.ensures.acted
      (λ below on. unclosed_below c.loop-place.place c.in-Ok.dev c.args.self.now c.args.links.now c.in-Ok.ensures.1 below on) c.loop-place.invariant.quiet c.in_ok-close_on.ensures.quiet;
}
