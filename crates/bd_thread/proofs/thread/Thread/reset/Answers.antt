use Rattle.std.proofs.Common.{refl, ◌∙◌, arith}
use Rattle.bd_thread.specs.Calls.{NoResetOf}
use Rattle.bd_thread.proofs.Going.{acted_none, acted_then}
use Rattle.bd_thread.proofs.Idle.{idle_here, idle_so, idle_then}
use Rattle.bd_thread.proofs.Calling.{resets_idle}
use Rattle.bd_thread.proofs.Noted.{resets_noted}
use Rattle.bd_thread.proofs.thread.Thread.reset.Goals as goal

pub loop-round-init : goal.loop-round-init
loop-round-init c = record { acted = acted_none _ _; tickets = λ keeps. keeps; noted = refl; quiet = idle_here _ _ (λ begun. absurd (omega arith)) }

pub loop-round-preserved : goal.loop-round-preserved
loop-round-preserved c = record {
  acted = acted_then _ _ _ _ _ _ c.loop-round.invariant.acted c.in_ok-ask_reset.ensures.acted;
  tickets = λ keeps. c.in_ok-ask_reset.ensures.tickets (c.loop-round.invariant.tickets keeps);
  noted = resets_noted c.args.req c.loop-round.self c.loop-round.links c.ask_reset.new.self c.ask_reset.new.links c.in_ok-ask_reset.field-0 c.in_ok-ask_reset.ensures.asks ∙ c.loop-round.invariant.noted;
  quiet = idle_then {Q = NoResetOf c.args.req} _ _ _ _ _ _ c.loop-round.invariant.acted c.in_ok-ask_reset.ensures.acted (λ before now begun. now) c.loop-round.invariant.quiet (resets_idle c.args.req _ _ _ _ _ c.in_ok-ask_reset.ensures.asks);
}

pub returns-then-not-branch : goal.returns-then-not-branch
returns-then-not-branch c = record {
  acted = acted_then _ _ _ _ _ _ c.loop-round.invariant.acted c.in_ok-ask_reset.ensures.acted;
  tickets = λ keeps. c.in_ok-ask_reset.ensures.tickets (c.loop-round.invariant.tickets keeps);
  noted = resets_noted c.args.req c.loop-round.self c.loop-round.links c.ask_reset.new.self c.ask_reset.new.links c.in_ok-ask_reset.field-0 c.in_ok-ask_reset.ensures.asks ∙ c.loop-round.invariant.noted;
  quiet = idle_then {Q = NoResetOf c.args.req} _ _ _ _ _ _ c.loop-round.invariant.acted c.in_ok-ask_reset.ensures.acted (λ before now. now) c.loop-round.invariant.quiet (resets_idle c.args.req _ _ _ _ _ c.in_ok-ask_reset.ensures.asks);
}

pub returns-after-loop-round : goal.returns-after-loop-round
returns-after-loop-round c = record {
  acted = c.loop-round.invariant.acted;
  tickets = c.loop-round.invariant.tickets;
  noted = c.loop-round.invariant.noted;
  quiet = idle_so _ _ _ _ (λ so. so (omega arith)) c.loop-round.invariant.quiet;
}
