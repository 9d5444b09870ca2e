use Rattle.std.proofs.Common.{sym, ◌∙◌, arith}
use Rattle.bd_thread.specs.Waits.{NoDestructOn}
use Rattle.bd_thread.proofs.Alone.{alone_none, alone_then, destructs_alone}
use Rattle.bd_thread.proofs.Going.{acted_none, acted_then}
use Rattle.bd_thread.proofs.Idle.{destructs_idle, idle_here, idle_then}
use Rattle.bd_thread.proofs.Leftovers.{undestructed}
use Rattle.bd_thread.proofs.Waiting.{undestructed_below}
use Rattle.bd_thread.proofs.thread.Thread.destruct_all.Goals as goal

pub loop-place-init : goal.loop-place-init
loop-place-init c = record { acted = acted_none _ _; tickets = λ keeps. keeps; quiet = idle_here _ _ (λ dev none. absurd (omega (arith, none))); alone = alone_none _ }

pub loop-place-preserved : goal.loop-place-preserved
loop-place-preserved c = record {
  acted = acted_then _ _ _ _ _ _ c.loop-place.invariant.acted c.in_ok-destruct.ensures.acted;
  tickets = λ keeps. c.in_ok-destruct.ensures.tickets (c.loop-place.invariant.tickets keeps);
  quiet = idle_then {Q = NoDestructOn (record { 0 = c.in-Ok.dev })} _ _ _ _ _ _ c.loop-place.invariant.acted c.in_ok-destruct.ensures.acted
      (λ below on. undestructed_below c.loop-place.place c.in-Ok.dev c.args.self.now c.args.links.now c.in-Ok.ensures.1 below on) c.loop-place.invariant.quiet
      (destructs_idle _ _ _ _ _ _ c.in_ok-destruct.ensures.destructed);
  alone = alone_then _ _ _ c.loop-place.invariant.alone (destructs_alone _ _ _ _ _ _ c.in_ok-destruct.ensures.keeps c.in_ok-destruct.ensures.destructed);
}

pub returns-then-owes_none-clause-quiet : goal.returns-then-owes_none-clause-quiet
returns-then-owes_none-clause-quiet c = idle_here _ _ (undestructed c.args.self.now c.args.links.now (sym c.owes_none.ensures ∙ c.if-owes_none.true))
