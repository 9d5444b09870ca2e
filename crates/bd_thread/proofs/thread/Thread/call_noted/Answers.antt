use Rattle.std.proofs.Common.{None, ◌∙◌}
use Rattle.bd_thread.specs.Calls.{StandsAsked}
use Rattle.bd_thread.proofs.Going.{acted_then}
use Rattle.bd_thread.proofs.Idle.{idle_last}
use Rattle.bd_thread.proofs.thread.Thread.call_noted.Goals as goal

pub returns-clause-acted : goal.returns-clause-acted
returns-clause-acted c = acted_then _ _ _ _ _ _ c.in_ok-call_first.ensures.acted c.in_ok-call_rest.ensures.acted

pub returns-clause-quiet : goal.returns-clause-quiet
returns-clause-quiet c = λ same.
    idle_last {P = StandsAsked None} {Q = StandsAsked None} {R = StandsAsked None} _ _ _ _ _ _ c.in_ok-call_first.ensures.acted c.in_ok-call_rest.ensures.acted
    (λ first rest. first) c.in_ok-call_first.ensures.quiet (λ still. c.in_ok-call_rest.ensures.quiet (same ∙ still))
