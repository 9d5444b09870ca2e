use Rattle.bd_thread.proofs.Going.{acted_then}
use Rattle.bd_thread.proofs.thread.Thread.call_found.Goals as goal

pub returns-clause-acted : goal.returns-clause-acted
returns-clause-acted c = acted_then _ _ _ _ _ _ c.in_ok-call.ensures.acted c.in_ok-call_noted.ensures.acted
