use Rattle.bd_ring.proofs.RingSteps.{delivers}
use Rattle.bd_ring.proofs.ring.Settling.finish.Goals as goal

pub learn_as-requires-clause-rule : goal.learn_as-requires-clause-rule
learn_as-requires-clause-rule c = delivers _ _ c.self.invariant.1
