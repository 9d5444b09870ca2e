use Rattle.bd_ring.proofs.RingSteps.{takes, delivers}
use Rattle.bd_ring.proofs.ring.Ring.take.Goals as goal

pub pop_as-requires-clause-rule : goal.pop_as-requires-clause-rule
pop_as-requires-clause-rule g c = (takes _ _ c.pass.invariant.1, delivers _ _ c.pass.invariant.1)
