use Rattle.bd_ring.proofs.RingSteps.{counts}
use Rattle.bd_ring.proofs.ring.count_sender.Goals as goal

pub another-requires-clause-rule : goal.another-requires-clause-rule
another-requires-clause-rule c = counts _ _ c.requires.receiver.0 c.requires.receiver.1
