use Rattle.std.proofs.Common.{arith}
use Rattle.bd_ring.proofs.RingSteps.{forks}
use Rattle.bd_ring.proofs.ring.next_sender.Goals as goal

pub another-pass-requires-clause-rule : goal.another-pass-requires-clause-rule
another-pass-requires-clause-rule c = forks _ _ c.requires.receiver.0 c.requires.receiver.1 (omega arith)
