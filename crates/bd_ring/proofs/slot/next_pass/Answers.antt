use Rattle.bd_ring.proofs.SlotSteps.{forks}
use Rattle.bd_ring.proofs.slot.next_pass.Goals as goal

pub another-pass-requires-clause-rule : goal.another-pass-requires-clause-rule
another-pass-requires-clause-rule g c = forks g.R.Journaled.journal g.R.Journaled.start _ _ c.requires.leads.0 c.requires.leads.1 c.requires.leads.2 c.requires.leads.3
