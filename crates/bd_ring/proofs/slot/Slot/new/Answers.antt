use Rattle.std.proofs.Common.{ap}
use Rattle.bd_ring.proofs.SlotSteps.{starts, opens_as, empty}
use Rattle.bd_ring.proofs.slot.Slot.new.Goals as goal

pub ruled-requires-clause-rule : goal.ruled-requires-clause-rule
ruled-requires-clause-rule g c = starts g.R.Journaled.journal g.R.Journaled.start

pub push_as-requires-clause-rule : goal.push_as-requires-clause-rule
push_as-requires-clause-rule g c =
    let is = (c.in_ok-queue.ensures).3 in
    (opens_as g.R.Journaled.journal g.R.Journaled.start _ _ _ _ is c.requires.empty, empty g.R.Journaled.journal g.R.Journaled.start _ _ (ap (λ v. v.holds) is))
