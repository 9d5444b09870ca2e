use Rattle.std.proofs.Common.{ap, ◌∙◌}
use Rattle.bd_ring.specs.Slots.{Holder}
use Rattle.bd_ring.proofs.SlotSteps.{takes, away}
use Rattle.bd_ring.proofs.slot.Slot.try_take.Goals as goal

pub pop_as-requires-clause-rule : goal.pop_as-requires-clause-rule
pop_as-requires-clause-rule g c = (
  takes g.R.Journaled.journal g.R.Journaled.start _ _ c.pass.invariant.1.0 c.pass.invariant.1.1,
  away g.R.Journaled.journal g.R.Journaled.start _ _ c.pass.invariant.1.0 (ap (λ (p : Holder). p.holds) c.pass.view_is ∙ c.requires.free),
)
