use Rattle.std.proofs.Common.{ap, sym, length, ◌∙◌, arith}
use Rattle.bd_ring.specs.Slots.{Holder, Ending}
use Rattle.bd_ring.proofs.SlotSteps.{merges}
use Rattle.bd_ring.proofs.slot.SlotSettling.absorb.Goals as goal

pub absorb-requires-clause-rule : goal.absorb-requires-clause-rule
absorb-requires-clause-rule g c =
    let ending = c.self.invariant.1 in
    let next = ap (λ (p : Holder). p.thread) c.other.view_is ∙ c.requires.next ∙ ap (λ (e : Ending). length e.wrote) (sym c.self.view_is) in
    merges g.R.Journaled.journal g.R.Journaled.start _ _ _ _ ending.0 ending.2 c.other.invariant.1.0 (ap (λ (p : Holder). p.holds) c.other.view_is ∙ c.requires.free) (next ∙ omega arith)
