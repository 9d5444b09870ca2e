use Rattle.std.proofs.Common.{List, ap, sym, subst, length, ◌∙◌, arith}
use Rattle.bd_base.specs.declared.act.Entry.{Entry}
use Rattle.bd_ring.specs.SlotRule.{BeginsWithEach}
use Rattle.bd_ring.specs.Slots.{Ending}
use Rattle.bd_ring.proofs.SlotSteps.{closes, there}
use Rattle.bd_ring.proofs.slot.SlotSettling.finish.Goals as goal

pub pop_as-requires-clause-rule : goal.pop_as-requires-clause-rule
pop_as-requires-clause-rule g c =
    let ending = c.self.invariant.1 in
    let all = ap (λ (e : Ending). e.passes) c.self.view_is ∙ sym c.requires ∙ ap (λ (e : Ending). length e.wrote) (sym c.self.view_is) in (
      closes g.R.Journaled.journal g.R.Journaled.start _ _ ending.0 ending.1 ending.3,
      there g.R.Journaled.journal g.R.Journaled.start _ _ ending.0 ending.2 (all ∙ omega arith),
    )

pub returns-clause-seen : goal.returns-clause-seen
returns-clause-seen g c = subst (λ (l : List (List Entry)). BeginsWithEach (g.R.Journaled.journal c.in-Some.value) l) (ap (λ (e : Ending). e.seen) c.self.view_is) (c.in-Some.ensures.rule).4
