use Rattle.std.proofs.Common.{ap, sym, subst, ◌∙◌}
use Rattle.bd_ring.specs.SlotRule.{AddsOwn}
use Rattle.bd_ring.specs.Slots.{Holder}
use Rattle.bd_ring.proofs.SlotSteps.{gives, empty}
use Rattle.bd_ring.proofs.slot.Slot.give.Goals as goal

pub push_as-requires-clause-rule : goal.push_as-requires-clause-rule
push_as-requires-clause-rule g c =
    let journal = g.R.Journaled.journal in
    let begins = g.R.Journaled.start in
    let is = c.pass.view_is in
    let holds = ap (λ (p : Holder). p.holds) is ∙ c.requires.held in (
      gives journal begins _ _ _ _ holds c.pass.invariant.1.1 (c.requires.start ∙ ap (λ (p : Holder). p.start) (sym is))
          (subst (λ (p : Holder). AddsOwn p.thread p.seen (journal c.args.value)) (sym is) c.requires.own),
      empty journal begins _ _ holds,
    )
