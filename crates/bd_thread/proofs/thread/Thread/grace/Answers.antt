use Rattle.std.proofs.Common.{◌≡◌, ℕ, false, true, refl, sym, ◌∙◌, ap}
use Rattle.bd_base.specs.declared.act.Act.TheVariants as acts
use Rattle.bd_machine.specs.declared.state.Part.{Part}
use Rattle.bd_machine.specs.Grace.{may_grace, remarked_if_any, softened}
use Rattle.bd_machine.specs.Marks.{with_until}
use Rattle.bd_links.specs.Entries.{longer}
use Rattle.bd_thread.specs.declared.links.Links.{Links}
use Rattle.bd_thread.specs.declared.thread.Thread.{Thread}
use Rattle.bd_thread.specs.Acted.{Acted}
use Rattle.bd_thread.specs.Grace.{grace_until, Graces, IsGraced}
use Rattle.bd_thread.specs.Requests.{KeepsTickets}
use Rattle.bd_thread.specs.Seen.{untaken}
use Rattle.bd_thread.proofs.Going.{carried}
use Rattle.bd_thread.proofs.Gracing.{graced_acted, graced_tickets, graces_none, graces_so}
use Rattle.bd_thread.proofs.thread.Thread.grace.Goals as goal

pub returns-then-not-may-clause-graces : goal.returns-then-not-may-clause-graces
returns-then-not-may-clause-graces c =
    let old = c.args.self.now in
    graces_none old c.args.links.now c.args.walk c.args.time (ap (may_grace old.part c.args.walk) (sym c.grace_until-until.ensures) ∙ sym c.may_grace-may.ensures ∙ c.if-not-may.true)

pub returns : goal.returns
returns c =
    let old = c.args.self.now in
    let before = c.args.links.now in
    let walk = c.args.walk in
    let time = c.args.time in
    let until = grace_until old time in
    let may : may_grace old.part walk until ≡ true = ap (may_grace old.part walk) (sym c.grace_until-until.ensures) ∙ sym c.may_grace-may.ensures ∙ c.if-not-may.false in
    let left : Part → Thread = λ p. record old { part = untaken p } in
    let at : ℕ → Part = λ n. remarked_if_any (softened walk old.part.prior) (with_until n) old.part in
    let named : ℕ → Links = λ n. record before { entries = longer old.me before.entries (acts.Grace walk n) } in
    let new : Thread = left (at until) in
    let after : Links = named until in
    let thread = c.in_ok-note.ensures.thread ∙ ap left (c.in_ok-set_grace.ensures ∙ ap at c.grace_until-until.ensures) in
    let shared = c.in_ok-note.ensures.links ∙ ap named c.grace_until-until.ensures in
    let is : IsGraced walk until old before new after = record { thread = refl; links = refl } in
    record {
      acted = carried (Acted old before) new after _ _ thread shared (graced_acted old before new after walk until may is);
      tickets = carried (λ t l. KeepsTickets old → KeepsTickets t) new after _ _ thread shared (graced_tickets old before new after walk until is);
      graces = carried (λ t l. Graces walk time old before t l) new after _ _ thread shared (graces_so old before new after walk time may is);
    }
