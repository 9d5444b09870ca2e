use Rattle.std.proofs.Common.{◌≡◌, Some, true, refl, sym, ◌∙◌, subst}
use Rattle.bd_base.specs.declared.act.Act.TheVariants as acts
use Rattle.bd_machine.specs.declared.state.Id.TheVariants as ids
use Rattle.bd_machine.specs.declared.state.Kept.TheVariants as keeps
use Rattle.bd_machine.specs.declared.state.OpenRequest.{OpenRequest}
use Rattle.bd_links.specs.Entries.{longer}
use Rattle.bd_tokens.specs.Tokens.{Sets}
use Rattle.bd_thread.specs.declared.links.Links.{Links}
use Rattle.bd_thread.specs.declared.thread.Thread.{Thread}
use Rattle.bd_thread.specs.Acted.{Acted}
use Rattle.bd_thread.specs.Injections.{pend_due, IsPended, Pends}
use Rattle.bd_thread.specs.Requests.{KeepsTickets}
use Rattle.bd_thread.specs.Seen.{untaken}
use Rattle.bd_thread.proofs.Injecting.{not_pended, pended_acted, pended_tickets, pends_so}
use Rattle.bd_thread.proofs.Going.{carried}
use Rattle.bd_thread.proofs.thread.Thread.pend.Goals as goal

pub returns-in_default-clause-pends : goal.returns-in_default-clause-pends
returns-in_default-clause-pends c = not_pended c.args.self.now c.args.links.now c.args.req (sym c.pend_due.ensures ∙ c.in_default.is)

pub returns : goal.returns
returns c =
    let old = c.args.self.now in
    let before = c.args.links.now in
    let req = c.args.req in
    let r = c.in-Some.r in
    let due : pend_due old before req ≡ Some r = sym c.pend_due.ensures ∙ c.in-Some.is in
    let new : Thread = record old { part = untaken old.part; held = c.hold.new.self } in
    let after : Links = record before { entries = longer old.me before.entries (acts.Pend req) } in
    let is : IsPended req r old before new after = record {
      thread = refl;
      held = subst (λ (x : OpenRequest). Sets old.held.items c.hold.new.self.items (ids.Request req) (Some (keeps.Request x))) c.pended.ensures c.in_ok-hold.ensures.ok;
      links = refl;
    } in
    record {
      acted = carried (Acted old before) new after _ _ c.in_ok-note.ensures.thread c.in_ok-note.ensures.links (pended_acted old before new after req r due is);
      tickets = carried (λ t l. KeepsTickets old → KeepsTickets t) new after _ _ c.in_ok-note.ensures.thread c.in_ok-note.ensures.links (pended_tickets old before new after req r is);
      pends = carried (λ t l. Pends req old before t l true) new after _ _ c.in_ok-note.ensures.thread c.in_ok-note.ensures.links (pends_so old before new after req r due is);
    }
