use Rattle.std.proofs.Common.{◌≡◌, List, Some, true, refl, sym, ◌∙◌, ap₂, subst}
use Rattle.bd_base.specs.declared.act.Act.TheVariants as acts
use Rattle.bd_base.specs.declared.id.DevId.{DevId}
use Rattle.bd_held.specs.Holds.{with_hold, HoldKey}
use Rattle.bd_machine.specs.declared.state.Delayed.{Delayed}
use Rattle.bd_machine.specs.declared.state.Id.TheVariants as ids
use Rattle.bd_machine.specs.declared.state.Kept.TheVariants as keeps
use Rattle.bd_machine.specs.declared.state.OpenRequest.{OpenRequest}
use Rattle.bd_links.specs.Entries.{longer}
use Rattle.bd_tokens.specs.Tokens.{Sets}
use Rattle.bd_thread.specs.declared.links.Links.{Links}
use Rattle.bd_thread.specs.declared.thread.Thread.{Thread}
use Rattle.bd_thread.specs.Acted.{Acted}
use Rattle.bd_thread.specs.Delays.{held_part, hold_due, Holds, IsHeld}
use Rattle.bd_thread.specs.Requests.{KeepsTickets}
use Rattle.bd_thread.specs.Seen.{untaken}
use Rattle.bd_thread.proofs.Delaying.{held_acted, held_tickets, holds_so, not_held}
use Rattle.bd_thread.proofs.Going.{carried}
use Rattle.bd_thread.proofs.thread.Thread.hold.Goals as goal

pub returns-in_default-clause-holds : goal.returns-in_default-clause-holds
returns-in_default-clause-holds c = not_held c.args.self.now c.args.links.now c.args.req (sym c.in_ok-r.ensures ∙ c.in_default.is)

pub returns : goal.returns
returns c =
    let old = c.args.self.now in
    let before = c.args.links.now in
    let req = c.args.req in
    let r = c.in-Some.r in
    let until = c.in-Some.until in
    let due : hold_due old before req ≡ Some (r, until) = sym c.in_ok-r.ensures ∙ c.in-Some.is in
    let new : Thread = record old { part = held_part old r; held = c.hold.new.self; outbox = c.drop_unsent.new.outbox; retries = c.drop_unsent.new.retries; holds = with_hold old.holds req until } in
    let after : Links = record before { entries = longer old.me before.entries (acts.Hold req until) } in
    let left : List (DevId × Delayed) → List HoldKey → Thread = λ delayed holds. record new { part = untaken (record old.part { delayed = delayed }); holds = holds } in
    let thread = c.in_ok-note.ensures.thread ∙ ap₂ left c.in_ok-delayed.ensures c.in_ok-insert.ensures.ok in
    let is : IsHeld req r until old before new after = record {
      thread = refl;
      held = subst (λ (x : OpenRequest). Sets old.held.items c.hold.new.self.items (ids.Request req) (Some (keeps.Request x))) c.in_ok-kept.ensures c.in_ok-hold.ensures.ok;
      outbox = c.drop_unsent.ensures.outbox;
      retries = c.drop_unsent.ensures.retries;
      links = refl;
    } in
    record {
      acted = carried (Acted old before) new after _ _ thread c.in_ok-note.ensures.links (held_acted old before new after req r until due is);
      tickets = carried (λ t l. KeepsTickets old → KeepsTickets t) new after _ _ thread c.in_ok-note.ensures.links (held_tickets old before new after req r until is);
      holds = carried (λ t l. Holds req old before t l true) new after _ _ thread c.in_ok-note.ensures.links (holds_so old before new after req r until due is);
    }
