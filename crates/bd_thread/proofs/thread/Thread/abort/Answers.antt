use Rattle.std.proofs.Common.{◌≡◌, List, Some, true, refl, sym, ◌∙◌, ap, ap₂, subst}
use Rattle.bd_base.specs.declared.act.Act.TheVariants as acts
use Rattle.bd_held.specs.Holds.{without_hold, HoldKey}
use Rattle.bd_machine.specs.declared.state.Id.TheVariants as ids
use Rattle.bd_machine.specs.declared.state.Kept.TheVariants as keeps
use Rattle.bd_machine.specs.declared.state.OpenRequest.{OpenRequest}
use Rattle.bd_machine.specs.declared.state.Part.{Part}
use Rattle.bd_machine.specs.Aborts.{stopped}
use Rattle.bd_machine.specs.View.{View}
use Rattle.bd_steps.specs.Stopping.{abortable, turned_back}
use Rattle.bd_links.specs.Entries.{longer}
use Rattle.bd_tokens.specs.Tokens.{Sets}
use Rattle.bd_thread.specs.declared.links.Links.{Links}
use Rattle.bd_thread.specs.declared.thread.Thread.{Thread}
use Rattle.bd_thread.specs.Aborts.{abort_due, Aborts, IsAborted}
use Rattle.bd_thread.specs.Acted.{Acted}
use Rattle.bd_thread.specs.Requests.{KeepsTickets}
use Rattle.bd_thread.specs.Seen.{untaken}
use Rattle.bd_thread.proofs.Aborting.{aborted_acted, aborted_tickets, aborts_so, stays_open}
use Rattle.bd_thread.proofs.Going.{carried}
use Rattle.bd_thread.proofs.thread.Thread.abort.Goals as goal

pub returns-in_default-clause-aborts : goal.returns-in_default-clause-aborts
returns-in_default-clause-aborts c =
    let old = c.args.self.now in
    let none = sym (c.abortable.ensures ∙ ap (λ (v : View). abortable old.setup.now old.me v c.args.req c.args.cause) c.seen.ensures) ∙ c.in_default.is in
    stays_open old c.args.links.now c.args.req c.args.cause none

pub returns : goal.returns
returns c =
    let old = c.args.self.now in
    let before = c.args.links.now in
    let r = c.in-Some.r in
    let due : abort_due old before c.args.req c.args.cause ≡ Some r =
    sym (c.abortable.ensures ∙ ap (λ (v : View). abortable old.setup.now old.me v c.args.req c.args.cause) c.seen.ensures) ∙ c.in-Some.is in
    let part = untaken (stopped old.setup.now old.part c.args.req (Some r)) in
    let new : Thread = record old { part = part; held = c.hold.new.self; outbox = c.turn_back.new.outbox; retries = c.drop_unsent.new.retries; holds = without_hold old.holds c.args.req r.hold } in
    let after : Links = record before { entries = longer old.me before.entries (acts.Abort c.args.req c.args.cause) } in
    let left : Part → List HoldKey → Thread = λ p holds. record new { part = untaken p; holds = holds } in
    let thread = c.in_ok-note.ensures.thread ∙ ap₂ left c.stop_waiting.ensures c.remove.ensures in
    let is : IsAborted c.args.req c.args.cause r old before new after = record {
      thread = refl;
      held = subst (λ (x : OpenRequest). Sets old.held.items c.hold.new.self.items (ids.Request c.args.req) (Some (keeps.Request x))) c.aborted.ensures c.in_ok-hold.ensures.ok;
      outbox = c.in_ok-turn_back.ensures ∙ ap (turned_back c.args.req r.trip) c.drop_unsent.ensures.outbox;
      retries = c.drop_unsent.ensures.retries;
      links = refl;
    } in
    record {
      acted = carried (Acted old before) new after _ _ thread c.in_ok-note.ensures.links (aborted_acted old before new after c.args.req c.args.cause r due is);
      tickets = carried (λ t l. KeepsTickets old → KeepsTickets t) new after _ _ thread c.in_ok-note.ensures.links (aborted_tickets old before new after c.args.req c.args.cause r is);
      aborts = carried (λ t l. Aborts c.args.req c.args.cause old before t l true) new after _ _ thread c.in_ok-note.ensures.links (aborts_so old before new after c.args.req c.args.cause r due is);
    }
