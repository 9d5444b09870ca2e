use Rattle.std.proofs.Common.{◌≡◌, ℕ, List, Some, true, refl, sym, ◌∙◌, ap, ap₂, subst}
use Rattle.bd_base.specs.declared.act.Act.TheVariants as acts
use Rattle.bd_machine.specs.declared.state.Id.TheVariants as ids
use Rattle.bd_machine.specs.declared.state.Kept.TheVariants as keeps
use Rattle.bd_machine.specs.declared.state.Limited.{Limited}
use Rattle.bd_machine.specs.declared.state.Moments.{Moments}
use Rattle.bd_machine.specs.declared.state.OpenRequest.{OpenRequest}
use Rattle.bd_machine.specs.Limits.{seen}
use Rattle.bd_links.specs.Entries.{longer}
use Rattle.bd_tokens.specs.Tokens.{Sets}
use Rattle.bd_thread.specs.declared.links.Links.{Links}
use Rattle.bd_thread.specs.declared.thread.Thread.{Thread}
use Rattle.bd_thread.specs.Acted.{Acted}
use Rattle.bd_thread.specs.Limits.{let_due, let_part, IsLet, Lets}
use Rattle.bd_thread.specs.Requests.{KeepsTickets}
use Rattle.bd_thread.specs.Seen.{untaken}
use Rattle.bd_thread.proofs.Going.{carried}
use Rattle.bd_thread.proofs.Limiting.{let_acted, let_tickets, lets_so, not_let}
use Rattle.bd_thread.proofs.thread.Thread.let_pass.Goals as goal

pub returns-in_default-clause-lets : goal.returns-in_default-clause-lets
returns-in_default-clause-lets c = not_let c.args.self.now c.args.links.now c.args.dev (sym c.let_due.ensures ∙ c.in_default.is)

pub returns : goal.returns
returns c =
    let old = c.args.self.now in
    let before = c.args.links.now in
    let dev = c.args.dev in
    let req = c.in-Some.req in
    let r = c.in-Some.r in
    let due : let_due old before dev ≡ Some (req, r) = sym c.let_due.ensures ∙ c.in-Some.is in
    let new : Thread = record old { part = let_part old dev req r; held = c.hold.new.self; outbox = c.push_back.new.self } in
    let after : Links = record before { entries = longer old.me before.entries (acts.Let req dev old.time.moment) } in
    let left : List Limited → Moments → Thread = λ limited moments. record new { part = untaken (record old.part { limited = limited; moments = moments }) } in
    let moments = c.seen_at-self.ensures ∙ ap (λ (n : ℕ). seen n old.part.moments) c.moment-now.ensures in
    let thread = c.in_ok-note.ensures.thread ∙ ap₂ left c.in_ok-charge.ensures moments in
    let named : ℕ → Links = λ n. record before { entries = longer old.me before.entries (acts.Let req dev n) } in
    let shared = c.in_ok-note.ensures.links ∙ ap named c.moment-now.ensures in
    let is : IsLet dev req r old before new after = record {
      thread = refl;
      held = subst (λ (x : OpenRequest). Sets old.held.items c.hold.new.self.items (ids.Request req) (Some (keeps.Request x))) c.in_ok-passed.ensures c.in_ok-hold.ensures.ok;
      outbox = c.in_ok-push_back.ensures.items;
      links = refl;
    } in
    record {
      acted = carried (Acted old before) new after _ _ thread shared (let_acted old before new after dev req r due is);
      tickets = carried (λ t l. KeepsTickets old → KeepsTickets t) new after _ _ thread shared (let_tickets old before new after dev req r is);
      lets = carried (λ t l. Lets dev old before t l true) new after _ _ thread shared (lets_so old before new after dev req r due is);
    }
