use Rattle.std.proofs.Common.{◌≡◌, ℕ, List, Some, true, refl, sym, ◌∙◌, ap, ap₂, subst}
use Rattle.bd_base.specs.declared.act.Act.TheVariants as acts
use Rattle.bd_held.specs.Holds.{without_hold, HoldKey}
use Rattle.bd_machine.specs.declared.state.Id.TheVariants as ids
use Rattle.bd_machine.specs.declared.state.Kept.TheVariants as keeps
use Rattle.bd_machine.specs.declared.state.Moments.{Moments}
use Rattle.bd_machine.specs.declared.state.OpenRequest.{OpenRequest}
use Rattle.bd_machine.specs.Limits.{seen}
use Rattle.bd_links.specs.Entries.{longer}
use Rattle.bd_tokens.specs.Tokens.{Sets}
use Rattle.bd_thread.specs.declared.links.Links.{Links}
use Rattle.bd_thread.specs.declared.thread.Thread.{Thread}
use Rattle.bd_thread.specs.Acted.{Acted}
use Rattle.bd_thread.specs.Delays.{release_due, IsReleased, Releases}
use Rattle.bd_thread.specs.Requests.{KeepsTickets}
use Rattle.bd_thread.specs.Seen.{untaken}
use Rattle.bd_thread.proofs.Delaying.{not_released, released_acted, released_tickets, releases_so}
use Rattle.bd_thread.proofs.Going.{carried}
use Rattle.bd_thread.proofs.thread.Thread.release.Goals as goal

pub returns-in_default-clause-releases : goal.returns-in_default-clause-releases
returns-in_default-clause-releases c = not_released c.args.self.now c.args.links.now c.args.req (sym c.in_ok-r.ensures ∙ c.in_default.is)

pub returns : goal.returns
returns c =
    let old = c.args.self.now in
    let before = c.args.links.now in
    let req = c.args.req in
    let r = c.in-Some.r in
    let now = old.time.moment in
    let due : release_due old before req ≡ Some r = sym c.in_ok-r.ensures ∙ c.in-Some.is in
    let new : Thread = record old { part = untaken (record old.part { moments = seen now old.part.moments }); held = c.hold.new.self; holds = without_hold old.holds req r.hold } in
    let after : Links = record before { entries = longer old.me before.entries (acts.Release req now) } in
    let left : Moments → List HoldKey → Thread = λ moments holds. record new { part = untaken (record old.part { moments = moments }); holds = holds } in
    let moments = c.seen_at-self.ensures ∙ ap (λ (n : ℕ). seen n old.part.moments) c.moment-now.ensures in
    let thread = c.in_ok-note.ensures.thread ∙ ap₂ left moments c.remove.ensures in
    let named : ℕ → Links = λ n. record before { entries = longer old.me before.entries (acts.Release req n) } in
    let shared = c.in_ok-note.ensures.links ∙ ap named c.moment-now.ensures in
    let is : IsReleased req r old before new after = record {
      thread = refl;
      held = subst (λ (x : OpenRequest). Sets old.held.items c.hold.new.self.items (ids.Request req) (Some (keeps.Request x))) c.released.ensures c.in_ok-hold.ensures.ok;
      links = refl;
    } in
    record {
      acted = carried (Acted old before) new after _ _ thread shared (released_acted old before new after req r due is);
      tickets = carried (λ t l. KeepsTickets old → KeepsTickets t) new after _ _ thread shared (released_tickets old before new after req r is);
      releases = carried (λ t l. Releases req old before t l true) new after _ _ thread shared (releases_so old before new after req r due is);
    }
