use Rattle.std.proofs.Common.{◌≡◌, true, Some, refl, ap}
use Rattle.bd_base.specs.declared.act.Act.TheVariants as acts
use Rattle.bd_base.specs.declared.event.RegEvent.TheVariants as events
use Rattle.bd_machine.specs.declared.state.Part.{Part}
use Rattle.bd_machine.specs.declared.state.Prior.TheVariants.{Growth}
use Rattle.bd_links.specs.Entries.{longer}
use Rattle.bd_thread.specs.declared.links.Links.{Links}
use Rattle.bd_thread.specs.declared.thread.Thread.{Thread}
use Rattle.bd_thread.specs.Acted.{Acted}
use Rattle.bd_thread.specs.Growing.{IsGrown}
use Rattle.bd_thread.specs.Lines.{may_ask}
use Rattle.bd_thread.specs.Requests.{KeepsTickets}
use Rattle.bd_thread.specs.Seen.{left_by}
use Rattle.bd_thread.proofs.Going.{carried}
use Rattle.bd_thread.proofs.Growing.{end_asked, grown_acted, grown_tickets}
use Rattle.bd_thread.proofs.thread.Thread.grow_content.Goals as goal

pub returns : goal.returns
returns c =
    let t = c.args.self.now in
    let links = c.args.links.now in
    let dev = c.args.dev in
    let blocks = c.args.blocks in
    let part = c.grown.new.part in
    let new : Thread = record t { part = left_by (Some (Growth dev)) part } in
    let after : Links = record links { entries = longer t.me links.entries (acts.Grow dev blocks) } in
    let exact = ap (λ (p : Part). let m : Thread = record t { part = left_by (Some (Growth dev)) p } in m) c.in_ok-grown.ensures in
    let thread = c.in_ok-note_as.ensures.thread in
    let shared = c.in_ok-note_as.ensures.links in
    let is : IsGrown dev blocks t links new after = record { thread = exact; links = refl } in
    record {
      acted = carried (Acted t links) new after _ _ thread shared (grown_acted t links part dev blocks c.requires c.in_ok-grown.ensures);
      tickets = carried (λ n l. KeepsTickets t → KeepsTickets n) new after _ _ thread shared (grown_tickets t links part dev blocks c.in_ok-grown.ensures);
      grown = carried (IsGrown dev blocks t links) new after _ _ thread shared is;
      asks = carried (λ n l. may_ask n l (events.EndResize dev) ≡ true) new after _ _ thread shared
          (carried (λ n l. may_ask n l (events.EndResize dev) ≡ true) _ after new after exact refl (end_asked t links dev blocks c.requires));
    }
