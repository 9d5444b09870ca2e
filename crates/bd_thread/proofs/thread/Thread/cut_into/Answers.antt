use Rattle.std.proofs.Common.{◌∙◌, List, length, refl, ap}
use Rattle.bd_base.specs.declared.act.Act.TheVariants as acts
use Rattle.bd_machine.specs.declared.state.Extent.{Extent}
use Rattle.bd_links.specs.Entries.{longer}
use Rattle.bd_thread.specs.Acted.{Acted}
use Rattle.bd_thread.specs.Cuts.{IsCut}
use Rattle.bd_thread.specs.Requests.{KeepsTickets}
use Rattle.bd_thread.specs.Seen.{untaken}
use Rattle.bd_thread.specs.declared.links.Links.{Links}
use Rattle.bd_thread.specs.declared.thread.Thread.{Thread}
use Rattle.bd_thread.proofs.Cutting.{cut_acted, cut_held}
use Rattle.bd_thread.proofs.Going.{carried}
use Rattle.bd_thread.proofs.Tickets.{same_tickets}
use Rattle.bd_thread.proofs.thread.Thread.cut_into.Goals as goal

pub returns : goal.returns
returns c =
    let old = c.args.self.now in
    let before = c.args.links.now in
    let n = c.in_ok-n.n in
    let new : Thread = record old { part = untaken old.part; held = c.hold_pieces.new.tokens; outbox = c.send_cut.new.outbox; retries = c.send_cut.new.retries } in
    let after : Links = record before { entries = longer old.me before.entries (acts.Cut c.args.req n) } in
    let cut : IsCut c.args.req c.args.r n old before new after = record {
      pieces = c.in_ok-n.ensures ∙ ap (λ (es : List Extent). length es) c.in_ok-found.ensures;
      held = cut_held old.setup.now c.args.req c.args.r n c.as_slice.result.now old.held.items c.hold.new.self.items c.hold_pieces.new.tokens.items
          (c.as_slice.ensures ∙ c.in_ok-found.ensures) c.in_ok-hold.ensures.ok c.in_ok-hold_pieces.ensures;
      outbox = c.in_ok-send_cut.ensures.outbox;
      retries = c.in_ok-send_cut.ensures.retries;
      thread = refl;
      links = refl;
    } in
    let acted = cut_acted old before new after c.args.req c.args.r n c.requires.here c.requires.may cut in
    record {
      acted = carried (Acted old before) new after _ _ c.in_ok-note.ensures.thread c.in_ok-note.ensures.links acted;
      cut = carried (IsCut c.args.req c.args.r n old before) new after _ _ c.in_ok-note.ensures.thread c.in_ok-note.ensures.links cut;
      tickets = carried (λ t l. KeepsTickets old → KeepsTickets t) new after _ _ c.in_ok-note.ensures.thread c.in_ok-note.ensures.links (λ keeps. same_tickets old new refl refl refl keeps);
    }
