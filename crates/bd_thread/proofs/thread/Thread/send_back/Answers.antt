use Rattle.std.proofs.Common.{List, refl, ◌∙◌, ap}
use Rattle.bd_base.specs.declared.act.Act.TheVariants as acts
use Rattle.bd_machine.specs.declared.state.Base.{Base}
use Rattle.bd_machine.specs.Homes.{is_base, without_last}
use Rattle.bd_machine.specs.Table.{change_first}
use Rattle.bd_links.specs.Entries.{longer}
use Rattle.bd_thread.specs.declared.links.Links.{Links}
use Rattle.bd_thread.specs.declared.thread.Thread.{Thread}
use Rattle.bd_thread.specs.Acted.{Acted}
use Rattle.bd_thread.specs.Refusals.{IsSentBack}
use Rattle.bd_thread.specs.Requests.{KeepsTickets}
use Rattle.bd_thread.specs.Seen.{untaken}
use Rattle.bd_thread.proofs.Going.{carried}
use Rattle.bd_thread.proofs.Refusing.{sent_back_acted, sent_back_tickets}
use Rattle.bd_thread.proofs.thread.Thread.send_back.Goals as goal

pub returns : goal.returns
returns c =
    let old = c.args.self.now in
    let before = c.args.links.now in
    let dev = c.args.dev in
    let req = c.args.req in
    let k = c.args.k in
    let bases = change_first (is_base dev) without_last old.part.bases in
    let new : Thread = record old { part = untaken (record old.part { bases = bases }); held = c.refuse.new.tokens; outbox = c.push_back.new.self } in
    let after : Links = record before { entries = longer old.me before.entries (acts.NoMem req k dev) } in
    let thread = c.in_ok-note.ensures.thread ∙ ap (λ (bs : List Base). let n : Thread = record new { part = untaken (record old.part { bases = bs }) } in n) c.drop_last.ensures in
    let is : IsSentBack req k dev old before new after = record {
      thread = refl;
      held = c.in_ok-refuse.ensures;
      outbox = c.in_ok-push_back.ensures.items;
      links = refl;
    } in
    record {
      acted = carried (Acted old before) new after _ _ thread c.in_ok-note.ensures.links (sent_back_acted old before new after req k dev c.requires is);
      tickets = carried (λ t l. KeepsTickets old → KeepsTickets t) new after _ _ thread c.in_ok-note.ensures.links (sent_back_tickets old before new after req k dev is);
      sent = carried (IsSentBack req k dev old before) new after _ _ thread c.in_ok-note.ensures.links is;
    }
