use Rattle.std.proofs.Common.{◌≡◌, true, List, Some, refl, sym, ◌∙◌, ap}
use Rattle.std.specs.List.{find}
use Rattle.bd_base.specs.declared.act.Act.TheVariants as acts
use Rattle.bd_machine.specs.declared.state.Base.{Base}
use Rattle.bd_machine.specs.declared.state.Id.TheVariants as ids
use Rattle.bd_machine.specs.Homes.{applied, is_base, is_first_at}
use Rattle.bd_machine.specs.Kept.{as_piece}
use Rattle.bd_machine.specs.Table.{change_first}
use Rattle.bd_steps.specs.Serving.{may_hold, next_on_disk}
use Rattle.bd_links.specs.Entries.{longer}
use Rattle.bd_tokens.specs.Tokens.{here_in}
use Rattle.bd_thread.specs.declared.links.Links.{Links}
use Rattle.bd_thread.specs.declared.thread.Thread.{Thread}
use Rattle.bd_thread.specs.Disks.{disk_due}
use Rattle.bd_thread.specs.Given.{IsServedAs, ServesAs, ServesOver}
use Rattle.bd_thread.specs.Looking.{KeepsOwn}
use Rattle.bd_thread.specs.Seen.{untaken}
use Rattle.bd_thread.proofs.Going.{carried}
use Rattle.bd_thread.proofs.OnDisk.{held_by, served_as_looks, served_as_tickets, serves_one_as, serves_over}
use Rattle.bd_thread.proofs.thread.Thread.serve_as_given.Goals as goal

pub returns-clause-over : goal.returns-clause-over
returns-clause-over c =
    let t = c.args.self.now in
    let links = c.args.links.now in
    let dev = c.args.dev in
    let end = c.args.given.end in
    let read = c.args.given.read in
    let n = c.in-Some.next in
    let next = c.in-Some.ensures.next in
    let bases = change_first (is_base dev) (applied end n.piece.now) t.part.bases in
    let new : Thread = record t { part = untaken (record t.part { bases = bases }); held = c.hold.new.self; outbox = c.push_back.new.self; touched = c.add.new.self } in
    let after : Links = record links { entries = longer t.me links.entries (acts.Apply n.req n.k dev end) } in
    let thread = c.in_ok-note.ensures.thread ∙ ap (λ (bs : List Base). let m : Thread = record new { part = untaken (record t.part { bases = bs }) } in m) c.in_ok-served.ensures.bases in
    let bases-are : t.part.bases ≡ c.as_slice-bases.result.now = sym c.as_slice-bases.ensures in
    let is : IsServedAs n.req n.k dev end read t links new after = record {
      piece = n.piece.now;
      here = ap as_piece next.is_first.here;
      thread = refl;
      held = held_by n.req n.k dev end read t n.piece.now c.in-Some-served.piece (here_in c.hold.new.self.items) (sym c.in_ok-served.ensures.piece ∙ c.in-Some-served.is) c.in_ok-hold.ensures.ok;
      outbox = c.in_ok-push_back.ensures.items;
      links = refl;
    } in
    let due : disk_due t dev ≡ Some (ids.Piece n.req n.k) = ap (λ (bs : List Base). next_on_disk t.setup.now t.me (here_in t.held.items) dev (find (is_base dev) bs)) bases-are ∙ sym c.in-Some.ensures.due in
    let over = serves_over t links new after n.req n.k dev end read is due next.home next.aio
    (ap (λ (bs : List Base). may_hold t.setup.now dev (find (is_base dev) bs)) bases-are ∙ next.holds)
    (ap (λ (bs : List Base). is_first_at n.req n.k (find (is_base dev) bs)) bases-are ∙ next.is_first.first)
    next.is_first.here next.is_first.on in
    carried (ServesOver dev end read t links) new after _ _ thread c.in_ok-note.ensures.links over

pub returns-clause-tickets : goal.returns-clause-tickets
returns-clause-tickets c =
    let t = c.args.self.now in
    let links = c.args.links.now in
    let dev = c.args.dev in
    let end = c.args.given.end in
    let read = c.args.given.read in
    let n = c.in-Some.next in
    let next = c.in-Some.ensures.next in
    let bases = change_first (is_base dev) (applied end n.piece.now) t.part.bases in
    let new : Thread = record t { part = untaken (record t.part { bases = bases }); held = c.hold.new.self; outbox = c.push_back.new.self; touched = c.add.new.self } in
    let after : Links = record links { entries = longer t.me links.entries (acts.Apply n.req n.k dev end) } in
    let thread = c.in_ok-note.ensures.thread ∙ ap (λ (bs : List Base). let m : Thread = record new { part = untaken (record t.part { bases = bs }) } in m) c.in_ok-served.ensures.bases in
    let is : IsServedAs n.req n.k dev end read t links new after = record {
      piece = n.piece.now;
      here = ap as_piece next.is_first.here;
      thread = refl;
      held = held_by n.req n.k dev end read t n.piece.now c.in-Some-served.piece (here_in c.hold.new.self.items) (sym c.in_ok-served.ensures.piece ∙ c.in-Some-served.is) c.in_ok-hold.ensures.ok;
      outbox = c.in_ok-push_back.ensures.items;
      links = refl;
    } in
    carried (λ m l. KeepsOwn t → KeepsOwn m) new after _ _ thread c.in_ok-note.ensures.links
    (λ keeps. record { tickets = served_as_tickets t links new after n.req n.k dev end read is keeps.tickets; looks = served_as_looks t links new after n.req n.k dev end read is c.add.ensures.holds c.add.ensures.covers c.add.ensures.named keeps.looks })

pub returns-clause-serves : goal.returns-clause-serves
returns-clause-serves c =
    let t = c.args.self.now in
    let links = c.args.links.now in
    let dev = c.args.dev in
    let end = c.args.given.end in
    let read = c.args.given.read in
    let n = c.in-Some.next in
    let next = c.in-Some.ensures.next in
    let bases = change_first (is_base dev) (applied end n.piece.now) t.part.bases in
    let new : Thread = record t { part = untaken (record t.part { bases = bases }); held = c.hold.new.self; outbox = c.push_back.new.self; touched = c.add.new.self } in
    let after : Links = record links { entries = longer t.me links.entries (acts.Apply n.req n.k dev end) } in
    let thread = c.in_ok-note.ensures.thread ∙ ap (λ (bs : List Base). let m : Thread = record new { part = untaken (record t.part { bases = bs }) } in m) c.in_ok-served.ensures.bases in
    let bases-are : t.part.bases ≡ c.as_slice-bases.result.now = sym c.as_slice-bases.ensures in
    let is : IsServedAs n.req n.k dev end read t links new after = record {
      piece = n.piece.now;
      here = ap as_piece next.is_first.here;
      thread = refl;
      held = held_by n.req n.k dev end read t n.piece.now c.in-Some-served.piece (here_in c.hold.new.self.items) (sym c.in_ok-served.ensures.piece ∙ c.in-Some-served.is) c.in_ok-hold.ensures.ok;
      outbox = c.in_ok-push_back.ensures.items;
      links = refl;
    } in
    let due : disk_due t dev ≡ Some (ids.Piece n.req n.k) = ap (λ (bs : List Base). next_on_disk t.setup.now t.me (here_in t.held.items) dev (find (is_base dev) bs)) bases-are ∙ sym c.in-Some.ensures.due in
    carried (λ m l. ServesAs dev end read t links m l true) new after _ _ thread c.in_ok-note.ensures.links (serves_one_as t links new after n.req n.k dev end read due is)
