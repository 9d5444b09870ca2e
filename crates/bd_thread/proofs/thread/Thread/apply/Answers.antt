use Rattle.std.proofs.Common.{◌≡◌, ℕ, true, not, List, length, refl, sym, ◌∙◌, ap, subst}
use Rattle.std.specs.List.{find}
use Rattle.bd_base.specs.declared.act.Act.TheVariants as acts
use Rattle.bd_base.specs.declared.act.ApplyEnd.TheVariants as ends
use Rattle.bd_home.specs.Serving.{can_serve}
use Rattle.bd_machine.specs.declared.state.Base.{Base}
use Rattle.bd_machine.specs.BlockMap.{home, is_aio}
use Rattle.bd_machine.specs.Homes.{is_base, is_first_at}
use Rattle.bd_links.specs.Entries.{longer}
use Rattle.bd_links.specs.Queues.{queues_of}
use Rattle.bd_tokens.specs.Tokens.{here_in}
use Rattle.bd_thread.specs.declared.links.Links.{Links}
use Rattle.bd_thread.specs.declared.thread.Thread.{Thread}
use Rattle.bd_thread.specs.Acted.{Acted}
use Rattle.bd_thread.specs.Requests.{KeepsTickets}
use Rattle.bd_thread.specs.Seen.{untaken}
use Rattle.bd_steps.specs.Serving.{may_hold}
use Rattle.bd_thread.proofs.Applies.{apply_steps, at_home, serves_own}
use Rattle.bd_thread.proofs.Going.{acted_by, carried}
use Rattle.bd_thread.proofs.Tickets.{same_tickets}
use Rattle.bd_thread.proofs.Timing.{untimed}
use Rattle.bd_thread.proofs.thread.Thread.apply.Goals as goal

pub returns-clause-acted : goal.returns-clause-acted
returns-clause-acted c =
    let t = c.args.self.now in
    let links = c.args.links.now in
    let dev = c.args.dev in
    let n = c.in-Some.next in
    let act = acts.Apply n.req n.k dev ends.Done in
    let size = c.size_of-size.result in
    let next = c.in-Some.ensures.next in
    let own : not (is_aio t.setup.now dev) ≡ true = ap not (sym c.is_aio.ensures ∙ c.if-is_aio.false) in
    let here = here_in t.held.items in
    let new : Thread = record t { part = untaken (record t.part { bases = c.serve.new.bases }); held = c.hold.new.self } in
    let after : Links = record links { entries = longer t.me links.entries act } in
    let bases-are : t.part.bases ≡ c.as_slice-bases.result.now = sym c.as_slice-bases.ensures in
    let home-is : home t.setup.now dev ≡ t.me = at_home t.setup.now t.me dev next.home in
    let holds = ap (λ (bs : List Base). may_hold t.setup.now dev (find (is_base dev) bs)) bases-are ∙ next.holds in
    let first = ap (λ (bs : List Base). is_first_at n.req n.k (find (is_base dev) bs)) bases-are ∙ next.ready.first in
    let ready = ap (λ (bs : List Base). can_serve size dev (find (is_base dev) bs) n.piece.now) bases-are
    ∙ ap (λ (bytes : ℕ). can_serve bytes dev (find (is_base dev) c.as_slice-bases.result.now) n.piece.now) c.size_of-size.ensures
    ∙ next.ready.serves in
    let stepped = apply_steps t.setup.now t.me t.part here links.registry.state links.shut (length links.entries) (queues_of links.queues.items) n.req n.k dev ends.Done n.piece.now size c.in_ok-piece.piece c.serve.new.bases (here_in c.hold.new.self.items)
    home-is c.size_of-size.ensures first next.ready.here (serves_own size dev (find (is_base dev) t.part.bases) n.piece.now ready) holds refl c.in_ok-piece.ensures.bases c.in_ok-piece.ensures.piece c.in_ok-hold.ensures.ok in
    carried (Acted t links) new after _ _ c.in_ok-note.ensures.thread c.in_ok-note.ensures.links (acted_by t links new after act refl refl refl refl refl stepped own (untimed act t new refl refl))

pub returns-clause-tickets : goal.returns-clause-tickets
returns-clause-tickets c = λ keeps.
    let t = c.args.self.now in
    let new : Thread = record t { part = untaken (record t.part { bases = c.serve.new.bases }); held = c.hold.new.self } in
    subst (λ (n : Thread). KeepsTickets n) (sym c.in_ok-note.ensures.thread) (same_tickets t new refl refl refl keeps)
