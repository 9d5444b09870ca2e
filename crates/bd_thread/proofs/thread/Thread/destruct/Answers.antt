use Rattle.std.proofs.Common.{◌≡◌, Bool, true, List, Some, length, refl, sym, ◌∙◌, ap, subst}
use Rattle.std.specs.List.{find}
use Rattle.bd_base.specs.declared.act.Act.TheVariants as acts
use Rattle.bd_blocks.specs.Digests.{digest_due}
use Rattle.bd_machine.specs.declared.state.Base.{Base}
use Rattle.bd_machine.specs.declared.state.Part.{Part}
use Rattle.bd_machine.specs.BlockMap.{is_malloc}
use Rattle.bd_machine.specs.Homes.{is_base, may_destruct}
use Rattle.bd_machine.specs.View.{View}
use Rattle.bd_rule_view.specs.Came.{came_free}
use Rattle.bd_links.specs.Entries.{longer}
use Rattle.bd_links.specs.Queues.{queues_of}
use Rattle.bd_tokens.specs.Tokens.{here_in}
use Rattle.bd_thread.specs.declared.links.Links.{Links}
use Rattle.bd_thread.specs.declared.thread.Thread.{Thread}
use Rattle.bd_thread.specs.Acted.{Acted}
use Rattle.bd_thread.specs.Destructs.{may_device_go}
use Rattle.bd_thread.specs.Requests.{KeepsTickets}
use Rattle.bd_thread.specs.Seen.{untaken}
use Rattle.bd_thread.proofs.Destructs.{destruct_steps}
use Rattle.bd_thread.proofs.Going.{acted_by, carried}
use Rattle.bd_thread.proofs.Tickets.{same_tickets}
use Rattle.bd_thread.proofs.Timing.{untimed}
use Rattle.bd_thread.proofs.thread.Thread.destruct.Goals as goal

pub returns-clause-acted : goal.returns-clause-acted
returns-clause-acted c =
    let t = c.args.self.now in
    let links = c.args.links.now in
    let setup = t.setup.now in
    let dev = c.args.dev in
    let digest = c.in-Some.digest in
    let act = acts.Destruct dev digest in
    let new : Thread = record t { part = untaken c.destructed.new.part } in
    let after : Links = record links { entries = longer t.me links.entries act } in
    let rule : View → Bool = λ v. may_destruct setup t.me v (came_free true) dev in
    let may : may_device_go t links dev ≡ true = sym (ap rule c.seen.ensures) ∙ sym c.may_destruct.ensures ∙ c.if-not-may_destruct.false in
    let due : digest_due (is_malloc setup dev) (find (is_base dev) t.part.bases) ≡ Some digest =
    ap (λ (bs : List Base). digest_due (is_malloc setup dev) (find (is_base dev) bs)) (sym c.as_slice.ensures) ∙ sym c.digest_due.ensures ∙ c.in-Some.is in
    let stepped = destruct_steps setup t.me t.part c.destructed.new.part (here_in t.held.items) links.registry.state links.shut (length links.entries) (queues_of links.queues.items) dev digest may due c.in_ok-destructed.ensures in
    carried (Acted t links) new after _ _ c.in_ok-note.ensures.thread c.in_ok-note.ensures.links (acted_by t links new after act refl refl refl refl refl stepped refl (untimed act t new refl refl))

pub returns-clause-tickets : goal.returns-clause-tickets
returns-clause-tickets c = λ keeps.
    let t = c.args.self.now in
    let new : Thread = record t { part = untaken c.destructed.new.part } in
    let requests = ap (λ (p : Part). p.requests) c.in_ok-destructed.ensures in
    let next = ap (λ (p : Part). p.next_request) c.in_ok-destructed.ensures in
    subst (λ (n : Thread). KeepsTickets n) (sym c.in_ok-note.ensures.thread) (same_tickets t new refl requests next keeps)
