use Rattle.std.proofs.Common.{ℕ, cond, List, ◌==◌, ◌++◌, ◌∷◌, [], length, None, refl, sym, ◌∙◌, ap, subst}
use Rattle.bd_base.specs.declared.act.Act.TheVariants as acts
use Rattle.bd_base.specs.declared.act.Token.{Token}
use Rattle.bd_machine.specs.declared.state.Id.{Id}
use Rattle.bd_machine.specs.declared.state.Part.{Part}
use Rattle.bd_machine.specs.Messages.{count_at}
use Rattle.bd_machine.specs.Same.{same_id}
use Rattle.bd_turns.specs.declared.queue.Message.{Message}
use Rattle.bd_links.specs.Entries.{longer}
use Rattle.bd_links.specs.Queues.{queues_of}
use Rattle.bd_tokens.specs.Tokens.{here_in}
use Rattle.bd_thread.specs.declared.links.Links.{Links}
use Rattle.bd_thread.specs.declared.thread.Thread.{Thread}
use Rattle.bd_thread.specs.Acted.{Acted}
use Rattle.bd_thread.specs.Requests.{KeepsTickets}
use Rattle.bd_thread.specs.Seen.{untaken}
use Rattle.bd_steps.specs.Sending.{kept_on_way}
use Rattle.bd_thread.proofs.Going.{acted_by, carried}
use Rattle.bd_thread.proofs.Put.{put_steps, may_parts}
use Rattle.bd_thread.proofs.Tickets.{same_tickets}
use Rattle.bd_thread.proofs.Timing.{untimed}
use Rattle.bd_thread.proofs.thread.Thread.put_allowed.Goals as goal

pub returns-clause-acted : goal.returns-clause-acted
returns-clause-acted c =
    let t = c.args.self.now in
    let links = c.args.links.now in
    let to = c.args.to in
    let what = c.args.what in
    let number = c.count_at-number.result in
    let here = here_in t.held.items in
    let queues = queues_of links.queues.items in
    let new : Thread = record t { part = untaken c.put.new.part; held = c.leave.new.tokens } in
    let after : Links = record links { queues = c.push.new.queues; entries = longer t.me links.entries (acts.Put to number what) } in
    let may = may_parts t links to what c.requires in
    carried (Acted t links) new after _ _ c.in_ok-note.ensures.thread c.in_ok-note.ensures.links
    (acted_by t links new after (acts.Put to number what) refl refl c.in_ok-push.ensures.len refl refl
    (put_steps t.setup.now t.me t.part c.put.new.part here (here_in c.leave.new.tokens.items) links.registry.state links.shut (length links.entries) queues (queues_of c.push.new.queues.items) to number what c.in_ok-kept.kept
    (c.count_at-number.ensures ∙ ap (λ (counts : List (ℕ × ℕ)). count_at counts to) c.as_slice.ensures)
    may.1
    (ap (λ (id : Id). kept_on_way what (here id)) (sym c.id_of-id.ensures) ∙ c.in_ok-kept.ensures.kept)
    c.in_ok-put.ensures
    (c.in_ok-kept.ensures.gone ∙ ap (λ (id : Id). λ j. cond (same_id id j) None (here j)) c.id_of-id.ensures)
    (c.in_ok-push.ensures.ok ∙ ap (λ (w : Token). let m : Message = record { sender = t.me; what = w; kept = c.in_ok-kept.kept } in λ r. cond (r == to) (queues r ++ m ∷ []) (queues r)) c.in_ok-told.ensures)) refl (untimed (acts.Put to number what) t new refl refl))

pub returns-clause-tickets : goal.returns-clause-tickets
returns-clause-tickets c = λ keeps.
    let t = c.args.self.now in
    let new : Thread = record t { part = untaken c.put.new.part; held = c.leave.new.tokens } in
    let requests = ap (λ (p : Part). p.requests) c.in_ok-put.ensures in
    let next = ap (λ (p : Part). p.next_request) c.in_ok-put.ensures in
    subst (λ (n : Thread). KeepsTickets n) (sym c.in_ok-note.ensures.thread) (same_tickets t new refl requests next keeps)
