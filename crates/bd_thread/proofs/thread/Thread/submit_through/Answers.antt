use Rattle.std.proofs.Common.{ℕ, ◌≤◌, sym, ap, subst, le_refl}
use Rattle.bd_base.specs.declared.id.ReqId.{ReqId}
use Rattle.bd_thread.specs.declared.links.Links.{Links}
use Rattle.bd_thread.specs.declared.thread.Thread.{Thread}
use Rattle.bd_steps.specs.Tickets.{IsNextTicket}
use Rattle.bd_thread.specs.Requests.{IsFresh}
use Rattle.bd_thread.proofs.Alone.{accepted_alone, alone_then}
use Rattle.bd_thread.proofs.Begun.{begun_so}
use Rattle.bd_thread.proofs.Going.{acted_then}
use Rattle.bd_thread.proofs.Idle.{more_then}
use Rattle.bd_thread.proofs.thread.Thread.submit_through.Goals as goal

fresh_next : (t : Thread) (id : ReqId) → IsNextTicket t.me t.part.next_request id → IsFresh t id
fresh_next t id next = record { own = next.own; above = subst (λ (n : ℕ). t.part.next_request ≤ n) (sym next.next_is) (le_refl t.part.next_request); names = next.names }

pub submit-requires-clause-fresh : goal.submit-requires-clause-fresh
submit-requires-clause-fresh c = fresh_next c.args.self.now c.in-Some.ticket c.in-Some.ensures

pub returns-in_ok-begin_request-in-Ok : goal.returns-in_ok-begin_request-in-Ok
returns-in_ok-begin_request-in-Ok c =
    let begun = c.in_ok-begin_request-in-Ok.ensures in
    let accepted = c.in-Ok.ensures.accepted.1 in
    record {
      acted = acted_then _ _ _ _ _ _ c.in-Ok.ensures.acted begun.acted;
      tickets = λ keeps. begun.tickets (c.in-Ok.ensures.tickets keeps);
      quiet = λ few. absurd (more_then c.args.self.now.me c.args.links.now c.submit.new.links _ c.submit.new.self c.begin_request.new.self c.begin_request.new.links (ap (λ (l : Links). l.entries) accepted.opens.links) begun.acted few);
      submits = begun_so c.in-Ok.req c.args.handle c.args.asked c.args.self.now c.args.links.now c.submit.new.self c.submit.new.links c.begin_request.new.self c.begin_request.new.links accepted begun.begins;
      alone = alone_then _ _ _ (accepted_alone _ _ _ _ _ _ _ accepted) begun.alone;
    }
