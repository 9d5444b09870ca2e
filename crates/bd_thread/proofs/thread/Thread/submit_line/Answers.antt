use Rattle.std.proofs.Common.{◌≡◌, ℕ, true, nat_lt, length, Some, sym, ◌∙◌, ap, subst}
use Rattle.std.specs.Option.{option_copied}
use Rattle.bd_base.specs.declared.id.HandleId.{HandleId}
use Rattle.bd_machine.specs.Asked.{most_requests, op_asked}
use Rattle.std.specs.Prelude.{Option}
use Rattle.bd_thread.specs.declared.thread.Thread.{Thread}
use Rattle.bd_thread.proofs.Begun.{answers_through, due_so}
use Rattle.bd_thread.proofs.Tickets.{same_tickets}
use Rattle.bd_thread.proofs.thread.Thread.submit_line.Goals as goal

pub returns-in-Some-clause-submits : goal.returns-in-Some-clause-submits
returns-in-Some-clause-submits c =
    let t = c.args.self.now in
    let links = c.args.links.now in
    let line = c.in-Some-Submit in
    let job = sym c.undecided_job.ensures ∙ ap option_copied line.is ∙ ap Some line.field-0-is in
    let room : nat_lt (length t.part.requests) most_requests ≡ true = subst (λ (n : ℕ). nat_lt n most_requests ≡ true) c.len.ensures (sym c.has_room.ensures ∙ c.if-not-has_room.false) in
    let op-is : c.op_asked.result ≡ op_asked t.part (Some c.in-Some.id) line.op = c.op_asked.ensures ∙ ap (λ (h : Option HandleId). op_asked t.part h line.op) c.in-Some.is in
    let due = due_so t links line.handle line.op c.op_asked.result line.lba line.count (Some c.in-Some.id) c.if-links.false room job (sym c.bound_to-bound.ensures ∙ c.in-Some.is) op-is in
    answers_through c.in-Some.id (record { op = c.op_asked.result; lba = line.lba; count = line.count }) t links c.submit_through.new.self c.submit_through.new.links c.submit_through.result room due c.submit_through.ensures.submits

pub returns-in_ok-refuse-in-None-clause-tickets : goal.returns-in_ok-refuse-in-None-clause-tickets
returns-in_ok-refuse-in-None-clause-tickets c =
    let old = c.args.self.now in
    let thread = c.in_ok-refuse-in-None.ensures.ok.thread in
    same_tickets old c.refuse.new.self (ap (λ (t : Thread). t.purse.ids) thread) (ap (λ (t : Thread). t.part.requests) thread) (ap (λ (t : Thread). t.part.next_request) thread)
