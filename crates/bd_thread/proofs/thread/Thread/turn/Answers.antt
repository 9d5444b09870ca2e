use Rattle.std.proofs.Common.{◌≡◌, ◌≤◌, length, ◌∙◌, ap, arith}
use Rattle.bd_thread.specs.Acted.{Acted}
use Rattle.bd_thread.specs.Moves.{turned_of}
use Rattle.bd_thread.specs.Requests.{KeepsTickets}
use Rattle.bd_thread.proofs.Going.{acted_none, acted_then}
use Rattle.bd_thread.proofs.Idle.{grown}
use Rattle.bd_thread.proofs.Limiting.{then_served}
use Rattle.bd_thread.proofs.Looked.{look_acted, look_began, look_noted}
use Rattle.bd_thread.proofs.Noted.{forgets_all, forgets_only}
use Rattle.bd_thread.proofs.Waiting.{acted_looked, acted_noted, noted_both, quiet_by, tickets_looked, tickets_noted, turn_idle}
use Rattle.bd_thread.proofs.thread.Thread.turn.Goals as goal

pub returns-clause-acted : goal.returns-clause-acted
returns-clause-acted c =
    let began = acted_looked _ _ _ _ c.take_touched-touched.new.self c.take_touched-touched.ensures.rest (acted_none c.args.self.now c.args.links.now) in
    let retried = acted_then _ _ _ _ _ _ (acted_then _ _ _ _ _ _ began c.in_ok-receive_all.ensures.acted) c.in_ok-retry_all.ensures.acted in
    let discharged = acted_then _ _ _ _ _ _ retried c.in_ok-discharge_all.ensures.acted in
    let b = acted_then _ _ _ _ _ _ discharged c.in_ok-serve_all.ensures.acted in
    let hardened = acted_then _ _ _ _ _ _ b c.in_ok-harden_all.ensures.acted in
    let limited = acted_then _ _ _ _ _ _ hardened c.in_ok-limit_all.ensures.acted in
    let released = acted_then _ _ _ _ _ _ limited c.in_ok-release_all.ensures.acted in
    let walked = acted_then _ _ _ _ _ _ released c.in_ok-walk_all.ensures.acted in
    let d = acted_then _ _ _ _ _ _ walked c.in_ok-command_all.ensures.acted in
    let called = acted_then _ _ _ _ _ _ d c.in_ok-call_noted.ensures.acted in
    let ended = acted_then _ _ _ _ _ _ called c.in_ok-end_all.ensures.acted in
    let e = acted_then _ _ _ _ _ _ ended c.in_ok-put_outbox.ensures.acted in
    let f = acted_then _ _ _ _ _ _ e c.in_ok-put_all_due.ensures.acted in
    let carried = acted_then _ _ _ _ _ _ f c.in_ok-found.ensures.acted in
    let asked = acted_then _ _ _ _ _ _ carried c.in_ok-call_found.ensures.acted in
    let done = acted_then _ _ _ _ _ _ asked c.in_ok-refuse_all.ensures.acted in
    acted_noted _ _ c.look_at.new.self _ c.forget_calls.new.self (forgets_only c.tell-turned.result c.look_at.new.self c.forget_calls.new.self c.forget_calls.ensures) (acted_looked _ _ c.refuse_all.new.self _ c.look_at.new.self c.in_ok-look_at.ensures.rest done)

pub returns-clause-tickets : goal.returns-clause-tickets
returns-clause-tickets c = λ keeps.
    let before = c.len-before.result in
    let a = c.args.links.now in
    let b = c.take_touched-touched.new.self in
    let p = c.put_all_due.new.self in
    let l = c.put_all_due.new.links in
    let m = c.carry_all.new.self in
    let d = c.carry_all.new.links in
    let n = c.refuse_all.new.self in
    let e = c.refuse_all.new.links in
    let retried = acted_then _ _ _ _ _ _ c.in_ok-receive_all.ensures.acted c.in_ok-retry_all.ensures.acted in
    let discharged = acted_then _ _ _ _ _ _ retried c.in_ok-discharge_all.ensures.acted in
    let hardened = acted_then _ _ _ _ _ _ (acted_then _ _ _ _ _ _ discharged c.in_ok-serve_all.ensures.acted) c.in_ok-harden_all.ensures.acted in
    let limited = acted_then _ _ _ _ _ _ hardened c.in_ok-limit_all.ensures.acted in
    let walked = acted_then _ _ _ _ _ _ (acted_then _ _ _ _ _ _ limited c.in_ok-release_all.ensures.acted) c.in_ok-walk_all.ensures.acted in
    let called = acted_then _ _ _ _ _ _ (acted_then _ _ _ _ _ _ walked c.in_ok-command_all.ensures.acted) c.in_ok-call_noted.ensures.acted in
    let put = acted_then _ _ _ _ _ _ (acted_then _ _ _ _ _ _ called c.in_ok-end_all.ensures.acted) c.in_ok-put_outbox.ensures.acted in
    let acted : Acted b a p l = acted_then _ _ _ _ _ _ put c.in_ok-put_all_due.ensures.acted in
    let after : Acted m d n e = acted_then _ _ _ _ _ _ c.in_ok-call_found.ensures.acted c.in_ok-refuse_all.ensures.acted in
    let first : KeepsTickets b = tickets_looked c.args.self.now b c.take_touched-touched.ensures.rest keeps.tickets in
    let received = c.in_ok-retry_all.ensures.tickets (c.in_ok-receive_all.ensures.tickets first) in
    let served = c.in_ok-serve_all.ensures.tickets (c.in_ok-discharge_all.ensures.tickets received) in
    let released = c.in_ok-release_all.ensures.tickets (c.in_ok-limit_all.ensures.tickets (c.in_ok-harden_all.ensures.tickets served)) in
    let noted = c.in_ok-call_noted.ensures.tickets (c.in_ok-command_all.ensures.tickets (c.in_ok-walk_all.ensures.tickets released)) in
    let sent : KeepsTickets p = c.in_ok-put_all_due.ensures.tickets (c.in_ok-put_outbox.ensures.tickets (c.in_ok-end_all.ensures.tickets noted)) in
    let done : KeepsTickets n = c.in_ok-refuse_all.ensures.tickets (c.in_ok-call_found.ensures.tickets (c.in_ok-found.ensures.tickets sent)) in
    let grows : length a.entries ≤ length l.entries = grown b a p l acted in
    let carries : length l.entries ≤ length d.entries = grown p l m d c.in_ok-found.ensures.acted in
    let at : before ≡ length a.entries = c.len-before.ensures in
    let looked = look_acted before c.take_touched-touched.result b a p l acted (omega (arith, at))
    (look_began before c.args.self.now b c.take_touched-touched.result a c.take_touched-touched.ensures.rest c.take_touched-touched.ensures.result at keeps.looks) in
    let carried = c.in_ok-found.ensures.scanned (omega (arith, at, grows)) sent looked in
    let all = look_acted before c.carry_all.new.touched m d n e after (omega (arith, at, grows, carries)) carried in
    record {
      tickets = tickets_noted c.look_at.new.self c.forget_calls.new.self (forgets_only c.tell-turned.result c.look_at.new.self c.forget_calls.new.self c.forget_calls.ensures) (tickets_looked n c.look_at.new.self c.in_ok-look_at.ensures.rest done);
      looks = look_noted c.look_at.new.self c.forget_calls.new.self (forgets_only c.tell-turned.result c.look_at.new.self c.forget_calls.new.self c.forget_calls.ensures) (c.in_ok-look_at.ensures.looks all);
    }

pub returns-clause-quiet : goal.returns-clause-quiet
returns-clause-quiet c =
    let before = c.args.links.now in
    let hardened = acted_then _ _ _ _ _ _ c.in_ok-serve_all.ensures.acted c.in_ok-harden_all.ensures.acted in
    let released = acted_then _ _ _ _ _ _ (acted_then _ _ _ _ _ _ hardened c.in_ok-limit_all.ensures.acted) c.in_ok-release_all.ensures.acted in
    let served = acted_then _ _ _ _ _ _ released c.in_ok-walk_all.ensures.acted in
    let piece = then_served _ _ _ _ _ _ _ _ _ _ _ _ c.in_ok-serve_all.ensures.acted c.in_ok-harden_all.ensures.acted c.in_ok-limit_all.ensures.acted c.in_ok-release_all.ensures.acted c.in_ok-walk_all.ensures.acted
    c.in_ok-serve_all.ensures.quiet c.in_ok-harden_all.ensures.quiet c.in_ok-limit_all.ensures.quiet c.in_ok-release_all.ensures.quiet c.in_ok-walk_all.ensures.quiet in
    let answer = c.tell-turned.ensures ∙ ap (λ n. turned_of n c.len.result) c.len-before.ensures ∙ ap (λ n. turned_of (length before.entries) n) c.len.ensures in
    quiet_by c.args.self.now c.take_touched-touched.new.self c.take_touched-touched.result before c.refuse_all.new.self c.refuse_all.new.links c.forget_calls.new.self c.tell-turned.result answer
    c.take_touched-touched.ensures.result c.take_touched-touched.ensures.rest
    (noted_both c.refuse_all.new.self c.look_at.new.self c.forget_calls.new.self c.in_ok-look_at.ensures.rest (forgets_only c.tell-turned.result c.look_at.new.self c.forget_calls.new.self c.forget_calls.ensures))
    (turn_idle c.in_ok-found.found _ _ _ _ _ _ _ _ _ _ _ _ _ _ _ _ _ _ _ _ _ _ _ _ _ _
    c.in_ok-receive_all.ensures.acted c.in_ok-retry_all.ensures.acted c.in_ok-discharge_all.ensures.acted served c.in_ok-command_all.ensures.acted
    c.in_ok-call_noted.ensures.acted
    c.in_ok-end_all.ensures.acted c.in_ok-put_outbox.ensures.acted c.in_ok-put_all_due.ensures.acted c.in_ok-found.ensures.acted c.in_ok-call_found.ensures.acted c.in_ok-refuse_all.ensures.acted
    c.in_ok-receive_all.ensures.quiet c.in_ok-retry_all.ensures.quiet c.in_ok-discharge_all.ensures.quiet piece c.in_ok-command_all.ensures.quiet
    (λ same. c.in_ok-call_noted.ensures.quiet (c.len-before.ensures ∙ same))
    c.in_ok-end_all.ensures.quiet c.in_ok-put_outbox.ensures.quiet c.in_ok-put_all_due.ensures.quiet
    (λ same. c.in_ok-found.ensures.quiet (c.len-before.ensures ∙ same)) (λ same. c.in_ok-call_found.ensures.quiet (c.len-before.ensures ∙ same)) (λ same. c.in_ok-refuse_all.ensures.quiet (c.len-before.ensures ∙ same)))

pub returns-clause-forgets : goal.returns-clause-forgets
returns-clause-forgets c = forgets_all c.tell-turned.result c.look_at.new.self c.forget_calls.new.self c.forget_calls.ensures
