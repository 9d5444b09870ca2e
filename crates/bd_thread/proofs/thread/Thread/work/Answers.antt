use Rattle.std.proofs.Common.{◌≡◌, ◌≤◌, length, ◌∙◌, ap, arith}
use Rattle.bd_thread.specs.declared.thread.Thread.{Thread}
use Rattle.bd_thread.specs.Moves.{turned_of}
use Rattle.bd_thread.specs.Requests.{KeepsTickets}
use Rattle.bd_thread.specs.Work.{calls_with}
use Rattle.bd_thread.proofs.Alone.{acted_alone, alone_then}
use Rattle.bd_thread.proofs.Going.{acted_none, acted_then}
use Rattle.bd_thread.proofs.Idle.{grown}
use Rattle.bd_thread.proofs.Limiting.{then_served}
use Rattle.bd_thread.proofs.Looked.{look_acted, look_began, look_noted}
use Rattle.bd_thread.proofs.Waiting.{acted_looked, acted_noted, noted_both, tickets_looked, tickets_noted}
use Rattle.bd_thread.proofs.Working.{quiet_alone_by, work_idle}
use Rattle.bd_thread.proofs.thread.Thread.work.Goals as goal

pub returns : goal.returns
returns c =
    let o = c.args.self.now in
    let a = c.args.links.now in
    let b = c.take_touched-touched.new.self in
    let began = acted_looked _ _ _ _ b c.take_touched-touched.ensures.rest (acted_none o a) in
    let retried = acted_then _ _ _ _ _ _ c.in_ok-receive_all.ensures.acted c.in_ok-retry_all.ensures.acted in
    let served = acted_then _ _ _ _ _ _ retried c.in_ok-serve_all.ensures.acted in
    let hardened = acted_then _ _ _ _ _ _ served c.in_ok-harden_all.ensures.acted in
    let limited = acted_then _ _ _ _ _ _ hardened c.in_ok-limit_all.ensures.acted in
    let released = acted_then _ _ _ _ _ _ limited c.in_ok-release_all.ensures.acted in
    let walked = acted_then _ _ _ _ _ _ released c.in_ok-walk_all.ensures.acted in
    let submitted = acted_then _ _ _ _ _ _ walked c.in_ok-submit_all.ensures.acted in
    let destructed = acted_then _ _ _ _ _ _ submitted c.in_ok-destruct_all.ensures.acted in
    let sent = acted_then _ _ _ _ _ _ destructed c.in_ok-put_outbox.ensures.acted in
    let posted = acted_then _ _ _ _ _ _ sent c.in_ok-put_all_due.ensures.acted in
    let carried = acted_then _ _ _ _ _ _ posted c.in_ok-found.ensures.acted in
    let done = acted_then _ _ _ _ _ _ began (acted_then _ _ _ _ _ _ carried c.in_ok-refuse_all.ensures.acted) in
    let acted = acted_noted _ _ c.look_at.new.self _ c.note_found.new.self c.in_ok-note_found.ensures.thread (acted_looked _ _ c.refuse_all.new.self _ c.look_at.new.self c.in_ok-look_at.ensures.rest done) in
    let alone-retried = alone_then _ _ _ c.in_ok-receive_all.ensures.alone c.in_ok-retry_all.ensures.alone in
    let alone-served = alone_then _ _ _ alone-retried c.in_ok-serve_all.ensures.alone in
    let alone-hardened = alone_then _ _ _ alone-served c.in_ok-harden_all.ensures.alone in
    let alone-limited = alone_then _ _ _ alone-hardened c.in_ok-limit_all.ensures.alone in
    let alone-released = alone_then _ _ _ alone-limited c.in_ok-release_all.ensures.alone in
    let alone-walked = alone_then _ _ _ alone-released c.in_ok-walk_all.ensures.alone in
    let alone-submitted = alone_then _ _ _ alone-walked c.in_ok-submit_all.ensures.alone in
    let alone-destructed = alone_then _ _ _ alone-submitted c.in_ok-destruct_all.ensures.alone in
    let alone-sent = alone_then _ _ _ alone-destructed c.in_ok-put_outbox.ensures.alone in
    let alone-posted = alone_then _ _ _ alone-sent c.in_ok-put_all_due.ensures.alone in
    let alone-carried = alone_then _ _ _ alone-posted c.in_ok-found.ensures.alone in
    let alone = alone_then _ _ _ alone-carried c.in_ok-refuse_all.ensures.alone in
    let before = c.args.links.now in
    let piece-hardened = acted_then _ _ _ _ _ _ c.in_ok-serve_all.ensures.acted c.in_ok-harden_all.ensures.acted in
    let piece-released = acted_then _ _ _ _ _ _ (acted_then _ _ _ _ _ _ piece-hardened c.in_ok-limit_all.ensures.acted) c.in_ok-release_all.ensures.acted in
    let piece-acted = acted_then _ _ _ _ _ _ piece-released c.in_ok-walk_all.ensures.acted in
    let piece = then_served _ _ _ _ _ _ _ _ _ _ _ _ c.in_ok-serve_all.ensures.acted c.in_ok-harden_all.ensures.acted c.in_ok-limit_all.ensures.acted c.in_ok-release_all.ensures.acted c.in_ok-walk_all.ensures.acted
    c.in_ok-serve_all.ensures.quiet c.in_ok-harden_all.ensures.quiet c.in_ok-limit_all.ensures.quiet c.in_ok-release_all.ensures.quiet c.in_ok-walk_all.ensures.quiet in
    let answer = c.tell-turned.ensures ∙ ap (λ n. turned_of n c.len.result) c.len-before.ensures ∙ ap (λ n. turned_of (length before.entries) n) c.len.ensures in
    record {
      acted = acted;
      tickets = λ keeps.
          let before = c.len-before.result in
          let p = c.put_all_due.new.self in
          let l = c.put_all_due.new.links in
          let m = c.carry_all.new.self in
          let d = c.carry_all.new.links in
          let n = c.refuse_all.new.self in
          let e = c.refuse_all.new.links in
          let first : KeepsTickets b = tickets_looked o b c.take_touched-touched.ensures.rest keeps.tickets in
          let received = c.in_ok-retry_all.ensures.tickets (c.in_ok-receive_all.ensures.tickets first) in
          let went = c.in_ok-destruct_all.ensures.tickets (c.in_ok-submit_all.ensures.tickets (c.in_ok-walk_all.ensures.tickets (c.in_ok-release_all.ensures.tickets (c.in_ok-limit_all.ensures.tickets (c.in_ok-harden_all.ensures.tickets (c.in_ok-serve_all.ensures.tickets received)))))) in
          let put : KeepsTickets p = c.in_ok-put_all_due.ensures.tickets (c.in_ok-put_outbox.ensures.tickets went) in
          let last : KeepsTickets n = c.in_ok-refuse_all.ensures.tickets (c.in_ok-found.ensures.tickets put) in
          let grows : length a.entries ≤ length l.entries = grown b a p l posted in
          let carries : length l.entries ≤ length d.entries = grown p l m d c.in_ok-found.ensures.acted in
          let at : before ≡ length a.entries = c.len-before.ensures in
          let looked = look_acted before c.take_touched-touched.result b a p l posted (omega (arith, at))
          (look_began before o b c.take_touched-touched.result a c.take_touched-touched.ensures.rest c.take_touched-touched.ensures.result at keeps.looks) in
          let scanned = c.in_ok-found.ensures.scanned (omega (arith, at, grows)) put looked in
          let all = look_acted before c.carry_all.new.touched m d n e c.in_ok-refuse_all.ensures.acted (omega (arith, at, grows, carries)) scanned in
          record {
            tickets = tickets_noted c.look_at.new.self c.note_found.new.self c.in_ok-note_found.ensures.thread (tickets_looked n c.look_at.new.self c.in_ok-look_at.ensures.rest last);
            looks = look_noted c.look_at.new.self c.note_found.new.self c.in_ok-note_found.ensures.thread (c.in_ok-look_at.ensures.looks all);
          };
      turned = answer;
      quiet = quiet_alone_by c.in_ok-found.found o b c.take_touched-touched.result before c.refuse_all.new.self c.refuse_all.new.links c.note_found.new.self c.tell-turned.result answer
          c.take_touched-touched.ensures.result c.take_touched-touched.ensures.rest
          (noted_both c.refuse_all.new.self c.look_at.new.self c.note_found.new.self c.in_ok-look_at.ensures.rest c.in_ok-note_found.ensures.thread)
          (λ quiet. c.in_ok-note_found.ensures.noted quiet ∙ ap (λ (t : Thread). calls_with c.in_ok-found.found t.calls.items) c.in_ok-look_at.ensures.rest)
          (work_idle c.in_ok-found.found _ _ _ _ _ _ _ _ _ _ _ _ _ _ _ _ _ _ _ _
          c.in_ok-receive_all.ensures.acted c.in_ok-retry_all.ensures.acted piece-acted c.in_ok-submit_all.ensures.acted c.in_ok-destruct_all.ensures.acted
          c.in_ok-put_outbox.ensures.acted c.in_ok-put_all_due.ensures.acted c.in_ok-found.ensures.acted c.in_ok-refuse_all.ensures.acted
          c.in_ok-receive_all.ensures.quiet c.in_ok-retry_all.ensures.quiet piece c.in_ok-submit_all.ensures.quiet c.in_ok-destruct_all.ensures.quiet
          c.in_ok-put_outbox.ensures.quiet c.in_ok-put_all_due.ensures.quiet
          (λ same. c.in_ok-found.ensures.quiet (c.len-before.ensures ∙ same)) (λ same. c.in_ok-refuse_all.ensures.quiet (c.len-before.ensures ∙ same)));
      alone = acted_alone _ _ _ _ acted alone;
    }
