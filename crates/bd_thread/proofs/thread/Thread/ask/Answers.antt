use Rattle.std.proofs.Common.{◌≡◌, ◌++◌, length, refl, sym, ◌∙◌, ap}
use Rattle.bd_base.specs.declared.act.Act.TheVariants as acts
use Rattle.bd_base.specs.declared.event.Answer.{Answer}
use Rattle.bd_base.specs.declared.setup.Setup.{Setup}
use Rattle.bd_machine.specs.declared.state.Part.{Part}
use Rattle.bd_machine.specs.Alone.{held_after}
use Rattle.bd_machine.specs.Registry.{answer_to}
use Rattle.bd_machine.specs.View.{Change}
use Rattle.bd_rule_effects.specs.Begun.{begun, with_walk}
use Rattle.bd_steps.specs.Sending.{sent_off}
use Rattle.bd_registry.specs.State.{Registered, registered}
use Rattle.bd_registry.proofs.Rows.{answer_of_rows, after_of_rows}
use Rattle.bd_links.specs.Entries.{longer, next_stamp}
use Rattle.bd_tokens.specs.Tokens.{here_in}
use Rattle.bd_thread.specs.Acted.{Acted}
use Rattle.bd_thread.specs.Lines.{answered, asked_registry, change_by, event_stamp, IsAnswered}
use Rattle.bd_thread.specs.Requests.{KeepsTickets}
use Rattle.bd_thread.specs.Seen.{untaken, view_of}
use Rattle.bd_thread.specs.declared.links.Links.{Links}
use Rattle.bd_thread.specs.declared.thread.Thread.{Thread}
use Rattle.bd_thread.proofs.Going.{carried}
use Rattle.bd_thread.proofs.Registering.{answered_tickets, asked_acted}
use Rattle.bd_thread.proofs.thread.Thread.ask.Goals as goal

pub returns : goal.returns
returns c =
    let t = c.args.self.now in
    let links = c.args.links.now in
    let event = c.args.event in
    let answer : Answer = c.in_ok-answer.answer in
    let setup : Setup = t.setup.now in
    -- the answer and the change by the thread's own setup
    let given : answer_to setup links.registry.state t.me event ≡ answer =
    sym (answer_of_rows setup links.registry.state t.me event) ∙ ap (λ (s : Setup). answer_to s links.registry.state t.me event) (sym c.requires.rows) ∙ sym c.in_ok-answer.ensures.answer in
    let registry : c.event.new.self ≡ asked_registry t links event answer =
    c.in_ok-answer.ensures.after
    ∙ ap (λ n. registered links.registry t.me n event answer) (c.in-Some.ensures.stamp ∙ ap (next_stamp (length links.entries)) c.last_stamp.ensures)
    ∙ after_of_rows setup links.registry t.me (event_stamp links) event answer c.requires.rows in
    let walk = c.in_ok-walk.walk in
    let changed : with_walk c.answered.new.self.part walk ≡ change_by t links event answer =
    c.in_ok-walk.ensures.change (view_of t links) refl (c.as_slice.ensures ∙ c.in_ok-made.ensures) in
    let began = c.in_ok-begin_walk.ensures in
    let part : untaken c.answered.new.self.part ≡ answered t links event answer = ap (λ (x : Change). untaken x.part) changed in
    let new : Thread = record t { part = answered t links event answer; held = c.begin_walk.new.tokens; outbox = c.begin_walk.new.outbox } in
    let after : Links = record links { registry = asked_registry t links event answer; entries = longer t.me links.entries (acts.Reg event answer) } in
    let walked : Thread → Thread = λ n. record n { held = c.begin_walk.new.tokens; outbox = c.begin_walk.new.outbox } in
    let left : walked c.answered.new.self ≡ record new { part = c.answered.new.self.part } = ap walked c.in_ok-walk.ensures.thread in
    let thread = c.in_ok-note.ensures.thread
    ∙ ap (λ (n : Thread). let m : Thread = record n { part = untaken n.part } in m) left
    ∙ ap (λ (p : Part). let m : Thread = record new { part = p } in m) part in
    let asked : Links = record links { registry = c.event.new.self } in
    let shared = c.in_ok-note.ensures.links
    ∙ ap (λ (a : Answer). let l : Links = record asked { entries = longer c.answered.new.self.me links.entries (acts.Reg event a) } in l) c.in_ok-boxed.ensures
    ∙ ap (λ (n : Thread). let l : Links = record asked { entries = longer n.me links.entries (acts.Reg event answer) } in l) left
    ∙ ap (λ (r : Registered). let l : Links = record after { registry = r } in l) registry in
    let is : IsAnswered event t links new after = record {
      answer = answer;
      given = given;
      walk = walk;
      begins = sym (ap (λ (x : Change). x.moves) changed);
      thread = refl;
      held = began.here ∙ ap (λ (n : Thread). held_after (begun walk) (here_in n.held.items)) c.in_ok-walk.ensures.thread;
      outbox = began.sent ∙ ap (λ (n : Thread). n.outbox.items ++ sent_off walk) c.in_ok-walk.ensures.thread;
      links = refl;
    } in
    record {
      acted = carried (Acted t links) new after _ _ thread shared (asked_acted t links new after event c.requires.built c.requires.asked is);
      tickets = carried (λ n l. KeepsTickets t → KeepsTickets n) new after _ _ thread shared (answered_tickets t links new event answer refl refl);
      answered = carried (IsAnswered event t links) new after _ _ thread shared is;
    }
