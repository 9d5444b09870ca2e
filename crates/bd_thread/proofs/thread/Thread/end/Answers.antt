use Rattle.std.proofs.Common.{refl, ◌∙◌, ap}
use Rattle.bd_base.specs.declared.act.Act.TheVariants as acts
use Rattle.bd_machine.specs.Requests.{change_complete}
use Rattle.bd_msg.specs.Purse.{without}
use Rattle.bd_rule_effects.specs.Lone.{lone}
use Rattle.bd_links.specs.Entries.{longer}
use Rattle.bd_steps.specs.Completions.{ended}
use Rattle.bd_steps.specs.Stopping.{channels_left, left_by}
use Rattle.bd_tokens.specs.Tokens.{here_in}
use Rattle.bd_thread.specs.Acted.{Acted}
use Rattle.bd_thread.specs.Completions.{IsCompleted}
use Rattle.bd_thread.specs.Requests.{KeepsTickets}
use Rattle.bd_thread.specs.declared.links.Links.{Links}
use Rattle.bd_thread.specs.declared.thread.Thread.{Thread}
use Rattle.bd_thread.proofs.Completing.{completed_acted}
use Rattle.bd_thread.proofs.Going.{carried}
use Rattle.bd_thread.proofs.Tickets.{completed_tickets}
use Rattle.bd_thread.proofs.thread.Thread.end.Goals as goal

pub returns : goal.returns
returns c =
    let old = c.args.self.now in
    let before = c.args.links.now in
    let req = c.args.req in
    let ending = c.args.ending in
    let noted = c.in_ok-note.ensures.thread in
    let with_rest : Thread → Thread = λ t. record t { part = c.completed.new.part; held = c.drop_request.new.tokens; outbox = c.drop_left.new.outbox; retries = c.drop_left.new.retries; purse = c.spend.new.purse } in
    let new : Thread = with_rest old in
    let after : Links = record before { entries = longer old.me before.entries (acts.Complete req ending.status c.args.shown) } in
    let tickets = c.spend.ensures ∙ ap (λ (t : Thread). without req t.purse.ids) noted in
    let done : IsCompleted req ending old before new after = record {
      part = c.completed.ensures ∙ ap (λ (t : Thread). (change_complete (lone t.part) req).part) noted;
      held = c.drop_request.ensures ∙ ap (λ (t : Thread). ended req ending.pieces (here_in t.held.items)) noted;
      outbox = c.drop_left.ensures.outbox ∙ ap (λ (t : Thread). left_by req ending.status (here_in t.held.items) t.outbox.items) noted;
      retries = c.drop_left.ensures.retries ∙ ap (λ (t : Thread). channels_left t.setup.now req ending.status (here_in t.held.items) t.outbox.items t.retries) noted;
      tickets = tickets;
      thread = refl;
      shown = c.args.shown;
      shows = c.requires.shows;
      links = refl;
    } in
    let acted = completed_acted old before new after req ending c.requires.due done in
    let thread = ap with_rest noted in
    record {
      acted = carried (Acted old before) new after _ _ thread c.in_ok-note.ensures.links acted;
      completed = carried (IsCompleted req ending old before) new after _ _ thread c.in_ok-note.ensures.links done;
      tickets = carried (λ t l. KeepsTickets old → KeepsTickets t) new after _ _ thread c.in_ok-note.ensures.links (λ keeps. completed_tickets old new req done.part tickets keeps);
      err = tt;
    }
