use Rattle.std.proofs.Common.{◌≡◌, ℕ, List, ◌++◌, Option, Some, refl, sym, ◌∙◌, ap}
use Rattle.bd_base.specs.declared.act.Act.TheVariants as acts
use Rattle.bd_machine.specs.declared.state.OpenWalk.{OpenWalk}
use Rattle.bd_machine.specs.declared.state.Part.{Part}
use Rattle.bd_machine.specs.declared.state.Prior.{Prior}
use Rattle.bd_machine.specs.Alone.{held_after}
use Rattle.bd_machine.specs.View.{Change, Move, View}
use Rattle.bd_machine.specs.Walks.{marked_by, walked}
use Rattle.bd_rule_effects.specs.Begun.{begun, walk_moved}
use Rattle.bd_rule_walks.specs.Walking.{with_channel}
use Rattle.bd_links.specs.Entries.{longer}
use Rattle.bd_tokens.specs.Tokens.{here_in}
use Rattle.bd_thread.specs.declared.links.Links.{Links}
use Rattle.bd_thread.specs.declared.thread.Thread.{Thread}
use Rattle.bd_thread.specs.Acted.{Acted}
use Rattle.bd_thread.specs.Requests.{KeepsTickets}
use Rattle.bd_thread.specs.Seen.{left_by, view_of}
use Rattle.bd_steps.specs.Sending.{goes_on, sent_off}
use Rattle.bd_thread.specs.Walking.{visit_change, visit_due, visit_prior, IsVisited}
use Rattle.bd_thread.proofs.Going.{carried}
use Rattle.bd_thread.proofs.Took.{held_then}
use Rattle.bd_thread.proofs.Walking.{change_is, marked_as, visit_may, visited_acted, visited_tickets}
use Rattle.bd_thread.proofs.thread.Thread.pass.Goals as goal

pub returns : goal.returns
returns c =
    let t = c.args.self.now in
    let links = c.args.links.now in
    let id = c.args.id in
    let w = c.args.walk in
    let me = t.me in
    let setup = t.setup.now in
    let due : visit_due t links id ≡ Some w = c.requires in
    let may = visit_may t links id w due in
    let after = c.visited-after.result in
    let marks : Part = marked_by setup me (view_of t links) id w.dev w.kind in
    let changed : visit_change t links id w ≡ walked me id after marks =
    change_is t links id w may.here ∙ ap (λ (x : OpenWalk). walked me id x marks) (sym c.visited-after.ensures) in
    let marked : c.mark.new.part ≡ marks = c.in_ok-mark.ensures
    ∙ ap (λ (channel : Option ℕ). marked_by setup me (with_channel t.part channel w.time) id w.dev w.kind) (c.channels-channel.ensures ∙ ap (λ (v : View). v.channels w.dev) c.seen.ensures)
    ∙ marked_as setup me (view_of t links) id w may.here in
    let part : c.walk_on.new.part ≡ (visit_change t links id w).part =
    c.in_ok-next.ensures.part ∙ ap (λ (p : Part). (walked me id after p).part) marked ∙ sym (ap (λ (x : Change). x.part) changed) in
    let moves : walk_moved me id after ++ begun c.in_ok-next.next ≡ (visit_change t links id w).moves =
    sym c.in_ok-next.ensures.moves ∙ ap (λ (p : Part). (walked me id after p).moves) marked ∙ sym (ap (λ (x : Change). x.moves) changed) in
    let began = c.in_ok-begin_walk.ensures in
    let held : here_in c.begin_walk.new.tokens.items ≡ held_after (visit_change t links id w).moves (here_in t.held.items) =
    began.here ∙ ap (held_after (begun c.in_ok-next.next)) c.in_ok-hold_walk.ensures.ok
    ∙ sym (held_then (walk_moved me id after) (begun c.in_ok-next.next) (here_in t.held.items))
    ∙ ap (λ (ms : List Move). held_after ms (here_in t.held.items)) moves in
    let new : Thread = record t { part = left_by (visit_prior t links id w) (visit_change t links id w).part; held = c.begin_walk.new.tokens; outbox = c.send_on.new.outbox } in
    let shared : Links = record links { entries = longer me links.entries (acts.Visit id w.dev w.kind) } in
    let thread = c.in_ok-note_as.ensures.thread ∙ ap (λ (p : Part). let m : Thread = record new { part = left_by c.softening-prior.result p } in m) part
    ∙ ap (λ (o : Option Prior). let m : Thread = record new { part = left_by o (visit_change t links id w).part } in m) c.softening-prior.ensures in
    let entries = c.in_ok-note_as.ensures.links in
    let is : IsVisited id w t links new shared = record {
      next = c.in_ok-next.next;
      begins = sym moves ∙ ap (λ (x : OpenWalk). walk_moved me id x ++ begun c.in_ok-next.next) c.visited-after.ensures;
      thread = refl;
      held = held;
      outbox = c.in_ok-send_on.ensures
          ∙ ap (λ xs. xs ++ goes_on me id after) began.sent
          ∙ ap (λ (x : OpenWalk). (t.outbox.items ++ sent_off c.in_ok-next.next) ++ goes_on me id x) c.visited-after.ensures;
      links = refl;
    } in
    record {
      acted = carried (Acted t links) new shared _ _ thread entries (visited_acted t links new shared id w due is);
      tickets = carried (λ n l. KeepsTickets t → KeepsTickets n) new shared _ _ thread entries (visited_tickets t links new shared id w is);
      visited = carried (IsVisited id w t links) new shared _ _ thread entries is;
    }
