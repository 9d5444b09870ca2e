use Rattle.std.proofs.Common.{◌≡◌, ℕ, ◌+◌, ◌==◌, true, cond, List, ◌++◌, Some, refl, sym, ◌∙◌, ap, rules, subst}
use Rattle.bd_base.specs.declared.act.Act.TheVariants as acts
use Rattle.bd_machine.specs.declared.state.Id.{Id}
use Rattle.bd_machine.specs.declared.state.Kept.{Kept}
use Rattle.bd_machine.specs.declared.state.Part.{Part}
use Rattle.bd_machine.specs.Alone.{held_after}
use Rattle.bd_machine.specs.Messages.{brings, count_at, taken_by}
use Rattle.bd_machine.specs.Same.{same_id}
use Rattle.bd_machine.specs.Table.{write}
use Rattle.bd_machine.specs.View.{Change, id_of}
use Rattle.bd_links.specs.Entries.{longer}
use Rattle.bd_links.specs.Queues.{queues_of}
use Rattle.bd_rule_effects.specs.Begun.{begun, token_moved}
use Rattle.bd_tokens.specs.Tokens.{here_in, left_of}
use Rattle.bd_thread.specs.declared.links.Links.{Links}
use Rattle.bd_thread.specs.declared.thread.Thread.{Thread}
use Rattle.bd_thread.specs.Acted.{Acted}
use Rattle.bd_thread.specs.Requests.{KeepsTickets}
use Rattle.bd_thread.specs.Seen.{untaken}
use Rattle.bd_thread.specs.Sent.{take_change, IsTaken, Takes}
use Rattle.bd_thread.proofs.Going.{carried}
use Rattle.bd_thread.proofs.Took.{brought_first, landed_moves, taken_acted, taken_tickets, takes_so}
use Rattle.bd_thread.proofs.thread.Thread.take.Goals as goal

pub returns : goal.returns
returns c =
    let t = c.args.self.now in
    let links = c.args.links.now in
    let me = t.me in
    let setup = t.setup.now in
    let m = c.in-Some.message in
    let number = c.count_at-number.result in
    let rest = queues_of c.pop.new.queues.items in
    let here = here_in t.held.items in
    let walk = c.in_ok-begun.begun in
    let first = c.in-Some.ensures.some.first in
    let brought : brings m.what (Some m.kept) ≡ true = brought_first (queues_of links.queues.items me) m (rest me) (search rules) first in
    let next : number ≡ count_at t.part.taken m.sender = c.count_at-number.ensures ∙ ap (λ (counts : List (ℕ × ℕ)). count_at counts m.sender) c.as_slice-2.ensures in
    let id : ℕ → Id = λ n. id_of m.sender me n m.what in
    let counted : ℕ → Part = λ n. record t.part { taken = write ◌==◌ t.part.taken m.sender (n + 1) } in
    let change : ℕ → Change = λ n. taken_by setup me m.what (counted n) (Some m.kept) (id n) in
    let part : c.arrived.new.part ≡ (take_change t m).part =
    c.in_ok-begun.ensures.part (id number)
    ∙ ap (λ (k : Kept). (taken_by setup me m.what c.took.new.part (Some k) (id number)).part) c.get.ensures
    ∙ ap (λ (p : Part). (taken_by setup me m.what p (Some m.kept) (id number)).part) c.in_ok-took.ensures
    ∙ ap (λ (n : ℕ). (change n).part) next in
    let moves : (change number).moves ≡ token_moved me m.what (Some m.kept) (id number) ++ begun walk =
    ap (λ (p : Part). (taken_by setup me m.what p (Some m.kept) (id number)).moves) (sym c.in_ok-took.ensures)
    ∙ subst (λ (k : Kept). (taken_by setup me m.what c.took.new.part (Some k) (id number)).moves ≡ token_moved me m.what (Some k) (id number) ++ begun walk) c.get.ensures (c.in_ok-begun.ensures.moves (id number)) in
    let began = c.in_ok-begin_walk.ensures in
    let held : here_in c.begin_walk.new.tokens.items ≡ held_after (take_change t m).moves here =
    began.here
    ∙ ap (held_after (begun walk)) c.in_ok-land.ensures.ok
    ∙ ap (λ (i : Id). held_after (begun walk) (λ j. cond (same_id i j) (left_of me m.what m.kept) (here j))) c.id_of-id.ensures
    ∙ landed_moves me m.sender number m.what m.kept walk (change number).moves here brought moves
    ∙ ap (λ (n : ℕ). held_after (change n).moves here) next in
    let new : Thread = record t { part = untaken (take_change t m).part; held = c.begin_walk.new.tokens; outbox = c.begin_walk.new.outbox } in
    let after : Links = record links { queues = c.pop.new.queues; entries = longer me links.entries (acts.Took m.sender (count_at t.part.taken m.sender) m.what) } in
    let thread = c.in_ok-note.ensures.thread ∙ ap (λ (p : Part). let x : Thread = record new { part = untaken p } in x) part in
    let shared = c.in_ok-note.ensures.links ∙ ap (λ (n : ℕ). let l : Links = record after { entries = longer me links.entries (acts.Took m.sender n m.what) } in l) next in
    let is : IsTaken m t links new after = record {
      walk = walk;
      begins = subst (λ (n : ℕ). (change n).moves ≡ token_moved me m.what (Some m.kept) (id n) ++ begun walk) next moves;
      thread = refl;
      held = held;
      outbox = began.sent;
      links = refl;
    } in
    record {
      acted = carried (Acted t links) new after _ _ thread shared (taken_acted t links new after m (rest me) brought first c.in-Some.ensures.some.rest c.in-Some.ensures.len is);
      tickets = carried (λ n l. KeepsTickets t → KeepsTickets n) new after _ _ thread shared (taken_tickets t links new after m is);
      takes = carried (λ n l. Takes t links n l (Some c.id_of-id.result)) new after _ _ thread shared
          (takes_so t links new after c.id_of-id.result m (rest me) brought first (c.id_of-id.ensures ∙ ap id next) is);
    }
