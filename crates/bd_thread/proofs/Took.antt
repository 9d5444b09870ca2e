-- **Took.** A thread takes the first message of its queue.
use Rattle.std.proofs.Common.{◌≡◌, ℕ, ◌+◌, Bool, true, false, cond, ◌==◌, List, [], ◌∷◌, ◌++◌, drop, length, vec_len, Option, Some, None, is_some, refl, sym, ◌∙◌, ap, subst, eq-eqb}
use Rattle.std.proofs.lemmas.Bool.{and_from}
use Rattle.bd_base.specs.declared.act.Act.{Act}
use Rattle.bd_base.specs.declared.act.Act.TheVariants as acts
use Rattle.bd_base.specs.declared.act.Token.{Token}
use Rattle.bd_base.specs.declared.act.Token.TheVariants as tokens
use Rattle.bd_base.specs.declared.id.WalkId.{WalkId}
use Rattle.bd_base.specs.declared.setup.Setup.{Setup}
use Rattle.bd_machine.specs.declared.state.Id.{Id}
use Rattle.bd_machine.specs.declared.state.Kept.{Kept}
use Rattle.bd_machine.specs.declared.state.Kept.TheVariants as keeps
use Rattle.bd_machine.specs.declared.state.OpenWalk.{OpenWalk}
use Rattle.bd_machine.specs.declared.state.Part.{Part}
use Rattle.bd_machine.specs.declared.state.Registry.{Registry}
use Rattle.bd_machine.specs.Alone.{held_after, held_by}
use Rattle.bd_machine.specs.Messages.{brings, count_at, taken_by}
use Rattle.bd_machine.specs.Same.{same_id}
use Rattle.bd_machine.specs.Table.{write}
use Rattle.bd_machine.specs.View.{Change, Closed, Here, Move, Taking, id_of}
use Rattle.bd_machine.proofs.Parts.{Core, taken_grows}
use Rattle.bd_rule_effects.specs.Begun.{begun, is_of_kind, stays, taken, token_moved}
use Rattle.bd_rule_effects.proofs.Arriving.{arrives}
use Rattle.bd_links.specs.Entries.{longer}
use Rattle.bd_links.specs.Queues.{queues_of}
use Rattle.bd_tokens.specs.Tokens.{here_in, left_of}
use Rattle.bd_turns.specs.declared.queue.Message.{Message}
use Rattle.bd_turns.specs.Local.{first_of}
use Rattle.bd_turns.specs.Tied.{id_next}
use Rattle.bd_turns.proofs.Going.{first_comes}
use Rattle.bd_thread.specs.declared.links.Links.{Links}
use Rattle.bd_thread.specs.declared.thread.Thread.{Thread}
use Rattle.bd_thread.specs.Acted.{Acted}
use Rattle.bd_thread.specs.Requests.{KeepsTickets}
use Rattle.bd_thread.specs.Seen.{local_at, untaken}
use Rattle.bd_thread.specs.Sent.{take_change, IsTaken, Takes, TakesBy}
use Rattle.bd_steps.specs.Sending.{first_brought}
use Rattle.bd_thread.proofs.Going.{Steps, acted_by, steps, local_eq, still_shut}
use Rattle.bd_thread.proofs.Tickets.{same_tickets}
use Rattle.bd_thread.proofs.Timing.{untimed}

module _ (setup : Setup) (t : ℕ) (p : Part) (here : Id → Option Kept) (registry : Registry) (shut : Bool) (stamp : ℕ) (queues : ℕ → List Message) (m : Message) (number : ℕ) where
  -- what taking the message changes
  abbrev pub taking_by : Option Kept → Change
  taking_by kept = taken_by setup t m.what (record p { taken = write ◌==◌ p.taken m.sender (number + 1) }) kept (id_of m.sender t number m.what)

  pub took_steps : (new : Part) (here' : Id → Option Kept) (queues' : ℕ → List Message) (ms : List Message)
      → number ≡ count_at p.taken m.sender
      → brings m.what (Some m.kept) ≡ true
      → new ≡ (taking_by (Some m.kept)).part
      → here' ≡ held_after (taking_by (Some m.kept)).moves here
      → queues t ≡ m ∷ ms
      → queues' ≡ (λ r. cond (r == t) (drop 1 (queues r)) (queues r))
      → Steps setup t (local_at t p here registry shut stamp queues) (acts.Took m.sender number m.what) (local_at t (untaken new) here' registry shut (stamp + 1) queues')
  took_steps new here' queues' ms next brought part held first rest =
      let taking : Taking = record { source = m.sender; number = number; what = m.what } in
      let comes : first_of t (queues t) taking ≡ Some m.kept = ap (λ q. first_of t q taking) first ∙ first_comes t number m ms in
      let l' = local_at t (untaken new) here' registry shut (stamp + 1) queues' in
      steps setup t (local_at t p here registry shut stamp queues) l' (acts.Took m.sender number m.what) refl refl
      (and_from (number == count_at p.taken m.sender) (brings m.what (first_of t (queues t) taking)) (eq-eqb number (count_at p.taken m.sender) next) (ap (brings m.what) comes ∙ brought), tt)
      (local_eq _ l'
      (ap (λ (k : Option Kept). untaken (taking_by k).part) comes ∙ ap untaken (sym part))
      (ap (λ (k : Option Kept). held_after (taking_by k).moves here) comes ∙ sym held)
      refl refl refl (still_shut shut) refl (sym rest))

-- the first message brings the token that it names
pub brought_first : (queue : List Message) (m : Message) (ms : List Message) → is_some (first_brought queue) ≡ true → queue ≡ m ∷ ms → brings m.what (Some m.kept) ≡ true
brought_first queue m ms h first = go (brings m.what (Some m.kept)) (ap (λ q. is_some (first_brought q)) (sym first) ∙ h)
  where
    go : (b : Bool) → is_some (cond b (Some m) None) ≡ true → b ≡ true
    go true h = refl
    go false h = h

-- ---- the token that the message brought

-- a message that brings its token is of that token's kind
pub brought_kind : (what : Token) (kept : Kept) → brings what (Some kept) ≡ true → is_of_kind what kept ≡ true
brought_kind (tokens.Request req) (keeps.Request r) h = refl
brought_kind (tokens.Request req) (keeps.Piece p) h = cc
brought_kind (tokens.Request req) (keeps.Walk w) h = cc
brought_kind (tokens.Piece req k) (keeps.Request r) h = cc
brought_kind (tokens.Piece req k) (keeps.Piece p) h = refl
brought_kind (tokens.Piece req k) (keeps.Walk w) h = cc
brought_kind (tokens.Walk walk) (keeps.Request r) h = cc
brought_kind (tokens.Walk walk) (keeps.Piece p) h = cc
brought_kind (tokens.Walk walk) (keeps.Walk w) h = refl
brought_kind (tokens.Go req threads) (keeps.Request r) h = cc
brought_kind (tokens.Go req threads) (keeps.Piece p) h = cc
brought_kind (tokens.Go req threads) (keeps.Walk w) h = cc
brought_kind (tokens.Gone handle) (keeps.Request r) h = cc
brought_kind (tokens.Gone handle) (keeps.Piece p) h = cc
brought_kind (tokens.Gone handle) (keeps.Walk w) h = cc
brought_kind (tokens.Channel dev) (keeps.Request r) h = cc
brought_kind (tokens.Channel dev) (keeps.Piece p) h = cc
brought_kind (tokens.Channel dev) (keeps.Walk w) h = cc
brought_kind (tokens.Device dev) (keeps.Request r) h = cc
brought_kind (tokens.Device dev) (keeps.Piece p) h = cc
brought_kind (tokens.Device dev) (keeps.Walk w) h = cc
brought_kind (tokens.Mark name) (keeps.Request r) h = cc
brought_kind (tokens.Mark name) (keeps.Piece p) h = cc
brought_kind (tokens.Mark name) (keeps.Walk w) h = cc
brought_kind (tokens.Grow dev blocks) (keeps.Request r) h = cc
brought_kind (tokens.Grow dev blocks) (keeps.Piece p) h = cc
brought_kind (tokens.Grow dev blocks) (keeps.Walk w) h = cc
brought_kind (tokens.Sized handle blocks) (keeps.Request r) h = cc
brought_kind (tokens.Sized handle blocks) (keeps.Piece p) h = cc
brought_kind (tokens.Sized handle blocks) (keeps.Walk w) h = cc
brought_kind (tokens.Request req) (keeps.Notice told) h = refl
brought_kind (tokens.Piece req k) (keeps.Notice told) h = refl
brought_kind (tokens.Walk walk) (keeps.Notice told) h = refl
brought_kind (tokens.Go req threads) (keeps.Notice told) h = refl
brought_kind (tokens.Gone handle) (keeps.Notice told) h = refl
brought_kind (tokens.Channel dev) (keeps.Notice told) h = refl
brought_kind (tokens.Device dev) (keeps.Notice told) h = refl
brought_kind (tokens.Mark name) (keeps.Notice told) h = refl
brought_kind (tokens.Grow dev blocks) (keeps.Notice told) h = refl
brought_kind (tokens.Sized handle blocks) (keeps.Notice told) h = refl

-- some moves after others
pub held_then : (first second : List Move) (here : Id → Option Kept) → held_after (first ++ second) here ≡ held_after second (held_after first here)
held_then [] second here = refl
held_then (m ∷ ms) second here = held_then ms second (λ id. cond (same_id m.id id) (held_by m.going m.kept) (here id))

going_holds : (b : Bool) (kept : Kept) → held_by (cond b Here Closed) kept ≡ cond b (Some kept) None
going_holds true kept = refl
going_holds false kept = refl

-- what is here once the token landed, and a walk may have begun
pub landed_moves : (t sender number : ℕ) (what : Token) (kept : Kept) (walk : Option (WalkId × OpenWalk)) (moves : List Move) (here : Id → Option Kept)
    → brings what (Some kept) ≡ true
    → moves ≡ token_moved t what (Some kept) (id_of sender t number what) ++ begun walk
    → held_after (begun walk) (λ j. cond (same_id (id_of sender t number what) j) (left_of t what kept) (here j)) ≡ held_after moves here
landed_moves t sender number what kept walk moves here h is =
    let id : Id = id_of sender t number what in
    let left : held_by (cond (stays t what kept) Here Closed) (taken kept) ≡ left_of t what kept = going_holds (stays t what kept) (taken kept) in
    ap (λ (o : Option Kept). held_after (begun walk) (λ j. cond (same_id id j) o (here j))) (sym left)
    ∙ ap (λ (ms : List Move). held_after (begun walk) (held_after ms here)) (sym (arrives sender t number what kept (brought_kind what kept h)))
    ∙ sym (held_then (token_moved t what (Some kept) id) (begun walk) here)
    ∙ ap (λ (ms : List Move). held_after ms here) (sym is)

-- taking a message leaves the open requests and the next id
pub took_open : (setup : Setup) (t : ℕ) (what : Token) (part : Part) (kept : Option Kept) (id : Id)
    → ((taken_by setup t what part kept id).part.requests ≡ part.requests) × ((taken_by setup t what part kept id).part.next_request ≡ part.next_request)
took_open setup t what part kept id =
    let rest = (taken_grows setup t what part kept id).rest in
    (ap (λ (c : Core). c.requests) rest, ap (λ (c : Core). c.next_request) rest)

-- ---- the message that was taken

-- the thread goes on
pub taken_acted : (t : Thread) (before : Links) (new : Thread) (after : Links) (m : Message) (ms : List Message)
    → brings m.what (Some m.kept) ≡ true
    → queues_of before.queues.items t.me ≡ m ∷ ms
    → queues_of after.queues.items ≡ (λ r. cond (r == t.me) (drop 1 (queues_of before.queues.items r)) (queues_of before.queues.items r))
    → vec_len after.queues ≡ vec_len before.queues
    → IsTaken m t before new after
    → Acted t before new after
taken_acted t before new after m ms brought first rest len is =
    let queues = queues_of before.queues.items in
    let number = count_at t.part.taken m.sender in
    let act : Act = acts.Took m.sender number m.what in
    let p : Thread = record t { part = untaken (take_change t m).part; held = new.held; outbox = new.outbox } in
    let q : Links = record before { queues = after.queues; entries = longer t.me before.entries act } in
    subst (λ (n : Thread). Acted t before n after) (sym is.thread)
    (subst (λ (l : Links). Acted t before p l) (sym is.links)
    (acted_by t before p q act refl refl len refl refl
    (took_steps t.setup.now t.me t.part (here_in t.held.items) before.registry.state before.shut (length before.entries) queues m number
    (take_change t m).part (here_in new.held.items) (queues_of after.queues.items) ms refl brought refl is.held first rest) refl (untimed act t p refl refl)))

-- open requests and their tickets stay
pub taken_tickets : (t : Thread) (before : Links) (new : Thread) (after : Links) (m : Message) → IsTaken m t before new after → KeepsTickets t → KeepsTickets new
taken_tickets t before new after m is keeps =
    let counted : Part = record t.part { taken = write ◌==◌ t.part.taken m.sender (count_at t.part.taken m.sender + 1) } in
    let kept = took_open t.setup.now t.me m.what counted (Some m.kept) (id_next t.me t.part.taken m) in
    same_tickets t new (ap (λ (n : Thread). n.purse.ids) is.thread)
    (ap (λ (n : Thread). n.part.requests) is.thread ∙ kept.0)
    (ap (λ (n : Thread). n.part.next_request) is.thread ∙ kept.1) keeps

-- of the first message, which brings its token
pub takes_so : (t : Thread) (before : Links) (new : Thread) (after : Links) (id : Id) (m : Message) (ms : List Message)
    → brings m.what (Some m.kept) ≡ true
    → queues_of before.queues.items t.me ≡ m ∷ ms
    → id ≡ id_next t.me t.part.taken m
    → IsTaken m t before new after
    → Takes t before new after (Some id)
takes_so t before new after id m ms brought first named is =
    let due : first_brought (queues_of before.queues.items t.me) ≡ Some m = ap first_brought first ∙ ap (λ b. cond b (Some m) None) brought in
    subst (TakesBy t before new after (Some id)) (sym due) (ap Some named, is)
