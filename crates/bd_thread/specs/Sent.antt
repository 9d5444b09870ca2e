-- What a thread takes from its queue and puts into others', and the entries that say so.
use Rattle.std.specs.Prelude.{◌≡◌, ℕ, ◌+◌, ◌==◌, Bool, true, false, not, ◌&&◌, nat_lt, List, [], ◌∷◌, ◌++◌, vec_len, Option, Some, None}
use Rattle.bd_base.specs.declared.act.Act.TheVariants as acts
use Rattle.bd_base.specs.declared.act.Token.{Token}
use Rattle.bd_base.specs.declared.id.WalkId.{WalkId}
use Rattle.bd_machine.specs.declared.state.Id.{Id}
use Rattle.bd_machine.specs.declared.state.OpenWalk.{OpenWalk}
use Rattle.bd_machine.specs.Alone.{held_after}
use Rattle.bd_machine.specs.Messages.{count_at, may_go, taken_by}
use Rattle.bd_machine.specs.Table.{write}
use Rattle.bd_machine.specs.View.{Change}
use Rattle.bd_rule_effects.specs.Begun.{begun, token_moved}
use Rattle.bd_turns.specs.declared.queue.Message.{Message}
use Rattle.bd_turns.specs.Tied.{id_next}
use Rattle.bd_steps.specs.Sending.{first_brought, sent_off}
use Rattle.bd_links.specs.Entries.{longer}
use Rattle.bd_links.specs.Queues.{is_full, queues_of}
use Rattle.bd_thread.specs.declared.links.Links.{Links}
use Rattle.bd_thread.specs.declared.thread.Thread.{Thread}
use Rattle.bd_tokens.specs.Tokens.{here_in}
use Rattle.bd_thread.specs.Seen.{local, untaken}

-- what taking a message changes
abbrev pub take_change : Thread → Message → Change
take_change t m =
    taken_by t.setup.now t.me m.what (record t.part { taken = write ◌==◌ t.part.taken m.sender (count_at t.part.taken m.sender + 1) }) (Some m.kept) (id_next t.me t.part.taken m)

-- one Took of this message: its token is here, or ends, and a walk that begins by it is here and to be put
pub record IsTaken (m : Message) (old : Thread) (before : Links) (new : Thread) (after : Links) : Type 0 where
  pub walk : Option (WalkId × OpenWalk)
  pub begins : (take_change old m).moves ≡ token_moved old.me m.what (Some m.kept) (id_next old.me old.part.taken m) ++ begun walk
  pub thread : new ≡ record old { part = untaken (take_change old m).part; held = new.held; outbox = new.outbox }
  pub held : here_in new.held.items ≡ held_after (take_change old m).moves (here_in old.held.items)
  pub outbox : new.outbox.items ≡ old.outbox.items ++ sent_off walk
  pub links : after ≡ record before { queues = after.queues; entries = longer old.me before.entries (acts.Took m.sender (count_at old.part.taken m.sender) m.what) }

-- one Took of this message, whose token is given; without a message nothing changes
abbrev pub TakesBy : Thread → Links → Thread → Links → Option Id → Option Message → Type 0
TakesBy old before new after id None = (id ≡ None) × (new ≡ old) × (after ≡ before)
TakesBy old before new after id (Some m) = (id ≡ Some (id_next old.me old.part.taken m)) × IsTaken m old before new after

abbrev pub Takes : Thread → Links → Thread → Links → Option Id → Type 0
Takes old before new after id = TakesBy old before new after id (first_brought (queues_of before.queues.items old.me))

-- there is a queue to this thread, and the token may go there
abbrev pub may_put : Thread → Links → ℕ → Token → Bool
may_put t links to what = nat_lt to (vec_len links.queues) && may_go t.setup.now t.me (local t links).view to what

-- there is a queue to the thread, and it isn't full
abbrev pub has_room : Links → ℕ → Bool
has_room links to = nat_lt to (vec_len links.queues) && not (is_full links.queues.items to)

-- the first of these may go where it is to go, and there is room
abbrev pub may_send : Thread → Links → List (ℕ × Token) → Bool
may_send t links [] = false
may_send t links (x ∷ xs) = has_room links x.0 && may_go t.setup.now t.me (local t links).view x.0 x.1

-- one Put of the token, where it may go there; else nothing changes
abbrev pub PutsBy : Thread → Links → Thread → Links → ℕ → Token → Bool → Bool → Type 0
PutsBy old before new after to what put true = (put ≡ true) × (after.entries ≡ longer old.me before.entries (acts.Put to (count_at old.part.put to) what))
PutsBy old before new after to what put false = (put ≡ false) × (new ≡ old) × (after ≡ before)

abbrev pub Puts : Thread → Links → Thread → Links → ℕ → Token → Bool → Type 0
Puts old before new after to what put = PutsBy old before new after to what put (may_put old before to what)

-- only tokens and counts changed: the requests, their tickets and what is still to be put stayed, and so did the registry
pub record KeepsRequests (old : Thread) (before : Links) (new : Thread) (after : Links) : Type 0 where
  pub thread : new ≡ record old { part = new.part; held = new.held }
  pub requests : new.part.requests ≡ old.part.requests
  pub next_request : new.part.next_request ≡ old.part.next_request
  pub links : after ≡ record before { queues = after.queues; entries = after.entries }
