-- How a state of the machine belongs to what the threads see and share between two turns.
use Rattle.std.specs.Prelude.{◌≡◌, ℕ, ◌+◌, ◌<◌, ◌≤◌, Bool, false, cond, ◌==◌, ◌⊎◌, List, [], ◌∷◌, length, Option, Some, None, is_some}
use Rattle.bd_base.specs.declared.id.ReqId.{ReqId}
use Rattle.bd_base.specs.declared.id.WalkId.{WalkId}
use Rattle.bd_base.specs.declared.setup.Setup.{Setup}
use Rattle.bd_machine.specs.declared.state.Id.{Id}
use Rattle.bd_machine.specs.declared.state.Id.TheVariants.{Request, Piece, Walk, Notice}
use Rattle.bd_machine.specs.declared.state.Kept.{Kept}
use Rattle.bd_machine.specs.declared.state.Kept.TheVariants as keeps
use Rattle.bd_machine.specs.declared.state.Place.{Place}
use Rattle.bd_machine.specs.declared.state.Place.TheVariants.{At, Ring, Nowhere}
use Rattle.bd_machine.specs.declared.state.State.{State}
use Rattle.bd_machine.specs.declared.state.Tracked.{Tracked}
use Rattle.bd_machine.specs.Messages.{count_at}
use Rattle.bd_machine.specs.Placement.{place}
use Rattle.bd_machine.specs.Same.{same_id}
use Rattle.bd_machine.specs.Table.{look_up, write}
use Rattle.bd_machine.specs.View.{View, view, part_of, message_of, id_of}
use Rattle.bd_turns.specs.declared.queue.Message.{Message}
use Rattle.bd_turns.specs.Local.{Shared}
use Rattle.bd_turns.specs.Told.{IsTold}

-- ---- messages and tokens

-- the token of the first message of r's queue, by how many were taken from each sender
abbrev pub id_next : ℕ → List (ℕ × ℕ) → Message → Id
id_next r taken m = id_of m.sender r (count_at taken m.sender) m.what

-- one more was taken from this sender
abbrev pub one_more : List (ℕ × ℕ) → ℕ → List (ℕ × ℕ)
one_more taken sender = write ◌==◌ taken sender (count_at taken sender + 1)

-- the messages of r's queue are in the ring to r, each sender's in order, from the number on that r takes next
abbrev pub Stand : List (Id × Tracked) → ℕ → List (ℕ × ℕ) → List Message → Type 0
Stand tokens r taken [] = Unit {0}
Stand tokens r taken (m ∷ ms) = (message_of m.sender r (count_at taken m.sender) (look_up same_id tokens (id_next r taken m)) ≡ Some m.kept) × Stand tokens r (one_more taken m.sender) ms

-- a message of r's queue brings the token
abbrev pub IsQueued : Id → ℕ → List (ℕ × ℕ) → List Message → Type 0
IsQueued id r taken [] = ⊥
IsQueued id r taken (m ∷ ms) = (id_next r taken m ≡ id) ⊎ IsQueued id r (one_more taken m.sender) ms

-- a token that isn't closed is on a thread that exists, or its message is in a queue
abbrev pub IsPlaced : Setup → State → (ℕ → List Message) → Id → Place → Type 0
IsPlaced setup s queues id (At t) = t < setup.threads
IsPlaced setup s queues id (Ring sender r number) = IsQueued id r (part_of s r).taken (queues r)
IsPlaced setup s queues id Nowhere = Unit {0}

-- how many messages of the queue are from this sender
abbrev pub count_from : ℕ → List Message → ℕ
count_from sender [] = 0
count_from sender (m ∷ ms) = cond (m.sender == sender) 1 0 + count_from sender ms

-- ---- ids

-- no id stands twice in the list of tokens
abbrev pub IsKeyed : List (Id × Tracked) → Type 0
IsKeyed [] = Unit {0}
IsKeyed (x ∷ xs) = (look_up same_id xs x.0 ≡ None) × IsKeyed xs

abbrev pub is_cut_kept : Kept → Bool
is_cut_kept (keeps.Request r) = is_some r.pieces
is_cut_kept _ = false

-- a request that was cut
abbrev pub is_cut : Option Tracked → Bool
is_cut None = false
is_cut (Some token) = is_cut_kept token.kept

-- ids that a thread has still to give name no token
pub record AreFresh (s : State) : Type 0 where
  pub requests : (r : ReqId) → (part_of s r.thread).next_request ≤ r.seq → look_up same_id s.tokens (Request r) ≡ None
  pub walks : (w : WalkId) → (part_of s w.thread).next_walk ≤ w.seq → look_up same_id s.tokens (Walk w) ≡ None
  pub notices : (sender receiver number : ℕ) → count_at (part_of s sender).put receiver ≤ number → look_up same_id s.tokens (Notice sender receiver number) ≡ None
  pub pieces : (r : ReqId) (k : ℕ) → is_cut (look_up same_id s.tokens (Request r)) ≡ false → look_up same_id s.tokens (Piece r k) ≡ None

-- ---- the tie

-- each thread sees what the state shows it, what is shared is the state's, and the queues are its rings
pub record IsTied (setup : Setup) (s : State) (views : ℕ → View) (shared : Shared) : Type 0 where
  pub stamp_is : s.stamp ≡ shared.stamp
  pub shut_is : s.shut ≡ shared.shut
  pub registry_is : s.registry ≡ shared.registry
  pub threads_are : length s.parts ≡ setup.threads
  pub views_are : (t : ℕ) → t < setup.threads → view s t ≡ views t
  -- each message is its token in the ring
  pub stand : (r : ℕ) → Stand s.tokens r (part_of s r).taken (shared.queues r)
  -- what was put and not taken is in the queue
  pub counts : (r sender : ℕ) → count_at (part_of s sender).put r ≡ count_at (part_of s r).taken sender + count_from sender (shared.queues r)
  pub placed : (id : Id) → IsPlaced setup s shared.queues id (place s id)
  pub keyed : IsKeyed s.tokens
  pub fresh : AreFresh s
  -- a device that its home is told to destruct is free
  pub told : IsTold setup s
