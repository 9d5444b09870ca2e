-- What rings, slot and passes are to each other.
use Rattle.std.specs.Prelude.{◌≡◌, ℕ, ◌<◌, ◌≤◌, false, List, [], ◌++◌, length, vec_len, Option, Some, None, slice_get, slice_index_or}
use Rattle.bd_base.specs.declared.journal.Start.{Start}
use Rattle.bd_turns.specs.declared.queue.Post.{Post}
use Rattle.bd_registry.specs.State.{Registered, start_of}
use Rattle.bd_ring.specs.Posts.{sent_by}
use Rattle.bd_ring.specs.Rings.{AreSendsTo, Place, Sender}
use Rattle.bd_ring.specs.SlotRule.{StartsWith, rows_of}
use Rattle.bd_wires.specs.declared.wires.Passes.{Passes}
use Rattle.bd_wires.specs.declared.wires.Wires.{Wires}

abbrev pub put_by : Option Sender → List Post
put_by None = []
put_by (Some s) = s.put

-- what a thread put into the ring to thread r; nothing to one that isn't there
abbrev pub put_into : Passes → ℕ → List Post
put_into q r = put_by (slice_get q.sends.items r)

-- ---- linked

-- thread t's passes are for these rings and this slot, and the registry is not with it
pub record IsLinked (threads : ℕ) (w : Wires) (t : ℕ) (q : Passes) : Type 0 where
  pub rings : vec_len w.rings ≡ threads
  pub takes : (d : Place) → q.take.ring ≡ (slice_index_or w.rings.items t d).ring
  pub senders : q.take.senders ≡ threads
  pub sends : vec_len q.sends ≡ threads
  pub sends_to : AreSendsTo w.rings.items q.sends.items
  pub numbers : (k : ℕ) (d : Sender) → k < threads → (slice_index_or q.sends.items k d).number ≡ t
  pub slot : q.slot.slot ≡ w.slot
  pub thread : q.slot.thread ≡ t
  pub passes : t ≡ 0 → q.slot.passes ≡ threads
  pub free : q.slot.holds ≡ false

abbrev pub AreLinked : ℕ → Wires → List Passes → Type 0
AreLinked threads w passes = (vec_len w.rings ≡ threads) × ((t : ℕ) (q : Passes) → slice_get passes t ≡ Some q → IsLinked threads w t q)

-- ---- new

-- nothing was taken, put, borrowed or written
pub record IsUnused (start : Start) (q : Passes) : Type 0 where
  pub taken : q.take.taken ≡ []
  pub put : (r : ℕ) → put_into q r ≡ []
  pub seen : q.slot.seen ≡ []
  pub wrote : q.slot.wrote ≡ []
  pub start_is : q.slot.start ≡ start

pub record AreNew (threads : ℕ) (start : Start) (w : Wires) (passes : List Passes) : Type 0 where
  pub len : length passes ≡ threads
  pub linked : AreLinked threads w passes
  pub unused : (t : ℕ) (q : Passes) → slice_get passes t ≡ Some q → IsUnused start q

-- ---- at the end

-- of each sender, what a thread took is a prefix of what the sender put into its ring
abbrev pub AreDelivered : List Passes → Type 0
AreDelivered passes = (s t : ℕ) (p q : Passes) → slice_get passes s ≡ Some p → slice_get passes t ≡ Some q → (left : List Post) × (sent_by s q.take.taken ++ left ≡ put_into p t)

-- the registry's journal has of each thread what its pass wrote, nothing of others, and begins with what each pass saw; it began as the slot did
pub record HasJournalOf (passes : List Passes) (r : Registered) : Type 0 where
  pub start : (q : Passes) → slice_get passes 0 ≡ Some q → start_of r.setup ≡ q.slot.start
  pub rows : (t : ℕ) (q : Passes) → slice_get passes t ≡ Some q → rows_of t r.journal ≡ q.slot.wrote
  pub others : (t : ℕ) → length passes ≤ t → rows_of t r.journal ≡ []
  pub seen : (t : ℕ) (q : Passes) → slice_get passes t ≡ Some q → StartsWith r.journal q.slot.seen
