-- Passes by ring: at place t stand all passes of ring t, and thread t's pass of the slot.
use Rattle.std.specs.Prelude.{◌≡◌, ℕ, false, List, [], ◌++◌, length, vec_len, Some, slice_get, slice_index_or}
use Rattle.bd_turns.specs.declared.queue.Post.{Post}
use Rattle.bd_ring.specs.Posts.{sent_by}
use Rattle.bd_ring.specs.Rings.{AreSendersOf, Place, Sender, new_senders}
use Rattle.bd_wires.specs.declared.wires.Passes.{Passes}
use Rattle.bd_wires.specs.declared.wires.Wires.{Wires}

-- the passes of a new ring
pub record IsNewRow (threads : ℕ) (rings : List Place) (t : ℕ) (q : Passes) : Type 0 where
  pub take : (d : Place) → q.take ≡ record { ring = (slice_index_or rings t d).ring; senders = threads; taken = []; missed = 0 }
  pub sends : (d : Place) → q.sends.items ≡ new_senders (slice_index_or rings t d).ring threads

abbrev pub AreNewRows : ℕ → List Place → List Passes → Type 0
AreNewRows threads rings rows = (t : ℕ) (q : Passes) → slice_get rows t ≡ Some q → IsNewRow threads rings t q

-- all passes of ring t, and thread t's pass of the slot, which doesn't have the value
pub record IsRow (threads : ℕ) (w : Wires) (t : ℕ) (q : Passes) : Type 0 where
  pub take : (d : Place) → q.take.ring ≡ (slice_index_or w.rings.items t d).ring
  pub senders : vec_len q.sends ≡ q.take.senders
  pub sends : (d : Place) → AreSendersOf (slice_index_or w.rings.items t d).ring q.sends.items
  pub slot : q.slot.slot ≡ w.slot
  pub thread : q.slot.thread ≡ t
  pub passes : t ≡ 0 → q.slot.passes ≡ threads
  pub free : q.slot.holds ≡ false

abbrev pub AreRows : Wires → List Passes → Type 0
AreRows w rows = (vec_len w.rings ≡ length rows) × ((t : ℕ) (q : Passes) → slice_get rows t ≡ Some q → IsRow (length rows) w t q)

-- of each sender, what was taken is a prefix of what it put
abbrev pub IsDrained : List Post → List Sender → Type 0
IsDrained taken sends = (s : ℕ) (e : Sender) → slice_get sends s ≡ Some e → (left : List Post) × (sent_by s taken ++ left ≡ e.put)

abbrev pub AreDrained : List Passes → Type 0
AreDrained rows = (t : ℕ) (q : Passes) → slice_get rows t ≡ Some q → IsDrained q.take.taken q.sends.items
