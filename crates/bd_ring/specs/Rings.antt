-- What contracts see of a ring and of its passes.
use Rattle.std.specs.Prelude.{◌≡◌, ℕ, ◌+◌, ◌%◌, ◌^◌, ◌<◌, ◌≤◌, List, [], ◌∷◌, ◌++◌, length, drop, Some, slice_get, slice_index_or}
use Prim.Native.Nat.{zero, suc}
use Rattle.atomic_table.specs.Seated.{TableId}
use Rattle.bd_turns.specs.declared.queue.Post.{Post}
use Rattle.bd_ring.specs.Posts.{sent_by}

-- a ring: which one it is, and how many messages it has room for
pub record Place : Type 0 where
  pub ring : TableId
  pub capacity : ℕ

-- a sender's pass: its ring, how many senders that is for, its number, what it put, and the count of its puts that found the ring full
pub record Sender : Type 0 where
  pub ring : TableId
  pub senders : ℕ
  pub number : ℕ
  pub put : List Post
  pub refused : ℕ

-- the receiver's pass: its ring, how many senders there are, what was taken, and the count of its takes that found the ring empty
pub record Receiver : Type 0 where
  pub ring : TableId
  pub senders : ℕ
  pub taken : List Post
  pub missed : ℕ

-- such a count, one further: after 2 ^ 64 - 1 it begins again
abbrev pub one_further : ℕ → ℕ
one_further n = (n + 1) % 2 ^ 64

abbrev pub after_put : Sender → Post → Sender
after_put s m = record s { put = s.put ++ m ∷ [] }

abbrev pub after_refusal : Sender → Sender
after_refusal s = record s { refused = one_further s.refused }

abbrev pub after_take : Receiver → Post → Receiver
after_take r m = record r { taken = r.taken ++ m ∷ [] }

abbrev pub after_miss : Receiver → Receiver
after_miss r = record r { missed = one_further r.missed }

-- some full content of the ring, of messages of its senders alone, of which this one's are the last that it put
abbrev pub WasFull : Place → Sender → Type 0
WasFull place s =
    (items : List Post) × (length items ≡ place.capacity) × ((before : List Post) × (s.put ≡ before ++ sent_by s.number items))
    × ((k : ℕ) → s.senders ≤ k → sent_by k items ≡ [])

-- some empty content of the ring; what was taken up to then came from its senders alone
abbrev pub WasEmpty : Receiver → Type 0
WasEmpty r = (items : List Post) × (length items ≡ 0) × ((k : ℕ) → r.senders ≤ k → sent_by k (r.taken ++ items) ≡ [])

-- the receiver took this message, which is of one of the senders
abbrev pub Took : Receiver → Post → Receiver → Type 0
Took r m t = (t ≡ after_take r m) × (m.message.sender < r.senders)

-- the first n of the senders, by number, which have put nothing
abbrev pub first_senders : TableId → ℕ → ℕ → List Sender
first_senders ring senders zero = []
first_senders ring senders (suc n) = first_senders ring senders n ++ record { ring = ring; senders = senders; number = n; put = []; refused = 0 } ∷ []

-- all senders of a new ring
abbrev pub new_senders : TableId → ℕ → List Sender
new_senders ring senders = first_senders ring senders senders

-- senders of this ring, by number
abbrev pub AreSendersOf : TableId → List Sender → Type 0
AreSendersOf ring sends = (k : ℕ) (s : Sender) → slice_get sends k ≡ Some s → (s.ring ≡ ring) × (s.number ≡ k)

-- each pass is for the ring at its place
abbrev pub AreSendsTo : List Place → List Sender → Type 0
AreSendsTo rings sends = (k : ℕ) (d : Place) (e : Sender) → k < length rings → (slice_index_or sends k e).ring ≡ (slice_index_or rings k d).ring

-- a ring that is being settled: which one it is, how many senders there are, what the ended ones put, and what was taken
pub record Closing : Type 0 where
  pub ring : TableId
  pub senders : ℕ
  pub puts : List (List Post)
  pub taken : List Post

-- a settled ring: what each sender put, and what was taken of all of them, in order
pub record Account : Type 0 where
  pub puts : List (List Post)
  pub taken : List Post

-- what a sender put
abbrev pub put_by : Account → ℕ → List Post
put_by a k = slice_index_or a.puts k []

-- how many messages of a sender were taken
abbrev pub taken_of : Account → ℕ → ℕ
taken_of a k = length (sent_by k a.taken)

-- what a sender put and nobody took
abbrev pub left_of : Account → ℕ → List Post
left_of a k = drop (taken_of a k) (put_by a k)

-- of each sender, what was taken and then what is left is what it put
abbrev pub IsSettled : Account → Type 0
IsSettled a = (k : ℕ) → k < length a.puts → sent_by k a.taken ++ left_of a k ≡ put_by a k

-- of each sender, all that it put was taken
abbrev pub IsSpent : Account → Type 0
IsSpent a = (k : ℕ) → k < length a.puts → sent_by k a.taken ≡ put_by a k

-- this message was the first that was left of its sender
abbrev pub HandsOut : Account → Post → Account → Type 0
HandsOut a m b = (b ≡ record a { taken = a.taken ++ m ∷ [] }) × (m.message.sender < length a.puts) × (left_of a m.message.sender ≡ m ∷ left_of b m.message.sender) × IsSettled b
