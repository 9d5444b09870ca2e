-- What a thread puts to another: the messages of its queue to that thread, put into the ring.
use Rattle.std.specs.Prelude.{◌≡◌, ◌≢◌, ℕ, ◌<◌, Bool, true, false, ◌&&◌, ◌==◌, ◌⊎◌, List, [], ◌∷◌, ◌++◌, length, slice_index_or, Some}
use Rattle.std.specs.List.{AllByRecursion}
use Rattle.bd_machine.specs.Messages.{brings}
use Rattle.bd_turns.specs.declared.queue.Message.{Message}
use Rattle.bd_turns.specs.declared.queue.Post.{Post}
use Rattle.bd_ring.specs.Rings.{Place, Sender, WasFull, after_put, after_refusal, one_further}
use Rattle.bd_seat.specs.Incoming.{messages_of}

-- there is a first message, which is of this sender and brings the token that it names
abbrev pub has_next : ℕ → List Message → Bool
has_next sender [] = false
has_next sender (m ∷ ms) = (m.sender == sender) && brings m.what (Some m.kept)

abbrev pub post_of : ℕ → Message → Post
post_of stamp m = record { message = m; stamp = stamp }

-- no first message can be put, and the pass is as before; or a put found the ring full, which the pass counts
abbrev pub PutsNone : Place → Sender → List Message → Sender → Type 0
PutsNone place pass queue pass' = ((pass' ≡ pass) × (has_next pass.number queue ≡ false)) ⊎ ((pass' ≡ after_refusal pass) × WasFull place pass)

-- the first message was put, or the queue is as before, since none can be put or the ring was full
abbrev pub FlushedOne : ℕ → Place → Sender → List Message → Sender → List Message → Bool → Type 0
FlushedOne stamp place pass queue pass' queue' true = (m : Message) × (queue ≡ m ∷ queue') × (pass' ≡ after_put pass (post_of stamp m))
FlushedOne stamp place pass queue pass' queue' false = (queue' ≡ queue) × PutsNone place pass queue pass'

-- the messages of these posts, which have this stamp, were the first of the queue, in order; they were put, and the others stayed
pub record Flushed (stamp : ℕ) (pass : Sender) (queue : List Message) (pass' : Sender) (queue' : List Message) : Type 0 where
  pub posts : List Post
  pub put : pass' ≡ record pass { put = pass.put ++ posts; refused = pass'.refused }
  pub queue_is : messages_of posts ++ queue' ≡ queue
  pub stamped : AllByRecursion (λ p. p.stamp ≡ stamp) posts

-- no first message can be put, or the ring was found full
abbrev pub HasFlushedAll : Place → Sender → List Message → Type 0
HasFlushedAll place pass queue = (has_next pass.number queue ≡ false) ⊎ WasFull place pass

-- no first message can be put, or a put found the ring full, as the pass counted
abbrev pub IsServed : Sender → Sender → List Message → Type 0
IsServed pass pass' queue' = (has_next pass'.number queue' ≡ false) ⊎ (pass'.refused ≡ one_further pass.refused)

-- what goes to another thread was flushed; what goes to the thread itself stayed
abbrev pub FlushedIf : Bool → ℕ → Sender → List Message → Sender → List Message → Type 0
FlushedIf true stamp pass queue pass' queue' = (pass' ≡ pass) × (queue' ≡ queue)
FlushedIf false stamp pass queue pass' queue' = Flushed stamp pass queue pass' queue'

-- so it is with the queue of this number
abbrev pub FlushedAt : ℕ → ℕ → List Sender → List (List Message) → List Sender → List (List Message) → ℕ → Sender → Type 0
FlushedAt me stamp sends queues sends' queues' k d =
    FlushedIf (k == me) stamp (slice_index_or sends k d) (slice_index_or queues k []) (slice_index_or sends' k d) (slice_index_or queues' k [])

-- so it is with the queue to each other thread
abbrev pub AreServed : ℕ → List Sender → List Sender → List (List Message) → Type 0
AreServed me sends sends' queues' =
    (k : ℕ) (d : Sender) → k < length queues' → k ≢ me → IsServed (slice_index_or sends k d) (slice_index_or sends' k d) (slice_index_or queues' k [])

-- the queues were flushed, each as its number says
abbrev pub FlushedAll : ℕ → ℕ → List Sender → List (List Message) → List Sender → List (List Message) → Type 0
FlushedAll me stamp sends queues sends' queues' = (k : ℕ) (d : Sender) → k < length queues → FlushedAt me stamp sends queues sends' queues' k d
