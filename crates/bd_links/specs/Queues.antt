-- A queue of messages to each thread.
use Rattle.std.specs.Prelude.{◌≡◌, ℕ, Bool, cond, ◌==◌, nat_le, List, [], ◌∷◌, ◌++◌, length, drop, replicate, slice_index_or}
use Rattle.bd_turns.specs.declared.queue.Message.{Message}

-- the messages to each thread; none to one that isn't there
abbrev pub queues_of : List (List Message) → ℕ → List Message
queues_of queues = λ r. slice_index_or queues r []

-- queues without a message, by how many they are
abbrev pub empty_queues : ℕ → List (List Message)
empty_queues threads = replicate threads []

-- it is the first of the list
abbrev pub IsFirst : Message → List Message → Type 0
IsFirst m [] = ⊥
IsFirst m (x ∷ xs) = m ≡ x

-- the message is put last in the queue to this thread
abbrev pub Pushed : List (List Message) → List (List Message) → ℕ → Message → Type 0
Pushed old new to m = queues_of new ≡ (λ r. cond (r == to) (queues_of old r ++ m ∷ []) (queues_of old r))

-- the message was the first to this thread, and is taken out
pub record Popped (old new : List (List Message)) (me : ℕ) (m : Message) : Type 0 where
  pub first : queues_of old me ≡ m ∷ queues_of new me
  pub rest : queues_of new ≡ (λ r. cond (r == me) (drop 1 (queues_of old r)) (queues_of old r))

-- the most messages on their way to one thread
abbrev pub most_messages : ℕ
most_messages = 1024

-- as many messages are on their way to a thread as may be
abbrev pub is_full : List (List Message) → ℕ → Bool
is_full queues to = nat_le most_messages (length (queues_of queues to))
