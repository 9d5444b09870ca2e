-- What comes to a thread: the posts of its ring, put last in its own queue.
use Rattle.std.specs.Prelude.{◌≡◌, ℕ, ◌<◌, ◌≤◌, ◌==◌, ◌⊎◌, true, cond, List, [], ◌∷◌, ◌++◌, map, max}
use Rattle.std.specs.List.{AllByRecursion}
use Rattle.bd_turns.specs.declared.queue.Message.{Message}
use Rattle.bd_turns.specs.declared.queue.Post.{Post}
use Rattle.bd_links.specs.Queues.{is_full, queues_of}
use Rattle.bd_log.specs.Log.{Written}
use Rattle.bd_ring.specs.Posts.{Brings}
use Rattle.bd_ring.specs.Rings.{Receiver, WasEmpty, one_further}

abbrev pub message_of : Post → Message
message_of p = p.message

abbrev pub messages_of : List Post → List Message
messages_of posts = map message_of posts

-- the queues with these messages put last in the queue to one thread
abbrev pub with_last : ℕ → List Message → (ℕ → List Message) → ℕ → List Message
with_last to ms queues r = cond (r == to) (queues r ++ ms) (queues r)

-- the post is of one of so many senders, its message brings the token that it names, and its stamp isn't above the last
pub record IsMet (senders last : ℕ) (p : Post) : Type 0 where
  pub sender : p.message.sender < senders
  pub brings : Brings p
  pub stamp : p.stamp ≤ last

-- the last stamp of a log, once it has met those of these posts
abbrev pub last_with : ℕ → List Post → ℕ
last_with last [] = last
last_with last (p ∷ ps) = last_with (max last p.stamp) ps

-- these posts were taken, in order; their messages are last in the thread's queue, the other queues stayed, and the log has met just their stamps
pub record Fetched (me : ℕ) (pass : Receiver) (log : Written) (queues : List (List Message))
    (pass' : Receiver) (log' : Written) (queues' : List (List Message)) : Type 0 where
  pub posts : List Post
  pub taken : pass' ≡ record pass { taken = pass.taken ++ posts; missed = pass'.missed }
  pub queued : queues_of queues' ≡ with_last me (messages_of posts) (queues_of queues)
  pub log_is : log' ≡ record log { last = log'.last }
  pub last : log'.last ≡ last_with log.last posts
  pub later : log.last ≤ log'.last
  pub met : AllByRecursion (IsMet pass.senders log'.last) posts

-- the thread's queue is full, or a take found the ring empty, as the pass counted
abbrev pub HasFetchedAll : ℕ → Receiver → Receiver → List (List Message) → Type 0
HasFetchedAll me pass pass' queues' = (is_full queues' me ≡ true) ⊎ ((pass'.missed ≡ one_further pass.missed) × WasEmpty pass')
