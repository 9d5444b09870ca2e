-- Senders and threads that count: post and row n of each has number n.
use Rattle.std.specs.Prelude.{◌≡◌, ℕ, ◌<◌, List, [], ◌∷◌, ◌++◌, length, slice_index_or}
use Prim.Native.Nat.{zero, suc}
use Rattle.atomic_table.specs.Seated.{TableId}
use Rattle.bd_base.specs.declared.act.Act.TheVariants.{Script}
use Rattle.bd_base.specs.declared.act.Outcome.TheVariants.{Done}
use Rattle.bd_base.specs.declared.act.Entry.{Entry}
use Rattle.bd_base.specs.declared.journal.Start.{Start}
use Rattle.bd_base.specs.declared.act.Token.TheVariants as tokens
use Rattle.bd_machine.specs.declared.state.Kept.TheVariants as keeps
use Rattle.bd_machine.specs.declared.state.News.TheVariants as news
use Rattle.bd_turns.specs.declared.queue.Post.{Post}
use Rattle.bd_ring.specs.Rings.{Sender}

abbrev pub post : ℕ → ℕ → Post
post sender n = record { message = record { sender = sender; what = tokens.Channel (record { 0 = n }); kept = keeps.Notice (news.Channel (record { 0 = n })) }; stamp = n }

-- the first n posts of a sender
abbrev pub first_posts : ℕ → ℕ → List Post
first_posts sender zero = []
first_posts sender (suc n) = first_posts sender n ++ post sender n ∷ []

-- the sender, which was new, has put this number of posts, however often it found the ring full
pub record HasPut (count : ℕ) (s s' : Sender) : Type 0 where
  pub ring : s'.ring ≡ s.ring
  pub senders : s'.senders ≡ s.senders
  pub number : s'.number ≡ s.number
  pub put : s'.put ≡ first_posts s.number count

-- senders of this ring that have put nothing
abbrev pub AreNew : TableId → List Sender → Type 0
AreNew ring sends = (k : ℕ) (d : Sender) → k < length sends → let s = slice_index_or sends k d in (s.ring ≡ ring) × (s.put ≡ [])

-- each of these senders, which were new, put this number of posts
abbrev pub HavePut : ℕ → List Sender → List Sender → Type 0
HavePut count before after = (k : ℕ) (d : Sender) → k < length before → HasPut count (slice_index_or before k d) (slice_index_or after k d)

abbrev pub row_at : ℕ → ℕ → Entry
row_at thread n = record { stamp = n; thread = thread; act = Script n Done }

-- the first n rows of a thread
abbrev pub first_rows : ℕ → ℕ → List Entry
first_rows thread zero = []
first_rows thread (suc n) = first_rows thread n ++ row_at thread n ∷ []

-- what contracts see of a bare journal
pub record Bare : Type 0 where
  pub rows : List Entry
  pub threads : ℕ

abbrev pub bare_start : ℕ → Start
bare_start threads = record { threads = threads; devices = []; rates = []; injections = [] }
