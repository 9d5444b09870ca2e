-- What a thread that runs beside others did so far, and what it knows of that by itself.
use Rattle.std.specs.Prelude.{◌≡◌, ◌≢◌, ℕ, ◌+◌, ◌<◌, ◌≤◌, List, [], ◌∷◌, ◌++◌, map}
use Rattle.std.specs.List.{AllByRecursion}
use Rattle.bd_base.specs.declared.act.Act.{Act}
use Rattle.bd_base.specs.declared.act.Act.TheVariants as acts
use Rattle.bd_base.specs.declared.act.Entry.{Entry}
use Rattle.bd_base.specs.declared.id.DevId.{DevId}
use Rattle.bd_base.specs.declared.setup.Setup.{Setup}
use Rattle.bd_machine.specs.Start.{registry_at_start}
use Rattle.bd_machine.specs.View.{View}
use Rattle.bd_turns.specs.declared.queue.Post.{Post}
use Rattle.bd_turns.specs.Local.{Local}
use Rattle.bd_log.specs.Merge.{entries_of}
use Rattle.bd_ring.specs.Posts.{sent_by}
use Rattle.bd_law_logs.specs.Rows.{Row, message_of, entries, Accepts}
use Rattle.bd_law_logs.specs.Journals.{events, events_by, followed_from, registry_by}
use Rattle.bd_law_logs.specs.Fits.{events_in}
use Rattle.bd_law_logs.specs.Loose.{put_stamps, AreLower}
use Rattle.bd_law_logs.specs.Turning.{HasItsMessage, put_to, took_all}
use Rattle.bd_law_served.specs.Served.{served_on, ServedPiece}
use Rattle.bd_law_held.specs.Held.{held_on, Holding}

-- ---- entries with the log's stamps

abbrev pub act_of : Entry → Act
act_of e = e.act

abbrev pub acts_of : List Entry → List Act
acts_of entries = map act_of entries

-- the acts as entries of a thread, with the stamps after this one
abbrev pub restamped : ℕ → ℕ → List Act → List Entry
restamped thread last [] = []
restamped thread last (act ∷ acts) = record { stamp = last + 1; thread = thread; act = act } ∷ restamped thread (last + 1) acts

-- ---- what was done

-- a thread's course has two phases, before and after the Shutdown: the rows before this one, the pieces that each of its base devices served until then, the requests that it held until then, what the thread saw when the phase began, and a stamp below those of its rows
pub record Phase : Type 0 where
  pub earlier : List Row
  pub served : DevId → List ServedPiece
  pub held : List Holding
  pub from : View
  pub since : ℕ

-- the rows of the phase; all messages that came into the thread's queue, each with its stamp (one that the thread put to itself has its entry's); of those, the ones taken from its ring; what was put into the ring to each thread
-- the rows of the journal that its registry followed; the pieces that each of its base devices served since the start; the requests that it held since then; and the last stamp
pub record Course : Type 0 where
  pub rows : List Row
  pub arrived : List Post
  pub taken : List Post
  pub sent : ℕ → List Post
  pub seen : List Entry
  pub served : DevId → List ServedPiece
  pub held : List Holding
  pub last : ℕ

-- the rows of both phases
abbrev pub all_rows : Phase → Course → List Row
all_rows p c = p.earlier ++ c.rows

-- ---- stamps

abbrev pub stamp_of : Post → ℕ
stamp_of p = p.stamp

abbrev pub take_stamp : Act → ℕ → List ℕ
take_stamp (acts.Took source number what) stamp = stamp ∷ []
take_stamp _ stamp = []

-- the stamps of the entries that took a message, in order
abbrev pub take_stamps : List Row → List ℕ
take_stamps [] = []
take_stamps (r ∷ rs) = take_stamp r.entry.act r.entry.stamp ++ take_stamps rs

-- to each number of the second list there is one at its place in the first, which isn't above it
abbrev pub AreNotAbove : List ℕ → List ℕ → Type 0
AreNotAbove xs [] = Unit {0}
AreNotAbove [] (y ∷ ys) = ⊥
AreNotAbove (x ∷ xs) (y ∷ ys) = (x ≤ y) × AreNotAbove xs ys

-- ---- what holds of it

-- thread number t's course in a phase, which led to what the thread sees and has for itself now
pub record IsCourse (setup : Setup) (t : ℕ) (p : Phase) (c : Course) (l : Local) : Type 0 where
  -- its rows are accepted, from where the phase began
  pub accepts : Accepts setup l.shared.shut t p.from c.rows l.view
  pub carry : AllByRecursion HasItsMessage (all_rows p c)
  -- stamps
  pub since : p.since ≤ c.last
  pub late : AllByRecursion (λ r. p.since < r.entry.stamp) c.rows
  pub within : AllByRecursion (λ r. r.entry.stamp ≤ c.last) (all_rows p c)
  -- what came into its queue was taken from there, in order and by entries with higher stamps, or is there
  pub queue : took_all (all_rows p c) ++ l.shared.queues t ≡ map message_of c.arrived
  pub lower : AreLower (map stamp_of c.arrived) (take_stamps (all_rows p c))
  pub met : AllByRecursion (λ m. m.stamp ≤ c.last) c.arrived
  -- of another thread came what was taken from the ring; of itself, where nothing of its own was in the ring, what it put to itself
  pub others : (s : ℕ) → s ≢ t → sent_by s c.arrived ≡ sent_by s c.taken
  pub own : sent_by t c.taken ≡ [] → (map message_of (sent_by t c.arrived) ≡ put_to t (all_rows p c)) × (map stamp_of (sent_by t c.arrived) ≡ put_stamps t (all_rows p c))
  pub senders : AllByRecursion (λ m. m.message.sender < setup.threads) c.taken
  -- what it put to another thread is in the ring to that, in order and with stamps not below the entries', or still in its own queue
  pub puts : (r : ℕ) → r ≢ t → map message_of (c.sent r) ++ l.shared.queues r ≡ put_to r (all_rows p c)
  pub stamped : (r : ℕ) → r ≢ t → AreNotAbove (put_stamps r (all_rows p c)) (map stamp_of (c.sent r))
  pub none_own : c.sent t ≡ []
  -- its registry is what the journal's rows leave that it followed; those of its own are the events of its rows, each with what had to follow
  pub replica : l.shared.registry ≡ registry_by setup (registry_at_start setup) c.seen
  pub wrote : entries_of t c.seen ≡ events (entries (all_rows p c))
  pub followed : events_by t (followed_from setup (registry_at_start setup) c.seen) ≡ events_in (all_rows p c)
  -- what its base devices served is what they served until the phase began, and then what its rows say
  pub served : (dev : DevId) → c.served dev ≡ p.served dev ++ served_on setup l.shared.shut t dev p.from c.rows
  -- and so it is with the requests that it held
  pub held : c.held ≡ p.held ++ held_on setup l.shared.shut t p.from c.rows
