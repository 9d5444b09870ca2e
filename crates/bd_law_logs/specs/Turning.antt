-- What a thread does in a turn over queues and a registry that it has for itself: its rows, whatever stamps its log then gives them.
use Rattle.std.specs.Prelude.{◌≡◌, ◌≢◌, ℕ, ◌<◌, List, [], ◌∷◌, ◌++◌, map}
use Rattle.std.specs.List.{AllByRecursion}
use Rattle.bd_base.specs.declared.act.Act.{Act}
use Rattle.bd_base.specs.declared.act.Act.TheVariants as acts
use Rattle.bd_base.specs.declared.act.Entry.{Entry}
use Rattle.bd_base.specs.declared.setup.Setup.{Setup}
use Rattle.bd_turns.specs.declared.queue.Message.{Message}
use Rattle.bd_turns.specs.declared.queue.Post.{Post}
use Rattle.bd_turns.specs.Local.{Local, Leads}
use Rattle.bd_law_logs.specs.Rows.{Row, posts, message_of, messages, entries, Accepts}
use Rattle.bd_law_logs.specs.Journals.{registry_by, followed_from, IsReplay}
use Rattle.bd_law_logs.specs.Fits.{event_of, sent, taken}

-- ---- messages of rows

-- what rows put to a thread, and what they took from one
abbrev pub put_to : ℕ → List Row → List Message
put_to u rows = map message_of (sent u rows)

abbrev pub took_from : ℕ → List Row → List Message
took_from s rows = map message_of (taken s rows)

abbrev pub took_in : Act → List Message → List Message
took_in (acts.Took source number what) ms = ms
took_in _ ms = []

-- what rows took, of all threads, in order
abbrev pub took_all : List Row → List Message
took_all [] = []
took_all (r ∷ rs) = took_in r.entry.act (messages r) ++ took_all rs

abbrev pub IsOneOf : ℕ → List Post → Type 0
IsOneOf sender [] = ⊥
IsOneOf sender (p ∷ []) = p.message.sender ≡ sender
IsOneOf sender (p ∷ q ∷ ps) = ⊥

abbrev pub IsOnePost : List Post → Type 0
IsOnePost [] = ⊥
IsOnePost (p ∷ []) = Unit {0}
IsOnePost (p ∷ q ∷ ps) = ⊥

-- a Put has its message, and a Took one of the sender that it names
abbrev pub CarriesOne : Act → List Post → Type 0
CarriesOne (acts.Put to number what) ps = IsOnePost ps
CarriesOne (acts.Took source number what) ps = IsOneOf source ps
CarriesOne _ ps = Unit {0}

abbrev pub HasItsMessage : Row → Type 0
HasItsMessage r = CarriesOne r.entry.act (posts r.post)

-- ---- stamps

-- the same acts of the same thread, with any stamps from 1 on
abbrev pub AreRestamped : List Entry → List Entry → Type 0
AreRestamped [] [] = Unit {0}
AreRestamped (e ∷ es) (f ∷ fs) = (f.thread ≡ e.thread) × (f.act ≡ e.act) × (0 < f.stamp) × AreRestamped es fs
AreRestamped _ _ = ⊥

-- ---- a turn

-- the rows have these entries, and lead from what the thread saw and had to what it sees and has: what it took was in its own queue, and what it put is in the queues; its registry gave the answers
pub record AreRowsOf (setup : Setup) (t : ℕ) (l : Local) (es : List Entry) (l' : Local) (rows : List Row) : Type 0 where
  pub entries_are : entries rows ≡ es
  pub accepts : Accepts setup l.shared.shut t l.view rows l'.view
  pub carry : AllByRecursion HasItsMessage rows
  -- what it took, and then what is left in its queue, is what was in the queue, and then what it put to itself
  pub own_queue : took_all rows ++ l'.shared.queues t ≡ l.shared.queues t ++ put_to t rows
  pub other_queues : (r : ℕ) → r ≢ t → l'.shared.queues r ≡ l.shared.queues r ++ put_to r rows
  pub shut_is : l'.shared.shut ≡ l.shared.shut
  pub registry_is : l'.shared.registry ≡ registry_by setup l.shared.registry es
  pub replay : IsReplay setup l.shared.registry es
  -- each row names what had to follow in the registry
  pub followed : map event_of rows ≡ followed_from setup l.shared.registry es

-- what a thread does by the local rules are such rows, with any stamps
abbrev pub TurnIsAccepted : Type 0
TurnIsAccepted = (setup : Setup) (t : ℕ) (l l' : Local) (es fs : List Entry) → Leads setup t l es l' → AreRestamped es fs → (rows : List Row) × AreRowsOf setup t l fs l' rows
