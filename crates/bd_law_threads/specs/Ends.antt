-- How the courses of all threads, after a Shutdown at rest, are one complete run, and where it ends.
use Rattle.std.specs.Prelude.{◌≡◌, ℕ, ◌<◌, ◌≤◌, true, false, List, [], ◌++◌, find, None}
use Rattle.std.specs.List.{AllByRecursion, list_any}
use Rattle.bd_base.specs.declared.act.Entry.{Entry}
use Rattle.bd_base.specs.declared.id.DevId.{DevId}
use Rattle.bd_base.specs.declared.setup.Setup.{Setup}
use Rattle.bd_machine.specs.declared.state.Id.{Id}
use Rattle.bd_machine.specs.BlockMap.{home}
use Rattle.bd_machine.specs.Content.{Told}
use Rattle.bd_machine.specs.Homes.{base_here, is_base}
use Rattle.bd_machine.specs.Run.{IsCompleteRun, state_after}
use Rattle.bd_machine.specs.Start.{registry_at_start, start}
use Rattle.bd_machine.specs.View.{View, part_of}
use Rattle.bd_turns.specs.declared.queue.Post.{Post}
use Rattle.bd_turns.specs.Laws.{is_left_open_in, is_resting_here, view_at_start, AreBlocked, AreDestructed}
use Rattle.bd_turns.specs.Local.{Local}
use Rattle.bd_log.specs.Merge.{entries_of, IsOrdered}
use Rattle.bd_ring.specs.Posts.{sent_by}
use Rattle.bd_ring.specs.SlotRule.{StartsWith}
use Rattle.bd_law_logs.specs.Rows.{entries, Accepts, Row}
use Rattle.bd_law_logs.specs.Journals.{events, IsReplay}
use Rattle.bd_law_logs.specs.Fits.{IsMergeOf}
use Rattle.bd_law_logs.specs.Laws.{shutdown_of, AreAllTaken, AreSpent, IsSeenAs}
use Rattle.bd_law_served.specs.Served.{served_from, served_on}
use Rattle.bd_law_held.specs.Held.{held_from, held_on}
use Rattle.bd_law_threads.specs.Course.{all_rows, Course, IsCourse, Phase}

-- ---- the mark

-- what a thread sees before the Shutdown: no message is still to be put, no action is pending, no handle is still to be closed by itself, no walk is here, and a request only pended, on its own thread
pub record Rests (setup : Setup) (t : ℕ) (v : View) : Type 0 where
  pub none_due : v.part.due ≡ []
  pub none_owed : v.part.owed ≡ []
  pub closed : list_any (is_left_open_in setup v) v.handles ≡ false
  pub resting : (id : Id) → is_resting_here setup t v id (v.here id) ≡ true

-- the rows of each thread before the Shutdown, and what each saw then: all rested and were blocked, and every message was taken; thread 0's last entry took no injection, set no soft mark and let no device grow
pub record AreMarked (setup : Setup) (told : Told) (stamp : ℕ) (firsts : ℕ → List Row) (marks : ℕ → View) : Type 0 where
  pub positive : 0 < stamp
  pub accepted : (t : ℕ) → t < setup.threads → Accepts setup false t (view_at_start setup told t) (firsts t) (marks t)
  pub early : (t : ℕ) → t < setup.threads → AllByRecursion (λ r. r.entry.stamp < stamp) (firsts t)
  pub rested : (t : ℕ) → t < setup.threads → Rests setup t (marks t)
  pub untaken : (marks 0).part.prior ≡ None
  pub all_taken : AreAllTaken setup.threads marks
  pub blocked : AreBlocked setup marks

-- after it
abbrev pub phase_after : Setup → Told → ℕ → (ℕ → List Row) → (ℕ → View) → ℕ → Phase
phase_after setup told stamp firsts marks t = record {
  earlier = firsts t ++ shutdown_of stamp t;
  served = λ dev. served_on setup false t dev (view_at_start setup told t) (firsts t);
  held = held_on setup false t (view_at_start setup told t) (firsts t);
  from = marks t;
  since = stamp;
}

-- ---- the rings and the registry, at the end

-- of each sender, what a thread took from its ring is a prefix of what the sender put there
abbrev pub AreDelivered : ℕ → (ℕ → Course) → Type 0
AreDelivered threads cs = (s t : ℕ) → s < threads → t < threads → (left : List Post) × (sent_by s (cs t).taken ++ left ≡ (cs s).sent t)

-- the registry's journal: in order, with the registry's answers, with each thread's events and no others, and it begins with what each thread saw of it
pub record IsJournalOf (setup : Setup) (logs : ℕ → List Row) (cs : ℕ → Course) (journal : List Entry) : Type 0 where
  pub ordered : IsOrdered journal
  pub replay : IsReplay setup (registry_at_start setup) journal
  pub rows : (t : ℕ) → t < setup.threads → entries_of t journal ≡ events (entries (logs t))
  pub others : (t : ℕ) → setup.threads ≤ t → entries_of t journal ≡ []
  pub seen : (t : ℕ) → t < setup.threads → StartsWith journal (cs t).seen

-- ---- the end

-- each thread's course after the Shutdown, its log, and where they ended
pub record AreEnded (setup : Setup) (told : Told) (stamp : ℕ) (firsts : ℕ → List Row) (marks : ℕ → View) (logs : ℕ → List Row) (cs : ℕ → Course) (ls : ℕ → Local) : Type 0 where
  pub some : 0 < setup.threads
  pub marked : AreMarked setup told stamp firsts marks
  pub courses : (t : ℕ) → t < setup.threads → IsCourse setup t (phase_after setup told stamp firsts marks t) (cs t) (ls t)
  pub shut : (t : ℕ) → t < setup.threads → (ls t).shared.shut ≡ true
  -- nothing is on its way to threads that don't exist
  pub no_queues : (t r : ℕ) → t < setup.threads → setup.threads ≤ r → (ls t).shared.queues r ≡ []
  pub no_sent : (t r : ℕ) → t < setup.threads → setup.threads ≤ r → (cs t).sent r ≡ []
  pub logs_are : (t : ℕ) → t < setup.threads → logs t ≡ all_rows (phase_after setup told stamp firsts marks t) (cs t)
  pub none_else : (t : ℕ) → setup.threads ≤ t → logs t ≡ []
  pub none_first : (t : ℕ) → setup.threads ≤ t → firsts t ≡ []
  pub spent : AreSpent setup.threads (λ t. (ls t).view)
  pub destructed : AreDestructed setup (λ t. (ls t).view)

-- the merge of such logs is a complete run
abbrev pub CoursesAreCompleteRun : Type 0
CoursesAreCompleteRun = (setup : Setup) (told : Told) (stamp : ℕ) (firsts : ℕ → List Row) (marks : ℕ → View) (logs : ℕ → List Row) (cs : ℕ → Course) (ls : ℕ → Local) (journal merged : List Entry)
    → AreEnded setup told stamp firsts marks logs cs ls → AreDelivered setup.threads cs → IsJournalOf setup logs cs journal → IsMergeOf logs merged → IsCompleteRun setup told merged

-- the state that the merge leaves has for each thread what the thread saw at its end
abbrev pub CoursesEndAsSeen : Type 0
CoursesEndAsSeen = (setup : Setup) (told : Told) (stamp : ℕ) (firsts : ℕ → List Row) (marks : ℕ → View) (logs : ℕ → List Row) (cs : ℕ → Course) (ls : ℕ → Local) (journal merged : List Entry)
    → AreEnded setup told stamp firsts marks logs cs ls → AreDelivered setup.threads cs → IsJournalOf setup logs cs journal → IsMergeOf logs merged
    → (t : ℕ) → t < setup.threads → IsSeenAs (state_after setup told merged) t (ls t).view

-- so what it has of a base device at the device's home, with its content, is what that thread saw of it
abbrev pub BasesEndAsSeen : Type 0
BasesEndAsSeen = (setup : Setup) (told : Told) (stamp : ℕ) (firsts : ℕ → List Row) (marks : ℕ → View) (logs : ℕ → List Row) (cs : ℕ → Course) (ls : ℕ → Local) (journal merged : List Entry)
    → AreEnded setup told stamp firsts marks logs cs ls → AreDelivered setup.threads cs → IsJournalOf setup logs cs journal → IsMergeOf logs merged
    → (dev : DevId) → find (is_base dev) (part_of (state_after setup told merged) (home setup dev)).bases ≡ base_here (ls (home setup dev)).view dev

-- and the pieces that a thread's base devices served in it are those of the thread's course
abbrev pub CoursesServeAsSeen : Type 0
CoursesServeAsSeen = (setup : Setup) (told : Told) (stamp : ℕ) (firsts : ℕ → List Row) (marks : ℕ → View) (logs : ℕ → List Row) (cs : ℕ → Course) (ls : ℕ → Local) (journal merged : List Entry)
    → AreEnded setup told stamp firsts marks logs cs ls → AreDelivered setup.threads cs → IsJournalOf setup logs cs journal → IsMergeOf logs merged
    → (t : ℕ) (dev : DevId) → t < setup.threads → served_from setup t dev (start setup told) merged ≡ (cs t).served dev

-- and so are the requests that a thread held in it
abbrev pub CoursesHoldAsSeen : Type 0
CoursesHoldAsSeen = (setup : Setup) (told : Told) (stamp : ℕ) (firsts : ℕ → List Row) (marks : ℕ → View) (logs : ℕ → List Row) (cs : ℕ → Course) (ls : ℕ → Local) (journal merged : List Entry)
    → AreEnded setup told stamp firsts marks logs cs ls → AreDelivered setup.threads cs → IsJournalOf setup logs cs journal → IsMergeOf logs merged
    → (t : ℕ) → t < setup.threads → held_from setup t (start setup told) merged ≡ (cs t).held
