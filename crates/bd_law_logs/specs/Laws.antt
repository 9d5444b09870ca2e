-- The laws of logs.
use Rattle.std.specs.Prelude.{◌≡◌, ℕ, ◌<◌, ◌≤◌, Bool, true, false, cond, ◌==◌, List, [], ◌∷◌, ◌++◌, length, map, filter, slice_index_or, None}
use Rattle.std.specs.List.{AllByRecursion, list_any}
use Rattle.bd_base.specs.declared.act.Entry.{Entry}
use Rattle.bd_base.specs.declared.id.DevId.{DevId}
use Rattle.bd_base.specs.declared.setup.Setup.{Setup}
use Rattle.bd_machine.specs.declared.state.Id.{Id}
use Rattle.bd_machine.specs.declared.state.Registry.{Registry}
use Rattle.bd_machine.specs.declared.state.State.{State}
use Rattle.bd_machine.specs.Content.{Told}
use Rattle.bd_machine.specs.Lines.{shutdown_at}
use Rattle.bd_machine.specs.Messages.{count_at}
use Rattle.bd_machine.specs.Registry.{references}
use Rattle.bd_machine.specs.Rest.{is_nothing_owed}
use Rattle.bd_machine.specs.Run.{IsRun, IsCompleteRun, state_after}
use Rattle.bd_machine.specs.Start.{registry_at_start}
use Rattle.bd_machine.specs.View.{View, is_of, part_of, view}
use Rattle.bd_turns.specs.Laws.{view_at_start, is_left_open_in, is_resting_here, AreBlocked, AreDestructed}
use Rattle.bd_log.specs.Merge.{Part, Rises, IsOrdered, entries_of, IsMerge}
use Rattle.bd_law_logs.specs.Rows.{Row, entries, Accepts}
use Rattle.bd_law_logs.specs.Journals.{events, registry_by, before, Event, entry_in, events_by, IsFollowed, own_handles_by, own_channels_by}
use Rattle.bd_law_logs.specs.Fits.{FindsAt, events_in, IsOwnFollowed, Fits, IsMergeOf}

-- ---- a run

-- each thread goes by the rules from its start, before any Shutdown; a thread that doesn't exist has an empty log
pub record AreAccepted (setup : Setup) (told : Told) (logs : ℕ → List Row) (ends : ℕ → View) : Type 0 where
  pub accepted : (t : ℕ) → t < setup.threads → Accepts setup false t (view_at_start setup told t) (logs t) (ends t)
  pub none_else : (t : ℕ) → setup.threads ≤ t → logs t ≡ []

-- logs that the rules accept and that fit are merged into a run
abbrev pub LogsAreRun : Type 0
LogsAreRun = (setup : Setup) (told : Told) (logs : ℕ → List Row) (journal merged : List Entry) (ends : ℕ → View)
    → AreAccepted setup told logs ends → Fits setup (registry_at_start setup) logs journal → IsMergeOf logs merged → IsRun setup told merged

-- ---- a complete run

-- every message that a thread put to another was taken
abbrev pub AreAllTaken : ℕ → (ℕ → View) → Type 0
AreAllTaken threads views = (t u : ℕ) → t < threads → u < threads → count_at (views t).part.put u ≡ count_at (views u).part.taken t

-- before the Shutdown: every message was taken, and none is still to be put; no thread has more to do than to remove a device that is being removed already in this registry; none has a handle that it closes by itself
-- no walk is on a thread, and a request only pended, on its own thread; thread 0's last entry took no injection, set no soft mark and let no device grow
pub record AreQuiet (setup : Setup) (registry : Registry) (views : ℕ → View) : Type 0 where
  pub none_due : (t : ℕ) → t < setup.threads → (views t).part.due ≡ []
  pub owed_idle : (t : ℕ) → t < setup.threads → is_nothing_owed registry (views t).part ≡ true
  pub closed : (t : ℕ) → t < setup.threads → list_any (is_left_open_in setup (views t)) (views t).handles ≡ false
  pub resting : (t : ℕ) → t < setup.threads → (id : Id) → is_resting_here setup t (views t) id ((views t).here id) ≡ true
  pub untaken : (views 0).part.prior ≡ None
  pub all_taken : AreAllTaken setup.threads views

-- at the end: no token is on a thread, no thread has a message still to put or anything else still to do, and every message was taken
pub record AreSpent (threads : ℕ) (views : ℕ → View) : Type 0 where
  pub none_here : (t : ℕ) → t < threads → (id : Id) → (views t).here id ≡ None
  pub none_due : (t : ℕ) → t < threads → (views t).part.due ≡ []
  pub none_owed : (t : ℕ) → t < threads → (views t).part.owed ≡ []
  pub all_taken : AreAllTaken threads views

-- what a thread's log has of the Shutdown: it is a row of thread 0
abbrev pub shutdown_of : ℕ → ℕ → List Row
shutdown_of stamp t = cond (t == 0) (record { entry = shutdown_at stamp; post = None; between = None } ∷ []) []

-- each thread's log leads from its start to a mark below the Shutdown's stamp, and from the mark to an end above it
-- at the marks all threads are quiet, by the registry that the journal's entries before the Shutdown leave, and every script is blocked; at the ends nothing is left to do, and every device was destructed
pub record AreShut (setup : Setup) (told : Told) (logs : ℕ → List Row) (journal : List Entry) : Type 0 where
  pub stamp : ℕ
  pub firsts : ℕ → List Row
  pub seconds : ℕ → List Row
  pub marks : ℕ → View
  pub ends : ℕ → View
  pub some : 0 < setup.threads
  pub positive : 0 < stamp
  pub logs_are : (t : ℕ) → logs t ≡ firsts t ++ (shutdown_of stamp t ++ seconds t)
  pub none_else : (t : ℕ) → setup.threads ≤ t → logs t ≡ []
  pub early : (t : ℕ) → AllByRecursion (λ r. r.entry.stamp < stamp) (firsts t)
  pub late : (t : ℕ) → AllByRecursion (λ r. stamp < r.entry.stamp) (seconds t)
  pub to_marks : (t : ℕ) → t < setup.threads → Accepts setup false t (view_at_start setup told t) (firsts t) (marks t)
  pub to_ends : (t : ℕ) → t < setup.threads → Accepts setup true t (marks t) (seconds t) (ends t)
  pub quiet_at_marks : AreQuiet setup (registry_by setup (registry_at_start setup) (before (shutdown_at stamp) journal)) marks
  pub blocked : AreBlocked setup marks
  pub spent_at_ends : AreSpent setup.threads ends
  pub destructed : AreDestructed setup ends

-- such logs, where they fit, are merged into a complete run
abbrev pub LogsAreCompleteRun : Type 0
LogsAreCompleteRun = (setup : Setup) (told : Told) (logs : ℕ → List Row) (journal merged : List Entry)
    → AreShut setup told logs journal → Fits setup (registry_at_start setup) logs journal → IsMergeOf logs merged → IsCompleteRun setup told merged

-- ---- where a complete run ends

-- the state has for this thread what it saw: its part, what is kept of each token that is on it, its handles, and its references to each device
pub record IsSeenAs (s : State) (t : ℕ) (v : View) : Type 0 where
  pub part : part_of s t ≡ v.part
  pub here : (id : Id) → (view s t).here id ≡ v.here id
  pub handles : (view s t).handles ≡ v.handles
  pub channels : (dev : DevId) → (view s t).channels dev ≡ v.channels dev

-- the state that the merge of such logs leaves has for each thread what the thread saw at its end
abbrev pub LogsEndAsSeen : Type 0
LogsEndAsSeen = (setup : Setup) (told : Told) (logs : ℕ → List Row) (journal merged : List Entry) (sh : AreShut setup told logs journal) → Fits setup (registry_at_start setup) logs journal → IsMergeOf logs merged
    → (t : ℕ) → t < setup.threads → IsSeenAs (state_after setup told merged) t (sh.ends t)

-- ---- what had to follow in the registry

-- where a journal is followed as its events name, and its events of each thread are those of the thread's log, each log finds what it names
abbrev pub FollowedIsFound : Type 0
FollowedIsFound = (setup : Setup) (registry : Registry) (logs : ℕ → List Row) (js : List Event) → IsOrdered (map entry_in js) → ((t : ℕ) → events_by t js ≡ events_in (logs t)) → IsFollowed setup registry js
    → (t : ℕ) → AllByRecursion (FindsAt setup registry (map entry_in js)) (logs t)

-- where stamps rise strictly in a journal that begins with nothing to follow, and each thread names what its own entries left to follow and asks for it next, each log finds what it names
abbrev pub OwnIsFound : Type 0
OwnIsFound = (setup : Setup) (registry : Registry) (logs : ℕ → List Row) (journal : List Entry) → registry.between ≡ None → Rises journal → ((t : ℕ) → entries_of t journal ≡ events (entries (logs t)))
    → ((t : ℕ) → IsOwnFollowed None (logs t)) → (t : ℕ) → AllByRecursion (FindsAt setup registry journal) (logs t)

-- ---- what a thread has in the registry

-- in the registry that a journal leaves, a thread's handles and references are those that its own entries give
pub record HasOwn (setup : Setup) (registry : Registry) (journal : List Entry) (t : ℕ) : Type 0 where
  pub handles : filter (is_of t) (registry_by setup registry journal).handles ≡ own_handles_by t (filter (is_of t) registry.handles) (entries_of t journal)
  pub channels : (dev : DevId) → references (registry_by setup registry journal) t dev ≡ own_channels_by setup (references registry t) (entries_of t journal) dev

-- others' entries leave them
abbrev pub OthersLeaveOwn : Type 0
OthersLeaveOwn = (setup : Setup) (registry : Registry) (journal : List Entry) (t : ℕ) → HasOwn setup registry journal t

-- the handles and channels that a thread sees are those that the events of its log give
pub record SeesOwn (setup : Setup) (t : ℕ) (v : View) (rows : List Row) (w : View) : Type 0 where
  pub handles : w.handles ≡ own_handles_by t v.handles (events (entries rows))
  pub channels : w.channels ≡ own_channels_by setup v.channels (events (entries rows))

-- so it is where the rules accept the log
abbrev pub LogsGiveOwn : Type 0
LogsGiveOwn = (setup : Setup) (shut : Bool) (t : ℕ) (v : View) (rows : List Row) (w : View) → Accepts setup shut t v rows w → SeesOwn setup t v rows w

-- ---- the merge of parts

-- part t is thread t's, with the entries of its log, and there are no others
pub record ArePartsOf (threads : ℕ) (logs : ℕ → List Row) (parts : List Part) : Type 0 where
  pub len : length parts ≡ threads
  pub each : (t : ℕ) (d : Part) → t < threads → slice_index_or parts t d ≡ record { thread = t; entries = entries (logs t) }
  pub none_else : (t : ℕ) → threads ≤ t → logs t ≡ []

-- the merge of these parts is the merge of the logs
abbrev pub MergeOfParts : Type 0
MergeOfParts = (threads : ℕ) (logs : ℕ → List Row) (parts : List Part) (merged : List Entry) → ArePartsOf threads logs parts → IsMerge parts merged → IsMergeOf logs merged
