-- How a thread's course goes on, step by step.
use Rattle.std.specs.Prelude.{◌≡◌, ◌≢◌, ℕ, ◌+◌, ◌<◌, ◌≤◌, ◌==◌, true, cond, List, [], ◌∷◌, ◌++◌, filter, length, map}
use Rattle.std.specs.List.{AllByRecursion}
use Rattle.bd_base.specs.declared.act.Entry.{Entry}
use Rattle.bd_base.specs.declared.id.DevId.{DevId}
use Rattle.bd_base.specs.declared.setup.Setup.{Setup}
use Rattle.bd_machine.specs.declared.state.Registry.{Registry}
use Rattle.bd_machine.specs.Content.{Told}
use Rattle.bd_machine.specs.Lines.{shutdown_at}
use Rattle.bd_machine.specs.Registry.{references}
use Rattle.bd_machine.specs.Start.{registry_at_start}
use Rattle.bd_machine.specs.View.{is_of}
use Rattle.bd_turns.specs.declared.queue.Message.{Message}
use Rattle.bd_turns.specs.declared.queue.Post.{Post}
use Rattle.bd_turns.specs.Laws.{shared_at_start, view_at_start}
use Rattle.bd_turns.specs.Local.{Local, Leads}
use Rattle.bd_log.specs.Merge.{entries_of}
use Rattle.bd_law_logs.specs.Rows.{message_of, entries}
use Rattle.bd_law_logs.specs.Journals.{events, registry_by}
use Rattle.bd_law_logs.specs.Laws.{shutdown_of}
use Rattle.bd_law_served.specs.Served.{served_led}
use Rattle.bd_law_held.specs.Held.{held_led}
use Rattle.bd_law_threads.specs.Course.{acts_of, all_rows, restamped, Course, IsCourse, Phase}

-- ---- the start

-- before the Shutdown, from the start
abbrev pub first_phase : Setup → Told → ℕ → Phase
first_phase setup told t = record { earlier = []; served = λ dev. []; held = []; from = view_at_start setup told t; since = 0 }

abbrev pub new_course : Course
new_course = record { rows = []; arrived = []; taken = []; sent = λ r. []; seen = []; served = λ dev. []; held = []; last = 0 }

-- what a thread sees and has for itself before any entry
abbrev pub local_at_start : Setup → Told → ℕ → Local
local_at_start setup told t = record { view = view_at_start setup told t; shared = shared_at_start setup }

abbrev pub Begins : Type 0
Begins = (setup : Setup) (told : Told) (t : ℕ) → IsCourse setup t (first_phase setup told t) new_course (local_at_start setup told t)

-- ---- messages come

-- with these messages last in the thread's queue
abbrev pub with_arrived : ℕ → List Message → (ℕ → List Message) → ℕ → List Message
with_arrived t ms queues r = cond (r == t) (queues r ++ ms) (queues r)

abbrev pub with_queues : Local → (ℕ → List Message) → Local
with_queues l queues = record l { shared = record l.shared { queues = queues } }

abbrev pub arrived_more : Course → List Post → ℕ → Course
arrived_more c posts last = record c { arrived = c.arrived ++ posts; taken = c.taken ++ posts; last = last }

-- posts of threads that exist come out of the ring, with stamps that the log meets
abbrev pub Arrives : Type 0
Arrives = (setup : Setup) (t : ℕ) (p : Phase) (c : Course) (l : Local) (posts : List Post) (last : ℕ)
    → c.last ≤ last → AllByRecursion (λ m. m.stamp ≤ last) posts → AllByRecursion (λ m. m.message.sender < setup.threads) posts → IsCourse setup t p c l
    → IsCourse setup t p (arrived_more c posts last) (with_queues l (with_arrived t (map message_of posts) l.shared.queues))

-- the log meets a stamp
abbrev pub Meets : Type 0
Meets = (setup : Setup) (t : ℕ) (p : Phase) (c : Course) (l : Local) (last : ℕ) → c.last ≤ last → IsCourse setup t p c l → IsCourse setup t p (record c { last = last }) l

-- ---- the thread acts

-- the course has these entries more
pub record IsLonger (t : ℕ) (c : Course) (added : List Entry) (c' : Course) : Type 0 where
  pub rows : entries c'.rows ≡ entries c.rows ++ added
  pub taken : c'.taken ≡ c.taken
  pub sent : c'.sent ≡ c.sent
  pub seen : c'.seen ≡ c.seen ++ events added
  pub last : c'.last ≡ c.last + length added

-- entries of the thread led from the one to the other; in the course they have its log's next stamps
pub record GoesOn (setup : Setup) (t : ℕ) (p : Phase) (c : Course) (es : List Entry) (l l' : Local) : Type 0 where
  pub course : Course
  pub longer : IsLonger t c (restamped t c.last (acts_of es)) course
  pub served : (dev : DevId) → course.served dev ≡ c.served dev ++ served_led setup t dev l es
  pub held : course.held ≡ c.held ++ held_led setup t l es
  pub is_course : IsCourse setup t p course l'

-- what the thread did by the local rules, with its log's next stamps
abbrev pub ActsOn : Type 0
ActsOn = (setup : Setup) (t : ℕ) (p : Phase) (c : Course) (l l' : Local) (es : List Entry) → Leads setup t l es l' → IsCourse setup t p c l → GoesOn setup t p c es l l'

-- the stamp of the last entry doesn't matter
abbrev pub AnyStamp : Type 0
AnyStamp = (setup : Setup) (t : ℕ) (p : Phase) (c : Course) (l : Local) (stamp : ℕ) → IsCourse setup t p c l → IsCourse setup t p c (record l { shared = record l.shared { stamp = stamp } })

-- ---- messages go

abbrev pub sent_more : Course → (ℕ → List Post) → Course
sent_more c posts = record c { sent = λ r. c.sent r ++ posts r }

-- the first messages to a thread went into its ring, with the last stamp, and these are left
pub record Goes (last : ℕ) (posts : List Post) (before after : List Message) : Type 0 where
  pub queue_is : map message_of posts ++ after ≡ before
  pub stamped : AllByRecursion (λ m. m.stamp ≡ last) posts

abbrev pub GoesOut : Type 0
GoesOut = (setup : Setup) (t : ℕ) (p : Phase) (c : Course) (l : Local) (posts : ℕ → List Post) (queues : ℕ → List Message)
    → posts t ≡ [] → queues t ≡ l.shared.queues t → ((r : ℕ) → r ≢ t → Goes c.last (posts r) (l.shared.queues r) (queues r)) → IsCourse setup t p c l
    → IsCourse setup t p (sent_more c posts) (with_queues l queues)

-- ---- the registry

-- what the thread sees of its handles and channels is what this registry has
pub record SeesOwn (t : ℕ) (l : Local) : Type 0 where
  pub handles : l.view.handles ≡ filter (is_of t) l.shared.registry.handles
  pub channels : l.view.channels ≡ references l.shared.registry t

-- with another registry, of which it sees its handles and channels
abbrev pub with_registry : ℕ → Registry → Local → Local
with_registry t registry l = record {
  view = record l.view { handles = filter (is_of t) registry.handles; channels = references registry t };
  shared = record l.shared { registry = registry };
}

-- the thread's registry follows rows of other threads
abbrev pub CatchesUp : Type 0
CatchesUp = (setup : Setup) (t : ℕ) (p : Phase) (c : Course) (l : Local) (added : List Entry) → SeesOwn t l → entries_of t added ≡ [] → IsCourse setup t p c l
    → IsCourse setup t p (record c { seen = c.seen ++ added }) (with_registry t (registry_by setup (registry_at_start setup) (c.seen ++ added)) l)

-- ---- the Shutdown

-- after the Shutdown with this stamp
abbrev pub second_phase : ℕ → ℕ → Phase → Course → Local → Phase
second_phase stamp t p c l = record { earlier = all_rows p c ++ shutdown_of stamp t; served = c.served; held = c.held; from = l.view; since = stamp }

abbrev pub course_then : ℕ → ℕ → Course → Course
course_then stamp t c = record c { rows = []; seen = cond (t == 0) (c.seen ++ shutdown_at stamp ∷ []) c.seen; last = stamp }

abbrev pub with_shutdown : Local → Local
with_shutdown l = record l { shared = record l.shared { shut = true } }

-- a stamp above all of the thread's is met, and thread 0 has the row of the Shutdown
abbrev pub ShutsDown : Type 0
ShutsDown = (setup : Setup) (t : ℕ) (p : Phase) (c : Course) (l : Local) (stamp : ℕ) → c.last < stamp → IsCourse setup t p c l
    → IsCourse setup t (second_phase stamp t p c l) (course_then stamp t c) (with_shutdown l)
