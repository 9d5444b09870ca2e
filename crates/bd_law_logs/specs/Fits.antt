-- When the logs of threads fit together: what one thread took is what the other put, and the registry's journal is in the logs.
use Rattle.std.specs.Prelude.{◌≡◌, ℕ, ◌+◌, ◌<◌, true, cond, ◌==◌, List, [], ◌∷◌, ◌++◌, filter, map, Option, Some, None, is_some}
use Rattle.std.specs.List.{AllByRecursion}
use Rattle.bd_base.specs.declared.act.Act.{Act}
use Rattle.bd_base.specs.declared.act.Act.TheVariants as acts
use Rattle.bd_base.specs.declared.act.Entry.{Entry}
use Rattle.bd_base.specs.declared.setup.Setup.{Setup}
use Rattle.bd_machine.specs.declared.state.Between.{Between}
use Rattle.bd_machine.specs.declared.state.Registry.{Registry}
use Rattle.bd_machine.specs.Changes.{between_after}
use Rattle.bd_machine.specs.Registry.{Question}
use Rattle.bd_machine.specs.View.{asked}
use Rattle.bd_turns.specs.declared.queue.Post.{Post}
use Rattle.bd_log.specs.Merge.{IsOrdered, entries_of}
use Rattle.bd_law_logs.specs.Rows.{Row, posts, entries}
use Rattle.bd_law_logs.specs.Journals.{is_event, events, registry_by, IsReplay, before, IsBetweenIfAny, Event}

-- ---- messages

abbrev pub sent_in : ℕ → Act → List Post → List Post
sent_in to (acts.Put receiver number what) ps = cond (receiver == to) ps []
sent_in to _ ps = []

abbrev pub taken_in : ℕ → Act → List Post → List Post
taken_in from (acts.Took source number what) ps = cond (source == from) ps []
taken_in from _ ps = []

-- what a log put to a thread, in order
abbrev pub sent : ℕ → List Row → List Post
sent to [] = []
sent to (r ∷ rs) = sent_in to r.entry.act (posts r.post) ++ sent to rs

-- what a log took from a thread, in order
abbrev pub taken : ℕ → List Row → List Post
taken from [] = []
taken from (r ∷ rs) = taken_in from r.entry.act (posts r.post) ++ taken from rs

abbrev pub IsPrefixOf : {X : Type 0} → List X → List X → Type 0
IsPrefixOf {X} xs ys = (rest : List X) × (xs ++ rest ≡ ys)

-- a message that is put has its entry's stamp, and one that is taken a lower stamp than the entry
abbrev pub IsStampedBy : ℕ → Act → List Post → Type 0
IsStampedBy stamp (acts.Put to number what) ps = AllByRecursion (λ p. p.stamp ≡ stamp) ps
IsStampedBy stamp (acts.Took source number what) ps = AllByRecursion (λ p. p.stamp < stamp) ps
IsStampedBy stamp _ ps = Unit {0}

abbrev pub IsStamped : Row → Type 0
IsStamped r = IsStampedBy r.entry.stamp r.entry.act (posts r.post)

-- a message is put only to one of these threads
abbrev pub GoesWithin : ℕ → Act → Type 0
GoesWithin threads (acts.Put to number what) = to < threads
GoesWithin threads _ = Unit {0}

-- ---- the registry

-- where the row asks the registry, what has to follow there is what the row names
abbrev pub Finds : Registry → Row → Type 0
Finds registry r = IsBetweenIfAny registry r.between (asked r.entry.act)

-- the row finds so in the registry that the journal's entries before it leave
abbrev pub FindsAt : Setup → Registry → List Entry → Row → Type 0
FindsAt setup registry journal r = Finds (registry_by setup registry (before r.entry journal)) r

abbrev pub event_of : Row → Event
event_of r = record { entry = r.entry; between = r.between }

-- the events of a log, each with what it names as what had to follow
abbrev pub events_in : List Row → List Event
events_in rows = map event_of (filter (λ r. is_event r.entry) rows)

-- ---- what had to follow, by a thread's own entries

-- what has to follow after an entry of a thread: what an event leaves; an entry that asks nothing leaves what had to follow before it
abbrev pub between_by : ℕ → Option Between → Option Question → Option Between
between_by t between None = between
between_by t between (Some q) = between_after t q.event q.answer

abbrev pub between_next : Option Between → Row → Option Between
between_next between r = between_by r.entry.thread between (asked r.entry.act)

abbrev pub IsNamedIfAny : Option Between → Option Between → Option Question → Type 0
IsNamedIfAny between named None = Unit {0}
IsNamedIfAny between named (Some q) = named ≡ between

-- where something has to follow after a row with this stamp, the next row asks the registry, with the stamp one above
abbrev pub IsAskedNext : Option Between → ℕ → List Row → Type 0
IsAskedNext None stamp rows = Unit {0}
IsAskedNext (Some between) stamp [] = ⊥
IsAskedNext (Some between) stamp (r ∷ rs) = (r.entry.stamp ≡ stamp + 1) × (is_some (asked r.entry.act) ≡ true)

-- each row that asks names what the thread's own entries before it left to follow, and it is asked next
abbrev pub IsOwnFollowed : Option Between → List Row → Type 0
IsOwnFollowed between [] = Unit {0}
IsOwnFollowed between (r ∷ rs) =
    IsNamedIfAny between r.between (asked r.entry.act) × IsAskedNext (between_next between r) r.entry.stamp rs × IsOwnFollowed (between_next between r) rs

-- ---- logs

-- logs by the number of their thread fit together, with the registry's journal from this registry on
pub record Fits (setup : Setup) (registry : Registry) (logs : ℕ → List Row) (journal : List Entry) : Type 0 where
  -- what t took from s is a prefix of what s put to t, message by message and stamp by stamp
  pub messages : (s t : ℕ) → IsPrefixOf (taken s (logs t)) (sent t (logs s))
  -- messages have the stamps of their Puts, and are taken by entries with higher ones
  pub stamped : (t : ℕ) → AllByRecursion IsStamped (logs t)
  -- messages are put only to threads that exist
  pub goes : (t : ℕ) → AllByRecursion (λ r. GoesWithin setup.threads r.entry.act) (logs t)
  -- the journal is in order, has of each thread the events of its log, and names the answers that the registry gives
  pub journal_ordered : IsOrdered journal
  pub journal_rows : (t : ℕ) → entries_of t journal ≡ events (entries (logs t))
  pub replay : IsReplay setup registry journal
  -- a row that asks the registry names what had to follow there
  pub finds : (t : ℕ) → AllByRecursion (FindsAt setup registry journal) (logs t)

-- ---- their merge

-- the merged entries are in order by stamp and thread, and those of each thread are its log
pub record IsMergeOf (logs : ℕ → List Row) (merged : List Entry) : Type 0 where
  pub ordered : IsOrdered merged
  pub parts : (t : ℕ) → entries_of t merged ≡ entries (logs t)
