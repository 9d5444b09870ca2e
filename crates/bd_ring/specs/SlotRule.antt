-- The rule of a slot: the value is in the slot or with one pass, and of each thread its journal has the rows that the thread's pass made.
use Rattle.std.specs.Prelude.{◌≡◌, ◌≢◌, ◌==◌, ℕ, ◌+◌, ◌<◌, ◌≤◌, true, false, Option, Some, None, List, [], ◌∷◌, ◌++◌, All, length, filter, drop, slice_index_or}
use mathlib.Core.Option.{some}
use lib.ListN.{get_elem?}
use Rattle.bd_base.specs.declared.act.Entry.{Entry}
use Rattle.bd_base.specs.declared.journal.Start.{Start}
use Rattle.bd_ring.specs.declared.slot_rule.SlotView.{SlotView}

-- a journal's rows of one thread, in their order
abbrev pub rows_of : ℕ → List Entry → List Entry
rows_of thread rows = filter (λ r. r.thread == thread) rows

abbrev pub StartsWith : List Entry → List Entry → Type 0
StartsWith rows prefix = (rest : List Entry) × (rows ≡ prefix ++ rest)

-- the journal begins with each of these
abbrev pub BeginsWithEach : List Entry → List (List Entry) → Type 0
BeginsWithEach journal prefixes = (k : ℕ) → k < length prefixes → StartsWith journal (slice_index_or prefixes k [])

-- the rows after the earlier journal are of this thread alone
abbrev pub AddsOwn : ℕ → List Entry → List Entry → Type 0
AddsOwn thread before after = (rows : List Entry) × (after ≡ before ++ rows) × All (λ r. r.thread ≡ thread) rows

-- a start from which nothing begins
abbrev pub no_start : Start
no_start = record { threads = 0; devices = []; rates = []; injections = [] }

-- the leading pass, which has the value before the slot does
abbrev pub newcomer : SlotView
newcomer = record { serves = true; leads = true; opened = false; holds = true; thread = 0; made = 1; start = no_start; seen = []; wrote = []; ended = []; viewed = [] }

-- the leading pass, once the value is in the slot
abbrev pub opened_at : Start → SlotView
opened_at start = record { serves = true; leads = true; opened = true; holds = false; thread = 0; made = 1; start = start; seen = []; wrote = []; ended = []; viewed = [] }

-- the new pass of another thread
abbrev pub server : ℕ → Start → SlotView
server thread start = record { serves = true; leads = false; opened = true; holds = false; thread = thread; made = 0; start = start; seen = []; wrote = []; ended = []; viewed = [] }

-- the pass of a thread that has ended
abbrev pub nobody : SlotView
nobody = record { serves = false; leads = false; opened = false; holds = false; thread = 0; made = 0; start = no_start; seen = []; wrote = []; ended = []; viewed = [] }

abbrev pub one_more : SlotView → SlotView
one_more v = record v { made = v.made + 1 }

abbrev pub with_ended : SlotView → SlotView → SlotView
with_ended v u = record v { ended = v.ended ++ u.wrote ∷ []; viewed = v.viewed ++ u.seen ∷ [] }

abbrev pub after_give : SlotView → List Entry → SlotView
after_give v journal = record v { holds = false; seen = journal; wrote = v.wrote ++ drop (length v.seen) journal }

abbrev pub after_take : SlotView → List Entry → SlotView
after_take v journal = record v { holds = true; seen = journal }

-- the value that was taken has this journal and this start
abbrev pub IsTaken : SlotView → List Entry → Start → SlotView → Type 0
IsTaken v journal start w = (w ≡ after_take v journal) × StartsWith journal v.seen × (rows_of v.thread journal ≡ v.wrote) × (start ≡ v.start)

-- the pass of another thread had the value, whose journal when it was last in the slot is now
abbrev pub IsAway : SlotView → Type 0
IsAway v = (other : ℕ) × (other ≢ v.thread) × (v.leads ≡ true → other < v.made) × ((now : List Entry) × StartsWith now v.seen × (rows_of v.thread now ≡ v.wrote))

-- the value that was taken last has this journal and this start
abbrev pub IsLast : SlotView → List Entry → Start → Type 0
IsLast v journal start =
    (start ≡ v.start) × (rows_of 0 journal ≡ v.wrote)
    × ((k : ℕ) → k < length v.ended → slice_index_or v.ended k [] ≡ rows_of (k + 1) journal)
    × ((k : ℕ) → v.made ≤ k → rows_of k journal ≡ [])
    × BeginsWithEach journal (v.seen ∷ v.viewed)

-- the pass of thread n is pass n, and has not ended; the journal begins with what it last saw, and has of its thread what it made
abbrev pub FitsServer : Start → List Entry → ℕ → ℕ → SlotView → Type 0
FitsServer start now ended pass v =
    v.serves ≡ true → (pass ≡ v.thread) × (v.thread ≢ 0 → ended < v.thread) × StartsWith now v.seen × (rows_of v.thread now ≡ v.wrote) × (v.opened ≡ true → v.start ≡ start)

-- the leading pass is that of thread 0, and knows how many there are, what the ended ones made, and what they last saw
abbrev pub FitsLeader : ℕ → List Entry → List (List Entry) → ℕ → SlotView → Type 0
FitsLeader passes now ended pass v = v.leads ≡ true → (pass ≡ 0) × (v.serves ≡ true) × (v.made ≡ passes) × (v.ended ≡ ended) × BeginsWithEach now v.viewed

-- a pass that has the value is the one that has it
abbrev pub FitsHolder : List Entry → Option ℕ → ℕ → SlotView → Type 0
FitsHolder now holder pass v = v.holds ≡ true → (holder ≡ Some pass) × (v.serves ≡ true) × (v.seen ≡ now)

abbrev pub Fits : ℕ → Start → List Entry → List (List Entry) → Option ℕ → ℕ → SlotView → Type 0
Fits passes start now ended holder pass v = FitsServer start now (length ended) pass v × FitsLeader passes now ended pass v × FitsHolder now holder pass v

module _ {R : Type 0} (journal : R → List Entry) (begins : R → Start) where
  -- in the slot, or with this pass
  abbrev pub Whereabouts : Start → List Entry → Option ℕ → List R → List SlotView → Type 0
  Whereabouts start now None items views = (x : R) × (items ≡ x ∷ []) × (journal x ≡ now) × (begins x ≡ start)
  Whereabouts start now (Some h) items views = (items ≡ []) × ((v : SlotView) × (get_elem? views h ≡ some v) × (v.holds ≡ true))

  abbrev pub SlotRules : Start → List Entry → List (List Entry) → Option ℕ → List R → List SlotView → Type 0
  SlotRules start now ended holder items views =
      Whereabouts start now holder items views
      × ((k : ℕ) → k < length ended → slice_index_or ended k [] ≡ rows_of (k + 1) now)
      × ((k : ℕ) → length views ≤ k → rows_of k now ≡ [])
      × ((pass : ℕ) (v : SlotView) → get_elem? views pass ≡ some v → Fits (length views) start now ended holder pass v)

  abbrev pub SlotRule : List R → List SlotView → Type 0
  SlotRule items views = (start : Start) × (now : List Entry) × (ended : List (List Entry)) × (holder : Option ℕ) × SlotRules start now ended holder items views
