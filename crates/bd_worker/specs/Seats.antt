-- Seats: each thread with what it has for itself and its passes, and when it is on its course.
use Rattle.std.specs.Prelude.{◌≡◌, ℕ, ◌+◌, ◌<◌, ◌≤◌, ◌++◌, Bool, true, false, List, [], length, vec_len, slice_index_or, Option, Some, None, ◌⊎◌}
use Rattle.std.specs.List.{AllByRecursion}
use Rattle.bd_base.specs.declared.act.Entry.{Entry}
use Rattle.bd_base.specs.declared.id.DevId.{DevId}
use Rattle.bd_base.specs.declared.setup.Setup.{Setup}
use Rattle.bd_disks.specs.Rows.{places}
use Rattle.bd_log.specs.Log.{log_part, IsWithin}
use Rattle.bd_log.specs.Merge.{entries_of, Part}
use Rattle.bd_machine.specs.declared.state.Content.{Content}
use Rattle.bd_machine.specs.Start.{registry_at_start}
use Rattle.bd_outside.specs.Clock.{IsWithin as IsWithinClock, Moments}
use Rattle.bd_outside.specs.Disk.{DiskState}
use Rattle.bd_registry.specs.State.{Registered, rows_of, start_of}
use Rattle.bd_law_logs.specs.Rows.{entries}
use Rattle.bd_law_logs.specs.Journals.{registry_by}
use Rattle.bd_ring.specs.SlotRule.{AddsOwn, StartsWith}
use Rattle.bd_law_served.specs.Served.{ServedPiece}
use Rattle.bd_law_held.specs.Held.{EndInTime}
use Rattle.bd_law_threads.specs.Course.{all_rows, Course, IsCourse, Phase}
use Rattle.bd_disks.specs.Contents.{contents_of}
use Rattle.bd_disks.specs.Done.{AreDoneBy}
use Rattle.bd_seat.specs.declared.seat_error.SeatError.{SeatError}
use Rattle.bd_seat.specs.declared.seat_error.SeatError.TheVariants.{OutOfMemory, StampsSpent}
use Rattle.bd_thread.specs.Looking.{KeepsOwn}
use Rattle.bd_thread.specs.declared.turn.Turned.{Turned}
use Rattle.bd_thread.specs.declared.turn.Turned.TheVariants.{Moved, Quiet}
use Rattle.bd_thread.specs.Seen.{local, number_of, setup_of, time_of}
use Rattle.bd_thread.specs.Timely.{HasSameTime, IsOnTime}
use Rattle.bd_law_disks.specs.Told.{told_local, AreBasesLowest, IsOnce}
use Rattle.bd_turns.specs.Local.{Local}
use Rattle.bd_wires.specs.declared.wires.Wires.{Wires}
use Rattle.bd_wires.specs.Wires.{put_into, IsLinked}
use Rattle.bd_worker.specs.declared.seat.Seat.{Seat}
use Rattle.bd_worker.specs.declared.worker.Worker.{Worker}

-- ---- what was handed out

-- what was handed out of a thread's log so far, and a stamp that all its later entries are above
pub record Past : Type 0 where
  pub entries : List Entry
  pub met : ℕ

-- ---- its disks

-- the disks did further pieces, and the second course says which, behind those of the first
pub record AddsServed {D : Type 0} (state : D → DiskState) (setup : Setup) (c c' : Course) (old new : List (DevId × D)) : Type 0 where
  pub more : DevId → List ServedPiece
  pub served : (dev : DevId) → c'.served dev ≡ c.served dev ++ more dev
  pub done : AreDoneBy state setup more old new

-- ---- a worker

-- what its thread sees and has for itself, where its disks hold this
abbrev pub seen_over : Setup → (DevId → Content) → Worker → Local
seen_over setup contents w = told_local setup contents (local w.thread w.links)

-- thread t of the setup, with its links and its log, of which this was handed out, is at this place of its course, where its disks hold this
pub record IsAt (setup : Setup) (t : ℕ) (p : Phase) (c : Course) (past : Past) (contents : DevId → Content) (w : Worker) : Type 0 where
  pub me : w.me ≡ t
  pub number : number_of w.thread ≡ t
  pub given : setup_of w.thread ≡ setup
  pub within : t < setup.threads
  pub tickets : KeepsOwn w.thread
  pub queues : vec_len w.links.queues ≡ setup.threads
  pub rows : w.links.registry.setup ≡ rows_of setup
  -- what a turn did is in the log alone
  pub empty : w.links.entries ≡ []
  pub log_thread : w.log.thread ≡ t
  pub log_entries : past.entries ++ w.log.entries ≡ entries (all_rows p c)
  pub log_last : w.log.last ≡ c.last
  pub later : AllByRecursion (λ x. past.met < x.stamp) w.log.entries
  pub met : past.met ≤ w.log.last
  -- the moments and timeslices of all that it did are those of its turns
  pub times : IsOnTime w.thread (past.entries ++ w.log.entries)
  -- what it held, as it saw it, ends in time from its last turn on
  pub held : EndInTime setup (time_of w.thread).moment c.held
  -- each device has one base at most, and the registry is what the journal leaves of which it saw the rows
  pub once : (dev : DevId) → IsOnce dev w.thread.part.bases
  pub replica : w.links.registry.state ≡ registry_by setup (registry_at_start setup) c.seen
  -- where base devices stand on nothing
  pub course : AreBasesLowest setup → IsCourse setup t p c (seen_over setup contents w)

-- it is at some place of its course
pub record IsWorking (w : Worker) : Type 0 where
  pub setup : Setup
  pub t : ℕ
  pub p : Phase
  pub c : Course
  pub past : Past
  pub contents : DevId → Content
  pub at : IsAt setup t p c past contents w

-- the same messages came and went
pub record HasSamePosts (c c' : Course) : Type 0 where
  pub taken : c'.taken ≡ c.taken
  pub sent : c'.sent ≡ c.sent

-- without the registry: wherever it was on its course, it is further on it, and its disks, which were the first before and are the second after,
-- did what the course says
pub record WentAlone {D : Type 0} (state : D → DiskState) (setup : Setup) (t : ℕ) (p : Phase) (c : Course) (past : Past) (before after : List (DevId × D)) (new : Worker) : Type 0 where
  pub course : Course
  pub at : IsAt setup t p course past (contents_of state after) new
  pub posts : HasSamePosts c course
  pub seen : course.seen ≡ c.seen
  pub did : AddsServed state setup c course before after

abbrev pub GoesAlone : {D : Type 0} → (D → DiskState) → List (DevId × D) → List (DevId × D) → Worker → Worker → Type 0
GoesAlone state before after old new =
    (new.links.shut ≡ old.links.shut)
    × ((setup : Setup) (t : ℕ) (p : Phase) (c : Course) (past : Past) → IsAt setup t p c past (contents_of state before) old
    → WentAlone state setup t p c past before after new)

-- ---- what an answer tells

-- quiet where no entry was added, else how many were
abbrev pub Tells : ℕ → ℕ → Turned → Type 0
Tells before after Quiet = after ≡ before
Tells before after (Moved n) = (0 < n) × (after ≡ before + n)

-- without an answer none was
abbrev pub TellsIfAny : ℕ → ℕ → Option Turned → Type 0
TellsIfAny before after None = after ≡ before
TellsIfAny before after (Some turned) = Tells before after turned

-- true exactly where entries were added, and none was lost
abbrev pub HasMoved : ℕ → ℕ → Bool → Type 0
HasMoved before after true = before < after
HasMoved before after false = after ≡ before

abbrev pub has_moved : Turned → Bool
has_moved Quiet = false
has_moved (Moved n) = true

-- how many entries a worker's log has
abbrev pub made_in : Worker → ℕ
made_in w = length w.log.entries

-- ---- with the registry

-- the registry that it is lent is the setup's, its journal begins with what the thread saw, and has no other row of the thread
pub record IsLent (setup : Setup) (t : ℕ) (c : Course) (seen : ℕ) (lent : Registered) : Type 0 where
  pub start : start_of lent.setup ≡ start_of setup
  pub begins : StartsWith lent.journal c.seen
  pub own : entries_of t lent.journal ≡ entries_of t c.seen
  pub count : seen ≡ length c.seen

pub record IsLentTo (w : Worker) (seen : ℕ) (lent : Registered) : Type 0 where
  pub setup : Setup
  pub t : ℕ
  pub p : Phase
  pub c : Course
  pub past : Past
  pub contents : DevId → Content
  pub at : IsAt setup t p c past contents w
  pub lent_is : IsLent setup t c seen lent

-- it saw the registry's journal to its end, in which it put rows of its own alone, and its disks did what its course says
pub record WentWith {D : Type 0} (state : D → DiskState) (setup : Setup) (t : ℕ) (p : Phase) (c : Course) (past : Past) (before after : List (DevId × D)) (lent : Registered) (new : Worker) (lent' : Registered) : Type 0 where
  pub course : Course
  pub at : IsAt setup t p course past (contents_of state after) new
  pub posts : HasSamePosts c course
  pub seen : course.seen ≡ lent'.journal
  pub adds : AddsOwn t lent.journal lent'.journal
  pub start : start_of lent'.setup ≡ start_of lent.setup
  pub did : AddsServed state setup c course before after

abbrev pub GoesWith : {D : Type 0} → (D → DiskState) → List (DevId × D) → List (DevId × D) → ℕ → Worker → Registered → Worker → Registered → Type 0
GoesWith state before after seen old lent new lent' =
    (new.links.shut ≡ old.links.shut)
    × ((setup : Setup) (t : ℕ) (p : Phase) (c : Course) (past : Past) → IsAt setup t p c past (contents_of state before) old → IsLent setup t c seen lent
    → WentWith state setup t p c past before after lent new lent')

-- ---- a seat

-- what its thread did
abbrev pub entries_in : {D : Type 0} → Seat D → List Entry
entries_in s = s.worker.log.entries

-- how many entries that is
abbrev pub made_by : {D : Type 0} → Seat D → ℕ
made_by s = made_in s.worker

-- it did nothing
abbrev pub HasSameEntries : {D : Type 0} → Seat D → Seat D → Type 0
HasSameEntries old new = entries_in new ≡ entries_in old

-- thread t of the setup sits with its passes for these wires, at this place of its course; this was handed out of its log; these were its disks at
-- their opening, and they did just the pieces that the course says
pub record IsSeat {D : Type 0} (state : D → DiskState) (setup : Setup) (t : ℕ) (p : Phase) (c : Course) (past : Past) (w : Wires) (opened : List (DevId × D)) (s : Seat D) : Type 0 where
  pub worker : IsAt setup t p c past (contents_of state s.disks) s.worker
  pub linked : IsLinked setup.threads w t s.passes
  pub start : s.passes.slot.start ≡ start_of setup
  pub taken : s.passes.take.taken ≡ c.taken
  pub sent : (r : ℕ) → put_into s.passes r ≡ c.sent r
  pub seen : s.passes.slot.seen ≡ c.seen
  pub wrote : s.passes.slot.wrote ≡ entries_of t c.seen
  pub count : s.seen ≡ length c.seen
  pub done : AreDoneBy state setup c.served opened s.disks

-- thread t of the setup sits, in this phase of its course
pub record Sits {D : Type 0} (state : D → DiskState) (setup : Setup) (t : ℕ) (p : Phase) (past : Past) (w : Wires) (opened : List (DevId × D)) (s : Seat D) : Type 0 where
  pub course : Course
  pub seat : IsSeat state setup t p course past w opened s

-- the number of the thread that it says it is
abbrev pub number_in : {D : Type 0} → Seat D → ℕ
number_in s = s.worker.me

-- some thread sits, in some phase, whatever was handed out of its log, and whatever its disks were at their opening
pub record IsSitting {D : Type 0} (state : D → DiskState) (w : Wires) (s : Seat D) : Type 0 where
  pub setup : Setup
  pub t : ℕ
  pub p : Phase
  pub past : Past
  pub opened : List (DevId × D)
  pub sits : Sits state setup t p past w opened s

-- it sits, unless it has to halt
abbrev pub SitsOrHalts : {D : Type 0} → (D → DiskState) → Wires → Seat D → Type 0
SitsOrHalts state w s = s.halted ≡ None → IsSitting state w s

-- its thread's time is as before, but for when the next line was met
abbrev pub SeatHasSameTime : {D : Type 0} → Seat D → Seat D → Type 0
SeatHasSameTime old new = HasSameTime old.worker.thread new.worker.thread

-- the moments of a thread's first turn and of its last lie between those that a clock tells, if it tells them; before any turn there is none
abbrev pub AreTimesWithin : Option Moments → Bool → ℕ → ℕ → Type 0
AreTimesWithin range true start moment = IsWithinClock range start × IsWithinClock range moment
AreTimesWithin range false start moment = moment ≡ 0

abbrev pub HasTimesWithin : {D : Type 0} → Option Moments → Seat D → Type 0
HasTimesWithin range s = AreTimesWithin range (time_of s.worker.thread).given (time_of s.worker.thread).start (time_of s.worker.thread).moment

-- whoever sat there, whatever was handed out and whatever its disks were at their opening, sits there still, further on its course
pub record Continues {D : Type 0} (state : D → DiskState) (w : Wires) (old new : Seat D) : Type 0 where
  pub flag : new.worker.links.shut ≡ old.worker.links.shut
  pub halted : new.halted ≡ old.halted
  pub sits : (setup : Setup) (t : ℕ) (p : Phase) (past : Past) (opened : List (DevId × D)) → Sits state setup t p past w opened old
      → Sits state setup t p past w opened new

-- whichever the wires
abbrev pub KeepsOn : {D : Type 0} → (D → DiskState) → Seat D → Seat D → Type 0
KeepsOn state old new = (w : Wires) → Continues state w old new

-- the same disks are there, whatever they hold
abbrev pub HasSameDisks : {D : Type 0} → (D → DiskState) → Seat D → Seat D → Type 0
HasSameDisks state old new = places state new.disks ≡ places state old.disks

-- ---- why it has to halt

-- there was no memory, or no stamp is left, in its log or in the journal of its replica
abbrev pub HasCause : SeatError → Worker → Type 0
HasCause OutOfMemory w = Unit {0}
HasCause StampsSpent w = (w.log.last ≡ 340282366920938463463374607431768211455) ⊎ (w.links.registry.last ≡ 340282366920938463463374607431768211455)

-- the same disks are there however it went, and it went on, at moments that a clock may tell, and lost nothing, unless it has to halt; then for a
-- cause, and from then on nothing changes
pub record WentOn {D : Type 0} (state : D → DiskState) (w : Wires) (range : Option Moments) (old new : Seat D) : Type 0 where
  pub kept : HasSameDisks state old new
  pub on : new.halted ≡ None → Continues state w old new
  pub times : new.halted ≡ None → HasTimesWithin range old → HasTimesWithin range new
  pub grows : new.halted ≡ None → made_by old ≤ made_by new
  pub cause : (error : SeatError) → old.halted ≡ None → new.halted ≡ Some error → HasCause error new.worker
  pub stays : (error : SeatError) → old.halted ≡ Some error → new ≡ old

abbrev pub AllWentOn : {D : Type 0} → (D → DiskState) → Wires → Option Moments → List (Seat D) → List (Seat D) → Type 0
AllWentOn {D} state w range old new = (i : ℕ) (d : Seat D) → i < length old → WentOn state w range (slice_index_or old i d) (slice_index_or new i d)

-- ---- what is handed out

-- what is in a seat's log
abbrev pub part_in : {D : Type 0} → Seat D → Part
part_in s = log_part s.worker.log

-- what was in its log is gone from it, and had no stamp above this one, which the log met
pub record IsHandedOut {D : Type 0} (stamp : ℕ) (old new : Seat D) : Type 0 where
  pub is : new ≡ record old { worker = record old.worker { log = record old.worker.log { entries = []; last = stamp; capacity = new.worker.log.capacity } } }
  pub within : IsWithin stamp (entries_in old)
