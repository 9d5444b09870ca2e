-- A node: when all its seats are on their courses, and how far it is.
use Rattle.std.specs.Prelude.{◌≡◌, ℕ, ◌+◌, ◌<◌, ◌≤◌, ◌==◌, Bool, true, false, cond, ◌&&◌, ◌++◌, List, [], length, map, sum_by, slice_get, Option, Some, None, is_none, not}
use Rattle.std.specs.List.{list_all, AllByRecursion}
use Rattle.bd_base.specs.declared.act.Entry.{Entry}
use Rattle.bd_base.specs.declared.id.DevId.{DevId}
use Rattle.bd_base.specs.declared.setup.Setup.{Setup}
use Rattle.bd_disks.specs.Shelf.{AreAllThere}
use Rattle.bd_log.specs.Log.{IsWithin}
use Rattle.bd_log.specs.Merge.{entries_of, IsOrdered, Part}
use Rattle.bd_machine.specs.Content.{Told}
use Rattle.bd_machine.specs.Messages.{count_at}
use Rattle.bd_machine.specs.View.{View}
use Rattle.bd_law_logs.specs.Rows.{Row}
use Rattle.bd_outside.specs.Disk.{DiskState}
use Rattle.bd_law_threads.specs.Course.{Phase}
use Rattle.bd_law_threads.specs.Ends.{phase_after, AreMarked}
use Rattle.bd_law_threads.specs.Steps.{first_phase}
use Rattle.bd_thread.specs.Resting.{has_destructed_all, is_blocked, is_done, rests}
use Rattle.bd_seat.specs.declared.seat_error.SeatError.{SeatError}
use Rattle.bd_seat.specs.declared.seat_error.SeatError.TheVariants.{OutOfMemory, StampsSpent}
use Rattle.bd_law_disks.specs.Told.{AreBasesLowest}
use Rattle.bd_wires.specs.declared.wires.Wires.{Wires}
use Rattle.bd_node.specs.declared.node.Node.{Node}
use Rattle.bd_node.specs.declared.node.NodeState.{NodeState}
use Rattle.bd_node.specs.declared.node.NodeState.TheVariants.{Idle, Done, Busy}
use Rattle.bd_worker.specs.declared.seat.Seat.{Seat}
use Rattle.bd_node.specs.Disks.{disks_at, disks_of, told_of}
use Rattle.bd_worker.specs.Seats.{entries_in, made_by, Past, Sits}
use Rattle.bd_report.specs.Counter.{HasCounted}

-- ---- all seats

-- thread i sits in its phase, knows whether the Shutdown came, and doesn't halt
pub record IsIn {D : Type 0} (state : D → DiskState) (setup : Setup) (w : Wires) (starts : List (List (DevId × D))) (pasts : ℕ → Past) (shut : Bool) (phases : ℕ → Phase) (i : ℕ) (s : Seat D) : Type 0 where
  pub sits : Sits state setup i (phases i) (pasts i) w (disks_at starts i) s
  pub flag : s.worker.links.shut ≡ shut
  pub goes : s.halted ≡ None

-- each thread of the setup sits at its place, where these were the disks of the threads at their opening, in order, and this was handed out of their logs
pub record AreSeated {D : Type 0} (state : D → DiskState) (setup : Setup) (w : Wires) (starts : List (List (DevId × D))) (pasts : ℕ → Past) (seats : List (Seat D)) (shut : Bool) (phases : ℕ → Phase) : Type 0 where
  pub some : 0 < setup.threads
  pub len : length seats ≡ setup.threads
  pub each : (i : ℕ) (s : Seat D) → slice_get seats i ≡ Some s → IsIn state setup w starts pasts shut phases i s

-- ---- their phases

-- a Shutdown came with this stamp, when all rested
pub record AreShut (setup : Setup) (told : Told) (phases : ℕ → Phase) : Type 0 where
  pub stamp : ℕ
  pub firsts : ℕ → List Row
  pub marks : ℕ → View
  pub none_first : (t : ℕ) → setup.threads ≤ t → firsts t ≡ []
  -- where base devices stand on nothing
  pub marked : AreBasesLowest setup → AreMarked setup told stamp firsts marks
  pub phases_are : AreBasesLowest setup → (t : ℕ) → phases t ≡ phase_after setup told stamp firsts marks t

abbrev pub ArePhases : Setup → Told → Bool → (ℕ → Phase) → Type 0
ArePhases setup told false phases = (t : ℕ) → phases t ≡ first_phase setup told t
ArePhases setup told true phases = AreShut setup told phases

-- ---- what was handed out

-- what this trace has of each thread, where it was gathered up to this stamp
abbrev pub past_of : ℕ → List Entry → ℕ → Past
past_of met trace t = record { entries = entries_of t trace; met = met }

-- it is in order, of threads of the setup, and up to this stamp
pub record IsTrace (setup : Setup) (met : ℕ) (trace : List Entry) : Type 0 where
  pub ordered : IsOrdered trace
  pub known : AllByRecursion (λ x. x.thread < setup.threads) trace
  pub within : IsWithin met trace

-- ---- a node

-- these were the disks of its threads at their opening: each thread is on its course from what they told, and its disks did what the course says;
-- its trace is what was handed out of the logs, before all that is in them, and its counter has counted that
pub record IsNodeOf {D : Type 0} (state : D → DiskState) (starts : List (List (DevId × D))) (n : Node D) : Type 0 where
  pub many : length starts ≡ n.setup.now.threads
  pub met : ℕ
  pub trace : IsTrace n.setup.now met n.trace.items
  pub counted : HasCounted n.setup.now n.trace.items n.counter
  pub phases : ℕ → Phase
  pub seated : AreSeated state n.setup.now n.wires starts (past_of met n.trace.items) n.seats.items n.shut phases
  pub phases_are : ArePhases n.setup.now (told_of state n.setup.now starts) n.shut phases

-- so it is, whatever they were
pub record IsNode {D : Type 0} (state : D → DiskState) (n : Node D) : Type 0 where
  pub starts : List (List (DevId × D))
  pub node : IsNodeOf state starts n

abbrev pub seat_goes : {D : Type 0} → Seat D → Bool
seat_goes s = is_none s.halted

abbrev pub is_spent : Option SeatError → Bool
is_spent (Some StampsSpent) = true
is_spent _ = false

abbrev pub seat_has_stamps : {D : Type 0} → Seat D → Bool
seat_has_stamps s = not (is_spent s.halted)

-- why seats have to halt, where some have to: a thread's stamps are spent, or there was no memory
abbrev pub halt_of : {D : Type 0} → List (Seat D) → SeatError
halt_of seats = cond (list_all seat_has_stamps seats) OutOfMemory StampsSpent

-- whichever setup's threads sat at their places sit there still, where none has to halt
abbrev pub StaySeated : {D : Type 0} → (D → DiskState) → Wires → List (Seat D) → List (Seat D) → Type 0
StaySeated {D} state w old new =
    list_all seat_goes new ≡ true
    → (setup : Setup) (starts : List (List (DevId × D))) (pasts : ℕ → Past) (shut : Bool) (phases : ℕ → Phase)
    → AreSeated state setup w starts pasts old shut phases → AreSeated state setup w starts pasts new shut phases

-- its threads went on with their disks, whatever these were at their opening, and what lies on its shelf lies there still
pub record KeepsDisks {D : Type 0} (state : D → DiskState) (old new : Node D) : Type 0 where
  pub shelf : new.shelf.items ≡ old.shelf.items
  pub node : (starts : List (List (DevId × D))) → IsNodeOf state starts old → IsNodeOf state starts new

-- the disks that it has: those on its shelf, and those of its threads
abbrev pub disks_in : {D : Type 0} → Node D → List (List (DevId × D))
disks_in n = n.shelf.items ++ disks_of n.seats.items

-- no disk came or went, also where a call failed
abbrev pub HasAllDisks : {D : Type 0} → (D → DiskState) → Node D → Node D → Type 0
HasAllDisks state old new = AreAllThere state (disks_in old) (disks_in new)

-- ---- how far it is

abbrev pub seat_rests : {D : Type 0} → Seat D → Bool
seat_rests s = rests s.worker.thread s.worker.links

abbrev pub seat_is_done : {D : Type 0} → Seat D → Bool
seat_is_done s = is_done s.worker.thread

abbrev pub seat_is_blocked : {D : Type 0} → Seat D → Bool
seat_is_blocked s = is_blocked s.worker.thread s.worker.links

abbrev pub seat_has_destructed : {D : Type 0} → Seat D → Bool
seat_has_destructed s = has_destructed_all s.worker.thread

-- as many messages were taken as were put, from the one to the other
abbrev pub has_taken : {D : Type 0} → Seat D → Seat D → Bool
has_taken from to = count_at from.worker.thread.part.put to.worker.me == count_at to.worker.thread.part.taken from.worker.me

abbrev pub are_all_taken : {D : Type 0} → List (Seat D) → Bool
are_all_taken seats = list_all (λ from. list_all (λ to. has_taken from to) seats) seats

-- nothing goes on by itself on a thread but its script, where requests may be pended; and no message is on its way
abbrev pub is_at_rest : {D : Type 0} → Node D → Bool
is_at_rest n = list_all seat_rests n.seats.items && are_all_taken n.seats.items

-- at rest, and each script is at its end or waits
abbrev pub is_idle : {D : Type 0} → Node D → Bool
is_idle n = is_at_rest n && list_all seat_is_blocked n.seats.items

-- no token is on a thread, nothing is still to be put or done, no message is on its way, and each device was destructed
abbrev pub is_over : {D : Type 0} → Node D → Bool
is_over n = list_all seat_is_done n.seats.items && are_all_taken n.seats.items && list_all seat_has_destructed n.seats.items

abbrev pub state_of : {D : Type 0} → Node D → NodeState
state_of n = cond n.shut (cond (is_over n) Done Busy) (cond (is_idle n) Idle Busy)

-- ---- what a caller sees of a node

-- all that a thread did: what the trace has of it, and then what is in its log
abbrev pub log_with : {D : Type 0} → List Entry → Seat D → Part
log_with trace s = record { thread = s.worker.log.thread; entries = entries_of s.worker.log.thread trace ++ entries_in s }

-- the same of each thread
abbrev pub logs_of : {D : Type 0} → Node D → List Part
logs_of n = map (log_with n.trace.items) n.seats.items

-- how many entries all threads have made
abbrev pub entries_made : {D : Type 0} → Node D → ℕ
entries_made n = sum_by (λ p. length p.entries) (logs_of n)

-- how many of these are still in logs
abbrev pub entries_left : {D : Type 0} → Node D → ℕ
entries_left n = sum_by made_by n.seats.items

-- turns made more entries, or none, and they are in the logs: all that the threads made grew as what is in the logs did
pub record MakesMore {D : Type 0} (old new : Node D) : Type 0 where
  pub more : entries_left old ≤ entries_left new
  pub same : entries_made new + entries_left old ≡ entries_made old + entries_left new

-- nothing was added to what its threads did, nothing was lost, and it is as far as before
pub record HasSameLogs {D : Type 0} (old new : Node D) : Type 0 where
  pub setup : new.setup ≡ old.setup
  pub shut : new.shut ≡ old.shut
  pub schedule : new.schedule ≡ old.schedule
  pub logs : logs_of new ≡ logs_of old
  pub state : state_of new ≡ state_of old

-- the counter has counted what it had
abbrev pub CountsTheSame : {D : Type 0} → Node D → Node D → Type 0
CountsTheSame old new = (setup : Setup) (entries : List Entry) → HasCounted setup entries old.counter → HasCounted setup entries new.counter

-- the setup that it plays
abbrev pub setup_in : {D : Type 0} → Node D → Setup
setup_in n = n.setup.now

-- the number at which its generator of turns stands
abbrev pub seed_of : {D : Type 0} → Node D → ℕ
seed_of n = n.schedule.state

abbrev pub HasSameSetup : {D : Type 0} → Node D → Node D → Type 0
HasSameSetup old new = new.setup ≡ old.setup

-- the Shutdown came, or not, as before
abbrev pub HasSameFlag : {D : Type 0} → Node D → Node D → Type 0
HasSameFlag old new = new.shut ≡ old.shut
