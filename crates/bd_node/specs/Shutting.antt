-- How the seats of a node are shut down.
use Rattle.std.specs.Prelude.{◌≡◌, ◌≢◌, ℕ, ◌<◌, All, List, ◌++◌, Some, slice_get}
use Rattle.bd_node.specs.declared.node.Node.{Node}
use Rattle.bd_worker.specs.declared.seat.Seat.{Seat}
use Rattle.bd_worker.specs.Seats.{entries_in}
use Rattle.bd_worker.specs.Shutting.{shutdown_by}

-- each seat but the first is another thread's than 0, and has lower stamps
abbrev pub AreToLearn : {D : Type 0} → ℕ → List (Seat D) → Type 0
AreToLearn {D} stamp seats = (i : ℕ) (s : Seat D) → 0 < i → slice_get seats i ≡ Some s → (s.worker.me ≢ 0) × (s.worker.log.last < stamp)

-- ---- a node

-- each thread's log is as before, but that of thread 0 has the Shutdown more, whose stamp is above all others, and the trace is as before
pub record AddsShutdown {D : Type 0} (old new : Node D) : Type 0 where
  pub stamp : ℕ
  pub above : All (λ s. s.worker.log.last < stamp) old.seats.items
  pub trace : new.trace.items ≡ old.trace.items
  pub each : (t : ℕ) (a b : Seat D) → slice_get old.seats.items t ≡ Some a → slice_get new.seats.items t ≡ Some b → entries_in b ≡ entries_in a ++ shutdown_by stamp t

-- nothing happened in it: its seats, its wires, its schedule, its trace, its counter, its shelf, and whether the Shutdown came
pub record IsUnchanged {D : Type 0} (old new : Node D) : Type 0 where
  pub seats : new.seats.items ≡ old.seats.items
  pub wires : new.wires ≡ old.wires
  pub schedule : new.schedule ≡ old.schedule
  pub trace : new.trace.items ≡ old.trace.items
  pub counter : new.counter ≡ old.counter
  pub shelf : new.shelf.items ≡ old.shelf.items
  pub setup : new.setup ≡ old.setup
  pub shut : new.shut ≡ old.shut
