-- What a thread waits for where its turn added no entry.
use Rattle.std.specs.Prelude.{◌≡◌, ℕ, Option, Some, slice_get}
use Rattle.bd_outside.specs.Clock.{IsWithin, Moments}
use Rattle.bd_thread.specs.declared.turn.Turned.{Turned}
use Rattle.bd_node.specs.declared.node.Node.{Node}
use Rattle.bd_worker.specs.declared.seat.Seat.{Seat}
use Rattle.bd_worker.specs.Waits.{QuietTurns}

-- so it is with the seat of this thread, in a turn whose moment a clock of this range may have told
abbrev pub TurnsQuietly : {D : Type 0} → Option Moments → ℕ → Node D → Node D → Turned → Type 0
TurnsQuietly {D} range thread old new turned =
    (a b : Seat D) → slice_get old.seats.items thread ≡ Some a → slice_get new.seats.items thread ≡ Some b
    → (now : ℕ) × IsWithin range now × QuietTurns now a b turned
