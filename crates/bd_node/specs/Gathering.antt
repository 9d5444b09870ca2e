-- What is gathered of the threads' logs.
use Rattle.std.specs.Prelude.{◌≡◌, ℕ, ◌≤◌, max, [], ◌∷◌, ◌++◌, List, All, Some, length, map, slice_get}
use Rattle.bd_base.specs.declared.act.Entry.{Entry}
use Rattle.bd_log.specs.Merge.{IsMerge}
use Rattle.bd_node.specs.declared.node.Node.{Node}
use Rattle.bd_worker.specs.declared.seat.Seat.{Seat}
use Rattle.bd_worker.specs.Seats.{part_in, IsHandedOut}

-- the greatest of the last stamps of these seats' logs; 0 where there is none
abbrev pub greatest_last : {D : Type 0} → List (Seat D) → ℕ
greatest_last [] = 0
greatest_last (s ∷ ss) = max s.worker.log.last (greatest_last ss)

-- all logs were handed out, and their merge is last in the trace; all else is as before
pub record Gathers {D : Type 0} (old new : Node D) : Type 0 where
  pub merged : List Entry
  pub is_merge : IsMerge (map part_in old.seats.items) merged
  pub trace : new.trace.items ≡ old.trace.items ++ merged
  pub stamp : ℕ
  pub greatest : stamp ≡ greatest_last old.seats.items
  pub below : All (λ s. s.worker.log.last ≤ stamp) old.seats.items
  pub len : length new.seats.items ≡ length old.seats.items
  pub each : (i : ℕ) (a b : Seat D) → slice_get old.seats.items i ≡ Some a → slice_get new.seats.items i ≡ Some b → IsHandedOut stamp a b
  pub setup : new.setup ≡ old.setup
  pub wires : new.wires ≡ old.wires
  pub schedule : new.schedule ≡ old.schedule
  pub shut : new.shut ≡ old.shut
  pub counter : new.counter ≡ old.counter
  pub shelf : new.shelf.items ≡ old.shelf.items
