-- The moments that a history names, until when it holds requests, and since when it counts timeslices; and the moments of a node's threads.
use Rattle.std.specs.Prelude.{◌≡◌, ℕ, ◌<◌, true, List, Option, None, Some, IfSome, slice_get}
use Rattle.std.specs.List.{list_all, AllByRecursion}
use Rattle.bd_base.specs.declared.act.Entry.{Entry}
use Rattle.bd_base.specs.declared.id.DevId.{DevId}
use Rattle.bd_base.specs.declared.setup.Setup.{Setup}
use Rattle.bd_law_held.specs.Held.{AreHeldInTime}
use Rattle.bd_machine.specs.Timeslices.{Fits}
use Rattle.bd_outside.specs.Clock.{IsWithin, Moments}
use Rattle.bd_thread.specs.Timely.{moment_named, slices_in}
use Rattle.bd_node.specs.declared.node.Node.{Node}
use Rattle.bd_worker.specs.declared.seat.Seat.{Seat}
use Rattle.bd_worker.specs.Seats.{HasTimesWithin}
use Rattle.bd_node.specs.Whole.{seat_goes}

-- ---- a history

-- each moment at which a request passes limits or is released, timeslices are told, or a soft mark becomes hard, lies between those that a clock tells, if it tells them
abbrev pub AreMomentsWithin : Option Moments → List Entry → Type 0
AreMomentsWithin range history = AllByRecursion (λ e. IfSome (moment_named e.act) (IsWithin range)) history

-- where a clock tells its moments: each request that is held is held no longer than from the greatest of them on the delay devices below its device hold a request
-- of its direction at most, where its device and its direction are those that its Accept names
abbrev pub AreHoldsWithin : Option Moments → Setup → List Entry → Type 0
AreHoldsWithin None setup history = Unit {0}
AreHoldsWithin (Some range) setup history = AreHeldInTime setup range.greatest (λ req. None) history

-- of each device of which timeslices are told, these are at each moment just those that passed since one start, which lies there too
abbrev pub AreStartsWithin : Option Moments → List Entry → Type 0
AreStartsWithin range history = (dev : DevId) → 0 < slices_in dev history → (start : ℕ) × (IsWithin range start × Fits dev start 0 history)

-- ---- a node

-- the moments of each thread's first turn and of its last lie there
abbrev pub HaveTimesWithin : {D : Type 0} → Option Moments → List (Seat D) → Type 0
HaveTimesWithin {D} range seats = (i : ℕ) (s : Seat D) → slice_get seats i ≡ Some s → HasTimesWithin range s

-- so it stays, where none has to halt
abbrev pub StayWithin : {D : Type 0} → Option Moments → List (Seat D) → List (Seat D) → Type 0
StayWithin range old new = list_all seat_goes new ≡ true → HaveTimesWithin range old → HaveTimesWithin range new

abbrev pub KeepsTimes : {D : Type 0} → Option Moments → Node D → Node D → Type 0
KeepsTimes range old new = HaveTimesWithin range old.seats.items → HaveTimesWithin range new.seats.items
