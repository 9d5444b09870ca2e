-- What a seat waits for where its turn added no entry.
use Rattle.std.specs.Prelude.{◌≡◌, ℕ, ◌⊎◌, Option, Some, None, false}
use Rattle.bd_registry.specs.State.{Registered}
use Rattle.bd_ring.specs.Rings.{one_further}
use Rattle.bd_ring.specs.Slots.{WasAway, after_miss}
use Rattle.bd_seat.specs.Incoming.{Fetched, HasFetchedAll}
use Rattle.bd_seat.specs.Outgoing.{AreServed, FlushedAll}
use Rattle.bd_thread.specs.declared.turn.Turned.{Turned}
use Rattle.bd_thread.specs.declared.turn.Turned.TheVariants.{Moved, Quiet}
use Rattle.bd_thread.specs.Asleep.{begun_at}
use Rattle.bd_thread.specs.Looking.{touched_of, LooksAt}
use Rattle.bd_thread.specs.Waits.{IsStill, IsWaiting}
use Rattle.bd_thread.specs.Work.{wants_registry, IsWaitingAlone}
use Rattle.bd_worker.specs.declared.seat.Seat.{Seat}
use Rattle.bd_worker.specs.declared.worker.Worker.{Worker}

-- ---- a worker

-- its thread, but for what is noted to be asked and which requests are to be looked at, and its links are as before, and it waits for all but what it would
-- ask the registry, where each open request was to be looked at, or rests
abbrev pub IsIdleAlone : Worker → Worker → Type 0
IsIdleAlone old new = IsStill (IsWaitingAlone (LooksAt (touched_of old.thread))) old.thread old.links new.thread new.links

-- the same, but that its registry is what the one is that it was lent, and with that it waits altogether
pub record IsIdleWith (lent : Registered) (old new : Worker) : Type 0 where
  pub thread : new.thread ≡ record old.thread { calls = new.thread.calls; touched = new.thread.touched }
  pub links : new.links ≡ record old.links { registry = new.links.registry }
  pub registry : new.links.registry.state ≡ lent.state
  pub waits : IsWaiting (LooksAt (touched_of old.thread)) new.thread new.links

-- quiet is answered where it is so
abbrev pub IdlesAlone : Worker → Worker → Turned → Type 0
IdlesAlone old new Quiet = IsIdleAlone old new
IdlesAlone old new (Moved n) = Unit {0}

abbrev pub IdlesWith : Registered → Worker → Worker → Turned → Type 0
IdlesWith lent old new Quiet = IsIdleWith lent old new
IdlesWith lent old new (Moved n) = Unit {0}

-- ---- a seat

-- posts of its ring came, until its queue was full or a take found the ring empty; its other passes stayed
pub record Receives {D : Type 0} (old new : Seat D) : Type 0 where
  pub fetched : Fetched old.worker.me old.passes.take old.worker.log old.worker.links.queues.items new.passes.take new.worker.log new.worker.links.queues.items
  pub all : HasFetchedAll old.worker.me old.passes.take new.passes.take new.worker.links.queues.items
  pub passes : new.passes ≡ record old.passes { take = new.passes.take }
  pub links : new.worker.links ≡ record old.worker.links { queues = new.worker.links.queues }
  pub thread : new.worker.thread ≡ old.worker.thread

-- the thread's turn began while the clock told this moment; all else stayed
abbrev pub begun_seat : {D : Type 0} → ℕ → Seat D → Seat D
begun_seat now s = record s { worker = record s.worker { thread = begun_at now s.worker.thread } }

-- what was in its queues to others went into their rings, as far as each of these had room; its other passes stayed
pub record Sends {D : Type 0} (old new : Seat D) : Type 0 where
  pub flushed : FlushedAll old.worker.me old.worker.log.last old.passes.sends.items old.worker.links.queues.items new.passes.sends.items new.worker.links.queues.items
  pub all : AreServed old.worker.me old.passes.sends.items new.passes.sends.items new.worker.links.queues.items
  pub passes : new.passes ≡ record old.passes { sends = new.passes.sends }
  pub links : new.worker.links ≡ record old.worker.links { queues = new.worker.links.queues }
  pub thread : new.worker.thread ≡ old.worker.thread

-- it tried the slot, and took the registry; its other passes stayed
pub record HasBorrowed {D : Type 0} (old new : Seat D) : Type 0 where
  pub passes : new.passes ≡ record old.passes { slot = new.passes.slot }
  pub count : new.passes.slot.borrowed ≡ one_further old.passes.slot.borrowed

-- but that a try of the slot found the registry away, as its pass counted, all is as before
abbrev pub missed_by : {D : Type 0} → Seat D → Seat D
missed_by s = record s { passes = record s.passes { slot = after_miss s.passes.slot } }

-- lent some registry, quiet is answered where it waits altogether; where the registry was away, a try found it so
abbrev pub IdlesIfLent : {D : Type 0} → Seat D → Seat D → Option Turned → Type 0
IdlesIfLent old new None = (new ≡ missed_by old) × WasAway old.passes.slot
IdlesIfLent old new (Some turned) = HasBorrowed old new × ((lent : Registered) × IdlesWith lent old.worker new.worker turned)

-- it doesn't want the registry, or a try of the slot found that away
abbrev pub HasNoRegistry : {D : Type 0} → Seat D → Seat D → Type 0
HasNoRegistry old new =
    ((wants_registry old.worker.thread old.worker.links ≡ false) × (new.passes ≡ old.passes))
    ⊎ ((new.passes ≡ (missed_by old).passes) × WasAway old.passes.slot)

-- it waits altogether, and had the registry, or, where it doesn't want that or it was away, for all but what it would ask it
abbrev pub IsIdleSeat : {D : Type 0} → Seat D → Seat D → Type 0
IsIdleSeat old new = (HasNoRegistry old new × IsIdleAlone old.worker new.worker) ⊎ (HasBorrowed old new × ((lent : Registered) × IsIdleWith lent old.worker new.worker))

abbrev pub Idles : {D : Type 0} → Seat D → Seat D → Turned → Type 0
Idles old new Quiet = IsIdleSeat old new
Idles old new (Moved n) = Unit {0}

-- a quiet turn while the clock told this moment: posts came, there was nothing to do at the turn's moment, and what was to be sent went
pub record IsQuietTurn {D : Type 0} (now : ℕ) (old new : Seat D) : Type 0 where
  pub came : Seat D
  pub still : Seat D
  pub receives : Receives old came
  pub idle : IsIdleSeat (begun_seat now came) still
  pub sends : Sends still new

abbrev pub QuietTurns : {D : Type 0} → ℕ → Seat D → Seat D → Turned → Type 0
QuietTurns now old new Quiet = IsQuietTurn now old new
QuietTurns now old new (Moved n) = Unit {0}
