-- How a seat is shut down.
use Rattle.std.specs.Prelude.{◌≡◌, ℕ, ◌<◌, ◌==◌, true, cond, List, [], ◌∷◌, ◌++◌}
use Rattle.bd_base.specs.declared.act.Act.TheVariants as acts
use Rattle.bd_base.specs.declared.act.Entry.{Entry}
use Rattle.bd_base.specs.declared.setup.Setup.{Setup}
use Rattle.bd_base.specs.declared.id.DevId.{DevId}
use Rattle.bd_machine.specs.declared.state.Content.{Content}
use Rattle.bd_machine.specs.Lines.{shutdown_at}
use Rattle.bd_outside.specs.Disk.{DiskState}
use Rattle.bd_registry.specs.State.{Registered, start_of}
use Rattle.bd_ring.specs.SlotRule.{AddsOwn}
use Rattle.bd_law_threads.specs.Course.{Course, Phase}
use Rattle.bd_law_threads.specs.Steps.{second_phase}
use Rattle.bd_disks.specs.Contents.{contents_of}
use Rattle.bd_wires.specs.declared.wires.Wires.{Wires}
use Rattle.bd_worker.specs.declared.seat.Seat.{Seat}
use Rattle.bd_worker.specs.declared.worker.Worker.{Worker}
use Rattle.bd_worker.specs.Seats.{entries_in, seen_over, HasSamePosts, IsAt, IsLent, IsSeat, Past}

-- ---- a worker

-- thread 0 has the Shutdown with this stamp in its log, and the registry in its journal, which the thread saw to its end
pub record ShutWith (setup : Setup) (p : Phase) (c : Course) (past : Past) (contents : DevId → Content) (stamp : ℕ) (old : Worker) (lent : Registered) (new : Worker) (lent' : Registered) : Type 0 where
  pub course : Course
  pub at : IsAt setup 0 (second_phase stamp 0 p c (seen_over setup contents old)) course past contents new
  pub posts : HasSamePosts c course
  pub served : course.served ≡ c.served
  pub seen : course.seen ≡ lent'.journal
  pub adds : AddsOwn 0 lent.journal lent'.journal
  pub start : start_of lent'.setup ≡ start_of lent.setup

pub record ShutsWith (seen met : ℕ) (old : Worker) (lent : Registered) (stamp : ℕ) (new : Worker) (lent' : Registered) : Type 0 where
  pub flag : new.links.shut ≡ true
  pub above : met < stamp
  pub later : old.log.last < stamp
  pub thread : new.thread ≡ old.thread
  pub entries : new.log.entries ≡ old.log.entries ++ record { stamp = stamp; thread = old.log.thread; act = acts.Shutdown } ∷ []
  pub at : (setup : Setup) (p : Phase) (c : Course) (past : Past) (contents : DevId → Content) → IsAt setup 0 p c past contents old → IsLent setup 0 c seen lent
      → ShutWith setup p c past contents stamp old lent new lent'

-- ---- a seat

-- what is new in the log of a thread when a Shutdown comes with this stamp: its entry, in that of thread 0
abbrev pub shutdown_by : ℕ → ℕ → List Entry
shutdown_by stamp t = cond (t == 0) (shutdown_at stamp ∷ []) []

-- a Shutdown came with this stamp: whoever sat there, at some place of its course, sits there in the phase after it
pub record IsShutAt {D : Type 0} (state : D → DiskState) (setup : Setup) (t : ℕ) (p : Phase) (c : Course) (past : Past) (stamp : ℕ) (w : Wires) (opened : List (DevId × D)) (old new : Seat D) : Type 0 where
  pub course : Course
  pub seat : IsSeat state setup t (second_phase stamp t p c (seen_over setup (contents_of state old.disks) old.worker)) course past w opened new

pub record Shuts {D : Type 0} (state : D → DiskState) (w : Wires) (stamp : ℕ) (old new : Seat D) : Type 0 where
  pub flag : new.worker.links.shut ≡ true
  pub halted : new.halted ≡ old.halted
  pub thread : new.worker.thread ≡ old.worker.thread
  pub later : old.worker.log.last < stamp
  pub entries : entries_in new ≡ entries_in old ++ shutdown_by stamp old.worker.me
  pub sits : (setup : Setup) (t : ℕ) (p : Phase) (c : Course) (past : Past) (opened : List (DevId × D)) → IsSeat state setup t p c past w opened old
      → IsShutAt state setup t p c past stamp w opened old new

-- so it is with any wires
abbrev pub LearnsShut : {D : Type 0} → ℕ → Seat D → Seat D → Type 0
LearnsShut {D} stamp old new = (state : D → DiskState) (w : Wires) → Shuts state w stamp old new
