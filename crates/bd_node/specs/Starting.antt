-- Seats before any entry.
use Rattle.std.specs.Prelude.{◌≡◌, ℕ, List, [], Some, None, slice_get}
use Rattle.bd_base.specs.declared.setup.Setup.{Setup}
use Rattle.bd_thread.specs.Looking.{KeepsOwn}
use Rattle.bd_thread.specs.Starts.{IsNew, IsNewLinks}
use Rattle.bd_wires.specs.declared.wires.Passes.{Passes}
use Rattle.bd_worker.specs.declared.seat.Seat.{Seat}

-- thread number `me` before any entry, with these passes
pub record IsNewSeat {D : Type 0} (me : ℕ) (setup : Setup) (passes : Passes) (s : Seat D) : Type 0 where
  pub me_is : s.worker.me ≡ me
  pub thread : IsNew me setup s.worker.thread
  pub tickets : KeepsOwn s.worker.thread
  pub links : IsNewLinks setup s.worker.links
  pub log_thread : s.worker.log.thread ≡ me
  pub log_entries : s.worker.log.entries ≡ []
  pub log_last : s.worker.log.last ≡ 0
  pub passes_are : s.passes ≡ passes
  pub seen : s.seen ≡ 0
  pub goes : s.halted ≡ None

-- each seat so far has the passes at its place
pub record AreNewSeats {D : Type 0} (setup : Setup) (passes : List Passes) (seats : List (Seat D)) : Type 0 where
  pub each : (i : ℕ) (s : Seat D) (q : Passes) → slice_get seats i ≡ Some s → slice_get passes i ≡ Some q → IsNewSeat i setup q s
