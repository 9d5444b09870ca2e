-- A step of a seat: it has to halt, or had a turn, or that was refused.
use Rattle.std.proofs.Common.{◌≡◌, ℕ, ◌+◌, ◌<◌, ◌≤◌, List, Option, Some, None, Bool, true, false, inl, inr, refl, sym, ◌∙◌, ap, subst, arith}
use Rattle.std.proofs.lemmas.Option.{same_Some}
use Rattle.std.specs.Prelude.{is_some}
use Rattle.bd_outside.specs.Clock.{IsWithin, Moments}
use Rattle.bd_outside.specs.Disk.{DiskState}
use Rattle.bd_seat.specs.declared.seat_error.SeatError.{SeatError}
use Rattle.bd_seat.specs.declared.seat_error.SeatError.TheVariants.{OutOfMemory, StampsSpent}
use Rattle.bd_seat.specs.Causes.{IsCause}
use Rattle.bd_thread.specs.Timely.{HadTurn}
use Rattle.bd_thread.specs.declared.turn.Turned.{Turned}
use Rattle.bd_thread.specs.declared.turn.Turned.TheVariants.{Moved, Quiet}
use Rattle.bd_wires.specs.declared.wires.Wires.{Wires}
use Rattle.bd_worker.specs.declared.seat.Seat.{Seat}
use Rattle.bd_worker.specs.declared.worker.Worker.{Worker}
use Rattle.bd_worker.specs.Seats.{has_moved, made_by, Continues, HasCause, HasMoved, HasSameDisks, Tells, WentOn}
use Rattle.bd_worker.proofs.Seats.{continues_still}
use Rattle.bd_worker.proofs.Times.{turn_within}

pub some_none : (o : Option SeatError) (e : SeatError) → o ≡ Some e → o ≡ None → ⊥
some_none o e some none = clash (sym some ∙ none)
  where
    clash : Some e ≡ None → ⊥
    clash h = cc

is_none : (o : Option SeatError) → is_some o ≡ false → o ≡ None
is_none None h = refl
is_none (Some e) h = absurd (clash h)
  where
    clash : true ≡ false → ⊥
    clash g = cc

pub is_there : (o : Option SeatError) → is_some o ≡ true → o ≡ None → ⊥
is_there None h none = clash h
  where
    clash : false ≡ true → ⊥
    clash g = cc
is_there (Some e) h none = some_none (Some e) e refl none

same_cause : (e f : SeatError) (w : Worker) → Some e ≡ Some f → HasCause e w → HasCause f w
same_cause e f w is cause = subst (λ (x : SeatError). HasCause x w) (same_Some e f is) cause

-- the cause of a step round the thread, by the last stamp that it left
pub caused_by_log : (error : SeatError) (w : Worker) → IsCause error w.log.last → HasCause error w
caused_by_log OutOfMemory w h = tt
caused_by_log StampsSpent w h = inl h

pub caused_by_replica : (error : SeatError) (w : Worker) → IsCause error w.links.registry.last → HasCause error w
caused_by_replica OutOfMemory w h = tt
caused_by_replica StampsSpent w h = inr h

grows_by : (before after : ℕ) (turned : Turned) → Tells before after turned → before ≤ after
grows_by before after Quiet e = omega (arith, e)
grows_by before after (Moved n) e = omega (arith, e.1)

-- whether entries were added, as an answer tells it
pub moved_as_told : (before after : ℕ) (turned : Turned) → Tells before after turned → HasMoved before after (has_moved turned)
moved_as_told before after Quiet e = e
moved_as_told before after (Moved n) e = let more : 0 < n = e.0 in let is : after ≡ before + n = e.1 in omega arith

module _ {D : Type 0} (state : D → DiskState) (w : Wires) (range : Option Moments) where
  pub step_halted : (s : Seat D) → is_some s.halted ≡ true → WentOn state w range s s
  step_halted s halts = record {
    kept = refl;
    on = λ goes. continues_still state w s;
    times = λ goes h. h;
    grows = λ goes. omega arith;
    cause = λ error goes halted. absurd (is_there s.halted halts goes);
    stays = λ error halted. refl;
  }

  pub step_turned : (now : ℕ) (s s' : Seat D) (turned : Turned) → is_some s.halted ≡ false → HasSameDisks state s s' → Continues state w s s' → Tells (made_by s) (made_by s') turned → HadTurn now s.worker.thread s'.worker.thread
      → IsWithin range now → WentOn state w range s s'
  step_turned now s s' turned goes kept on tells had within = record {
    kept = kept;
    on = λ still. on;
    times = λ still h. turn_within range now s.worker.thread s'.worker.thread had within h;
    grows = λ still. grows_by (made_by s) (made_by s') turned tells;
    cause = λ error still halted. absurd (some_none s'.halted error halted (on.halted ∙ still));
    stays = λ error halted. absurd (some_none s.halted error halted (is_none s.halted goes));
  }

  pub step_refused : (s s' : Seat D) (error : SeatError) → is_some s.halted ≡ false → HasSameDisks state s s' → HasCause error s'.worker → WentOn state w range s (record s' { halted = Some error })
  step_refused s s' error goes kept cause = record {
    kept = kept;
    on = λ still. absurd (some_none (Some error) error refl still);
    times = λ still h. absurd (some_none (Some error) error refl still);
    grows = λ still. absurd (some_none (Some error) error refl still);
    cause = λ other still halted. same_cause error other s'.worker halted cause;
    stays = λ other halted. absurd (some_none s.halted other halted (is_none s.halted goes));
  }
