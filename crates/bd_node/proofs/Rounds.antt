-- After a turn of a seat, and after a round of all: the seats are where they have to be.
use Rattle.std.proofs.Common.{◌≡◌, ℕ, Bool, true, List, set, Option, Some, None, is_none, ◌⊎◌, inl, inr, refl, sym, ◌∙◌, ap, subst}
use Rattle.std.specs.List.{All, slice_get}
use Rattle.std.specs.Prelude.{slice_index_or}
use Rattle.std.proofs.lemmas.Bool.{cases_eq}
use Rattle.std.proofs.lemmas.List.{length-set}
use Rattle.std.proofs.lemmas.Option.{same_Some, slice_get-get_or, slice_get_within}
use Rattle.bd_base.specs.declared.id.DevId.{DevId}
use Rattle.bd_base.specs.declared.setup.Setup.{Setup}
use Rattle.bd_seat.specs.declared.seat_error.SeatError.{SeatError}
use Rattle.bd_law_threads.specs.Course.{Phase}
use Rattle.bd_wires.specs.declared.wires.Wires.{Wires}
use Rattle.bd_worker.specs.declared.seat.Seat.{Seat}
use Rattle.bd_outside.specs.Disk.{DiskState}
use Rattle.bd_node.specs.Disks.{disks_at}
use Rattle.bd_worker.specs.Seats.{Continues, IsSitting, Past}
use Rattle.bd_node.specs.Whole.{AreSeated, IsIn}
use Rattle.bd_worker.proofs.Places.{set_else, set_here}

pub no_halt : (o : Option SeatError) → is_none o ≡ true → o ≡ None
no_halt None h = refl
no_halt (Some x) h = cc

-- its log is the same thread's
pub log_thread_stays : {D : Type 0} {state : D → DiskState} → (w : Wires) (a b : Seat D) → IsSitting state w a → Continues state w a b → b.worker.log.thread ≡ a.worker.log.thread
log_thread_stays w a b old on = (on.sits old.setup old.t old.p old.past old.opened old.sits).seat.worker.log_thread ∙ sym old.sits.seat.worker.log_thread

module _ {D : Type 0} {state : D → DiskState} (setup : Setup) (w : Wires) (starts : List (List (DevId × D))) (pasts : ℕ → Past) (seats : List (Seat D)) (shut : Bool) (phases : ℕ → Phase) (a : AreSeated state setup w starts pasts seats shut phases) where
  -- each seat sits
  pub all_sit : All (IsSitting state w) seats
  all_sit k d lt = record { setup = setup; t = k; p = phases k; past = pasts k; opened = disks_at starts k; sits = (a.each k (slice_index_or seats k d) (slice_get-get_or seats k d lt)).sits }

  pub one_sits : (i : ℕ) (s : Seat D) → slice_get seats i ≡ Some s → IsSitting state w s
  one_sits i s at = record { setup = setup; t = i; p = phases i; past = pasts i; opened = disks_at starts i; sits = (a.each i s at).sits }

  went : (i : ℕ) (s s' : Seat D) → slice_get seats i ≡ Some s → Continues state w s s' → s'.halted ≡ None → IsIn state setup w starts pasts shut phases i s'
  went i s s' at on goes = record { sits = on.sits setup i (phases i) (pasts i) (disks_at starts i) (a.each i s at).sits; flag = on.flag ∙ (a.each i s at).flag; goes = goes }

  -- one seat had a turn
  pub one_turned : (i : ℕ) (s s' : Seat D) → slice_get seats i ≡ Some s → Continues state w s s' → AreSeated state setup w starts pasts (set seats i s') shut phases
  one_turned i s s' at on = record { some = a.some; len = length-set seats i s' ∙ a.len; each = each }
    where
      here : IsIn state setup w starts pasts shut phases i s'
      here = went i s s' at on (on.halted ∙ (a.each i s at).goes)

      each : (j : ℕ) (x : Seat D) → slice_get (set seats i s') j ≡ Some x → IsIn state setup w starts pasts shut phases j x
      each j x h = go (cases_eq i j)
        where
          go : (i ≡ j) ⊎ (i ≡ j → ⊥) → IsIn state setup w starts pasts shut phases j x
          go (inl same) =
              let e : s' ≡ x = same_Some s' x (sym (set_here seats i s' (slice_get_within seats i s at)) ∙ ap (slice_get (set seats i s')) same ∙ h) in
              subst (λ (k : ℕ). IsIn state setup w starts pasts shut phases k x) same (subst (λ (y : Seat D). IsIn state setup w starts pasts shut phases i y) e here)
          go (inr ne) = a.each j x (sym (set_else seats i j s' ne) ∙ h)
