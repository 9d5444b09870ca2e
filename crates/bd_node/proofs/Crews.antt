-- The seats of a reactor from turn to turn: each sits, unless it has to halt.
use Rattle.std.proofs.Common.{◌≡◌, ℕ, ◌<◌, ◌≤◌, List, length, set, Option, Some, None, ◌⊎◌, inl, inr, refl, sym, ◌∙◌, ap, subst, arith}
use Rattle.std.specs.List.{All, slice_get}
use Rattle.std.specs.Prelude.{slice_index_or}
use Rattle.std.proofs.lemmas.Bool.{cases_eq}
use Rattle.std.proofs.lemmas.Option.{get_or_from_slice_get, slice_get-get_or, slice_get_within}
use Rattle.bd_outside.specs.Clock.{Moments}
use Rattle.bd_outside.specs.Disk.{DiskState}
use Rattle.bd_wires.specs.declared.wires.Wires.{Wires}
use Rattle.bd_worker.specs.declared.seat.Seat.{Seat}
use Rattle.bd_seat.specs.declared.seat_error.SeatError.{SeatError}
use Rattle.bd_worker.specs.Seats.{made_by, AllWentOn, HasCause, SitsOrHalts, WentOn}
use Rattle.bd_worker.proofs.Places.{set_else, set_here}
use Rattle.bd_worker.proofs.Seats.{continues_still, continues_then, sitting_then}

some_none : (e : SeatError) → Some e ≡ None → ⊥
some_none e h = cc

module _ {D : Type 0} (state : D → DiskState) (w : Wires) (range : Option Moments) where
  went_still : (s : Seat D) → WentOn state w range s s
  went_still s = record {
    kept = refl;
    on = λ goes. continues_still state w s;
    times = λ goes h. h;
    grows = λ goes. omega arith;
    cause = λ error goes halted. absurd (some_none error (sym halted ∙ goes));
    stays = λ error halted. refl;
  }

  went_then : (a b c : Seat D) → WentOn state w range a b → WentOn state w range b c → WentOn state w range a c
  went_then a b c first second = record {
    kept = second.kept ∙ first.kept;
    on = λ goes. continues_then w a b c (first.on (sym (second.on goes).halted ∙ goes)) (second.on goes);
    times = λ goes h. second.times goes (first.times (sym (second.on goes).halted ∙ goes) h);
    grows = λ goes.
        let before : made_by a ≤ made_by b = first.grows (sym (second.on goes).halted ∙ goes) in
        let after : made_by b ≤ made_by c = second.grows goes in
        omega arith;
    cause = λ error goes halted. cause_then error goes halted b.halted refl;
    stays = λ error halted.
        let same : b ≡ a = first.stays error halted in
        second.stays error (ap (λ (s : Seat D). s.halted) same ∙ halted) ∙ same;
  }
    where
      -- it has to halt for the cause of the turn after which it first has to
      cause_then : (error : SeatError) → a.halted ≡ None → c.halted ≡ Some error → (o : Option SeatError) → b.halted ≡ o → HasCause error c.worker
      cause_then error goes halted None still = second.cause error still halted
      cause_then error goes halted (Some e) refused =
          let same : c ≡ b = second.stays e refused in
          subst (λ (s : Seat D). HasCause error s.worker) (sym same) (first.cause error goes (ap (λ (s : Seat D). s.halted) (sym same) ∙ halted))

  still_sits : (a b : Seat D) → SitsOrHalts state w a → WentOn state w range a b → SitsOrHalts state w b
  still_sits a b sits went goes = sitting_then w a b (sits (sym (went.on goes).halted ∙ goes)) (went.on goes)

  pub all_still : (xs : List (Seat D)) → AllWentOn state w range xs xs
  all_still xs i d lt = went_still (slice_index_or xs i d)

  pub all_then : (xs ys zs : List (Seat D)) → length ys ≡ length xs → AllWentOn state w range xs ys → AllWentOn state w range ys zs → AllWentOn state w range xs zs
  all_then xs ys zs len first second i d lt =
      went_then (slice_index_or xs i d) (slice_index_or ys i d) (slice_index_or zs i d) (first i d lt) (second i d (subst (λ (n : ℕ). i < n) (sym len) lt))

  pub all_sit : (xs ys : List (Seat D)) → length ys ≡ length xs → All (SitsOrHalts state w) xs → AllWentOn state w range xs ys → All (SitsOrHalts state w) ys
  all_sit xs ys len sit on i d lt =
      let within : i < length xs = subst (λ (n : ℕ). i < n) len lt in
      still_sits (slice_index_or xs i d) (slice_index_or ys i d) (sit i d within) (on i d within)

  -- one of them had a turn
  pub one_stepped : (xs ys : List (Seat D)) (place : ℕ) (s s' : Seat D) → length ys ≡ length xs → AllWentOn state w range xs ys → slice_get ys place ≡ Some s → WentOn state w range s s' → AllWentOn state w range xs (set ys place s')
  one_stepped xs ys place s s' len on at step i d lt = go (cases_eq place i)
    where
      within : i < length ys
      within = subst (λ (n : ℕ). i < n) (sym len) lt

      go : (place ≡ i) ⊎ (place ≡ i → ⊥) → WentOn state w range (slice_index_or xs i d) (slice_index_or (set ys place s') i d)
      go (inl same) =
          let here : slice_index_or (set ys place s') i d ≡ s' = get_or_from_slice_get (set ys place s') i s' d (subst (λ (k : ℕ). slice_get (set ys place s') k ≡ Some s') same (set_here ys place s' (slice_get_within ys place s at))) in
          let was : slice_index_or ys i d ≡ s = get_or_from_slice_get ys i s d (subst (λ (k : ℕ). slice_get ys k ≡ Some s) same at) in
          subst (λ (x : Seat D). WentOn state w range (slice_index_or xs i d) x) (sym here)
          (went_then (slice_index_or xs i d) s s' (subst (λ (x : Seat D). WentOn state w range (slice_index_or xs i d) x) was (on i d lt)) step)
      go (inr other) =
          let same : slice_index_or (set ys place s') i d ≡ slice_index_or ys i d = get_or_from_slice_get (set ys place s') i (slice_index_or ys i d) d (set_else ys place i s' other ∙ slice_get-get_or ys i d within) in
          subst (λ (x : Seat D). WentOn state w range (slice_index_or xs i d) x) (sym same) (on i d lt)
