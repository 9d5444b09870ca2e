-- A quiet turn of a thread, at its place.
use Rattle.std.proofs.Common.{◌≡◌, ℕ, List, set, Option, Some, sym, ◌∙◌, subst}
use Rattle.std.specs.List.{slice_get}
use Rattle.std.proofs.lemmas.Option.{same_Some}
use Rattle.bd_outside.specs.Clock.{IsWithin, Moments}
use Rattle.bd_thread.specs.declared.turn.Turned.{Turned}
use Rattle.bd_worker.specs.declared.seat.Seat.{Seat}
use Rattle.bd_worker.proofs.Places.{is_below, set_here}
use Rattle.bd_worker.specs.Waits.{QuietTurns}

pub turns_at : {D : Type 0} → (range : Option Moments) (now : ℕ) (seats : List (Seat D)) (i : ℕ) (s s' : Seat D) (turned : Turned)
    → IsWithin range now → slice_get seats i ≡ Some s → QuietTurns now s s' turned
    → (a b : Seat D) → slice_get seats i ≡ Some a → slice_get (set seats i s') i ≡ Some b → (n : ℕ) × IsWithin range n × QuietTurns n a b turned
turns_at {D} range now seats i s s' turned within at q a b h k =
    let old : s ≡ a = same_Some s a (sym at ∙ h) in
    let new : s' ≡ b = same_Some s' b (sym (set_here seats i s' (is_below seats i s at)) ∙ k) in
    (now, within, subst (λ (x : Seat D). QuietTurns now x b turned) old (subst (λ (x : Seat D). QuietTurns now s x turned) new q))
