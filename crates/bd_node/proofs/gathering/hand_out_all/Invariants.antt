-- Those up to a place were handed out, and the others are as before.
use Rattle.std.proofs.Common.{◌≡◌, ℕ, ◌+◌, ◌<◌, ◌≤◌, ◌++◌, Some, length, map, take, vec_capacity}
use Rattle.std.specs.List.{slice_get}
use Rattle.bd_worker.specs.declared.seat.Seat.{Seat}
use Rattle.bd_worker.specs.Seats.{part_in, IsHandedOut}
use Rattle.bd_node.proofs.gathering.hand_out_all.Given as goal

abbrev pub invariant-loop-place : goal.invariant-loop-place
invariant-loop-place g l = record {
  later : (i : ℕ) → l.place ≤ i → slice_get l.seats i ≡ slice_get l.initial.seats i;
  out : (i : ℕ) (a b : Seat g.row.D.Denot) → i < l.place → slice_get l.initial.seats i ≡ Some a → slice_get l.seats i ≡ Some b → IsHandedOut l.stamp a b;
  room : length l.parts.items + (length l.initial.seats) ≤ vec_capacity l.parts + l.place;
  parts : l.parts.items ≡ l.initial.parts.items ++ map part_in (take l.place l.initial.seats);
}
