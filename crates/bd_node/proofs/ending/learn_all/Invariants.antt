use Rattle.std.proofs.Common.{◌≡◌, ℕ, ◌<◌, ◌≤◌, Some}
use Rattle.std.specs.List.{slice_get}
use Rattle.bd_worker.specs.declared.seat.Seat.{Seat}
use Rattle.bd_node.specs.Disks.{disks_of}
use Rattle.bd_worker.specs.Shutting.{LearnsShut}
use Rattle.bd_node.proofs.ending.learn_all.Given as goal

abbrev pub invariant-loop-place : goal.invariant-loop-place
invariant-loop-place g l = record {
  first : slice_get l.seats 0 ≡ slice_get l.initial.seats 0;
  disks : disks_of l.seats ≡ disks_of l.initial.seats;
  later : (i : ℕ) → l.place ≤ i → slice_get l.seats i ≡ slice_get l.initial.seats i;
  learnt : (i : ℕ) (a b : Seat g.row.D.Denot) → 0 < i → i < l.place → slice_get l.initial.seats i ≡ Some a → slice_get l.seats i ≡ Some b → LearnsShut l.stamp a b;
}
