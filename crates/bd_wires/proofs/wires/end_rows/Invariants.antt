use Rattle.std.proofs.Common.{◌≡◌, ℕ, ◌++◌, Some, map}
use Rattle.std.specs.Prelude.{slice_get}
use Rattle.bd_ring.specs.Rings.{Place}
use Rattle.bd_wires.specs.declared.wires.Passes.{Passes}
use Rattle.bd_wires.specs.Rows.{IsDrained}
use Rattle.bd_wires.proofs.wires.end_rows.Given as goal

abbrev pub invariant-loop-ring : goal.invariant-loop-ring
invariant-loop-ring g l = record {
  can : (goal.iterator-loop-ring g).can_next l.ring-iterator;
  ends : (goal.iterator-loop-ring g).is_finite l.ring-iterator;
  settling : l.settling ≡ record l.initial.settling { wrote = l.initial.settling.wrote ++ map (λ (p : Place × Passes). p.1.slot.wrote) l.yielded; seen = l.initial.settling.seen ++ map (λ (p : Place × Passes). p.1.slot.seen) l.yielded };
  drained : (k : ℕ) (p : Place × Passes) → slice_get l.yielded k ≡ Some p → IsDrained p.1.take.taken p.1.sends.items;
}
