use Rattle.std.proofs.Common.{◌≡◌, ◌++◌, map}
use Rattle.bd_ring.proofs.slot.Slot.settle.Given as goal

abbrev pub invariant-loop-other : goal.invariant-loop-other
invariant-loop-other g l = record {
  can : (goal.iterator-loop-other g).can_next l.other-iterator;
  ends : (goal.iterator-loop-other g).is_finite l.other-iterator;
  settling : l.settling ≡ record l.initial.settling { wrote = l.initial.settling.wrote ++ map (λ p. p.wrote) l.yielded; seen = l.initial.settling.seen ++ map (λ p. p.seen) l.yielded };
}
