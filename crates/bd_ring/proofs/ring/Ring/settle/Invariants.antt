use Rattle.std.proofs.Common.{◌≡◌, map}
use Rattle.bd_ring.proofs.ring.Ring.settle.Given as goal

abbrev pub invariant-loop-send : goal.invariant-loop-send
invariant-loop-send l = record {
  can : (goal.iterator-loop-send).can_next l.send-iterator;
  ends : (goal.iterator-loop-send).is_finite l.send-iterator;
  settling : l.settling ≡ record l.initial.settling { puts = map (λ s. s.put) l.yielded };
}
