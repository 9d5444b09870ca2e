use Rattle.std.proofs.Common.{◌≡◌, length, map}
use Rattle.bd_wires.specs.Rows.{AreNewRows}
use Rattle.bd_wires.proofs.wires.make_rings.Given as goal

abbrev pub invariant-loop-slot : goal.invariant-loop-slot
invariant-loop-slot l = record {
  can : goal.iterator-loop-slot.can_next l.slot-iterator;
  ends : goal.iterator-loop-slot.is_finite l.slot-iterator;
  rings : length l.rings.items ≡ length l.yielded;
  slots : map (λ q. q.slot) l.rows.items ≡ l.yielded;
  rows : AreNewRows l.threads l.rings.items l.rows.items;
}
