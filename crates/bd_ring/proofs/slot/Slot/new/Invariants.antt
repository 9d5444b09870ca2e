use Rattle.std.proofs.Common.{◌≡◌, ◌≤◌}
use Rattle.crossbeam_queue.specs.Passes.{view, IsPassOf}
use Rattle.bd_ring.specs.SlotRule.{opened_at}
use Rattle.bd_ring.specs.Slots.{later_holders}
use Rattle.bd_ring.proofs.slot.Slot.new.Given as goal

abbrev pub invariant-loop-number : goal.invariant-loop-number
invariant-loop-number g l = record {
  some : 1 ≤ l._number;
  within : l._number ≤ l.fn.passes;
  queue : IsPassOf l.queue l.first;
  capacity : l.queue.cap ≡ 1;
  first : view l.first ≡ record (opened_at (g.R.Journaled.start l.fn.value)) { made = l._number };
  rest : l.all.items ≡ later_holders l.queue.table.shared.table_id (g.R.Journaled.start l.fn.value) l._number;
}
