use Rattle.std.proofs.Common.{◌≡◌, []}
use Rattle.crossbeam_queue.specs.Passes.{view, IsPassOf}
use Rattle.bd_ring.specs.RingRule.{receiver}
use Rattle.bd_ring.specs.Rings.{first_senders}
use Rattle.bd_ring.proofs.ring.Ring.new.Given as goal

abbrev pub invariant-loop-counted : goal.invariant-loop-counted
invariant-loop-counted l = record {
  queue : IsPassOf l.queue l.pass;
  capacity : l.queue.cap ≡ l.fn.capacity;
  receiver : view l.pass ≡ receiver l._counted 0 [] [];
}

abbrev pub invariant-loop-number : goal.invariant-loop-number
invariant-loop-number l = record {
  queue : IsPassOf l.queue l.pass;
  capacity : l.queue.cap ≡ l.fn.capacity;
  receiver : view l.pass ≡ receiver l.fn.senders l.number [] [];
  senders : l.sends.items ≡ first_senders l.queue.table.shared.table_id l.fn.senders l.number;
}
