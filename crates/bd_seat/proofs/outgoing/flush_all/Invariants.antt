use Rattle.std.proofs.Common.{◌≡◌, vec_len}
use Rattle.bd_ring.specs.Rings.{AreSendsTo}
use Rattle.bd_seat.proofs.FlushingAll.{FlushedBelow}
use Rattle.bd_seat.proofs.outgoing.flush_all.Given as goal

abbrev pub invariant-loop-to : goal.invariant-loop-to
invariant-loop-to g l = record {
  queues : vec_len l.queues ≡ vec_len l.initial.queues;
  sends : vec_len l.sends ≡ vec_len l.initial.sends;
  each : AreSendsTo l.rings l.sends.items;
  below : FlushedBelow l.to l.me l.stamp l.initial.sends.items l.initial.queues.items l.sends.items l.queues.items;
}
