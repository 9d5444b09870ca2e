use Rattle.std.proofs.Common.{◌≡◌}
use Rattle.bd_seat.specs.Outgoing.{Flushed}
use Rattle.bd_seat.proofs.outgoing.flush.Given as goal

abbrev pub invariant-loop : goal.invariant-loop
invariant-loop g l = record {
  flushed : Flushed l.stamp l.initial.pass l.initial.queue l.pass l.queue;
  ring : l.pass.ring ≡ l.ring.ring;
  none : l.pass.refused ≡ l.initial.pass.refused;
}
