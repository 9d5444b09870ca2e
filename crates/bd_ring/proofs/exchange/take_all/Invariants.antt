use Rattle.std.proofs.Common.{◌≡◌}
use Rattle.bd_ring.proofs.exchange.take_all.Given as goal

abbrev pub invariant-loop : goal.invariant-loop
invariant-loop g l = record {
  ring : l.pass.ring ≡ l.ring.ring;
  senders : l.pass.senders ≡ l.initial.pass.senders;
  taken : l.pass.taken ≡ l.taken.items;
}
