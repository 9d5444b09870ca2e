use Rattle.std.proofs.Common.{◌≡◌}
use Rattle.bd_ring.proofs.slot.Slot.take.Given as goal

abbrev pub invariant-loop : goal.invariant-loop
invariant-loop g l = record {
  pass : l.pass ≡ record l.initial.pass { missed = l.pass.missed };
}
