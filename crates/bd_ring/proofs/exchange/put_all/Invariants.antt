use Rattle.std.proofs.Common.{◌≤◌}
use Rattle.bd_ring.specs.Counting.{HasPut}
use Rattle.bd_ring.proofs.exchange.put_all.Given as goal

abbrev pub invariant-loop : goal.invariant-loop
invariant-loop g l = record {
  pass : HasPut l.next l.initial.pass l.pass;
  within : l.next ≤ l.count;
}
