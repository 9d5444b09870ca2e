use Rattle.std.proofs.Common.{◌≡◌}
use Rattle.bd_ring.proofs.exchange.exchange.Given as goal

abbrev pub invariant-loop : goal.invariant-loop
invariant-loop g l = record {
  puts : l.settled.puts ≡ l.initial.settled.puts;
  taken : l.settled.taken ≡ l.taken.items;
}
