use Rattle.std.proofs.Common.{◌≡◌, ◌≤◌, false}
use Rattle.bd_ring.specs.Counting.{first_rows, bare_start}
use Rattle.bd_ring.proofs.writers.write_all.Given as goal

abbrev pub invariant-loop : goal.invariant-loop
invariant-loop g l = record {
  slot : l.pass.slot ≡ l.slot;
  thread : l.pass.thread ≡ l.thread;
  passes : l.pass.passes ≡ l.initial.pass.passes;
  free : l.pass.holds ≡ false;
  wrote : l.pass.wrote ≡ first_rows l.thread l.next;
  start : l.pass.start ≡ bare_start 2;
  within : l.next ≤ l.count;
}
