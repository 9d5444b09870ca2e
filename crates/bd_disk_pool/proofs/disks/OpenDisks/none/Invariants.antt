use Rattle.std.proofs.Common.{◌≡◌, ◌≤◌, []}
use Rattle.std.specs.Prelude.{replicate, vec_len}
use Rattle.std.specs.Vec.{vec_capacity}
use Rattle.bd_disk_pool.proofs.disks.OpenDisks.none.Given as goal

abbrev pub invariant-loop : goal.invariant-loop
invariant-loop g l = record {
  len : vec_len l.all ≡ l.counter;
  items : l.all.items ≡ replicate l.counter [];
  room : l.threads ≤ vec_capacity l.all;
}
