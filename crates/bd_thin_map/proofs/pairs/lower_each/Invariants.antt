use Rattle.std.proofs.Common.{◌≡◌, ℕ, ◌+◌, count_by, length, nat_eq, slice_index, take}
use Rattle.indexmap.specs.IndexMap.{values}
use Rattle.bd_thin_map.proofs.pairs.lower_each.Given as goal

abbrev pub invariant-loop-cluster : goal.invariant-loop-cluster
invariant-loop-cluster l = record {
  each : (c : ℕ) → slice_index l.users c + count_by (nat_eq c) (take (length l.yielded) (values l.map)) ≡ slice_index l.fn.users c;
  as_many : length l.users ≡ length l.fn.users;
}
