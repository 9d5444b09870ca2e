use Rattle.std.proofs.Common.{ℕ, ◌-◌, ◌<◌, ◌≤◌, length, slice_index}
use Rattle.bd_thin_map.proofs.users.next_free.Given as goal

abbrev pub invariant-loop-cluster : goal.invariant-loop-cluster
invariant-loop-cluster l = record {
  there : l.cluster ≤ length l.counts;
  before : (c : ℕ) → c < l.cluster → 0 < slice_index l.counts c;
}

abbrev pub decreases-loop-cluster : goal.decreases-loop-cluster
decreases-loop-cluster l = length l.counts - l.cluster
