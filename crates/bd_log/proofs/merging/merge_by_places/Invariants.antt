use Rattle.std.proofs.Common.{◌≡◌, ℕ, ◌+◌, ◌-◌, ◌<◌, ◌≤◌, List, ◌++◌, length, get_or, vec_len, vec_capacity}
use Rattle.std.specs.List.{AllByRecursion, sum_by}
use Rattle.bd_base.specs.declared.act.Entry.{Entry}
use Rattle.bd_base.specs.ThreadSet.{Has}
use Rattle.bd_log.specs.Merge.{Part}
use Rattle.bd_log.specs.Places.{AreMarked}
use Rattle.bd_log.proofs.ByPlaces.{IsOpen}
use Rattle.bd_log.proofs.Taking.{Merges}
use Rattle.bd_log.proofs.merging.merge_by_places.Given as goal

-- what was put so far is the beginning of the merge, there is room for what is left, and no stamp that is left is below this one
abbrev pub invariant-loop-set : goal.invariant-loop-set
invariant-loop-set l = record {
  so_far : (out : List Entry) × (l.trace.items ≡ l.fn.trace.items ++ out) × Merges l.fn.left l.left out;
  room : vec_len l.trace + sum_by (λ p. length p.entries) l.left ≤ vec_capacity l.trace;
  marked : AreMarked l.places.first l.places.sets.items l.left;
  stamp : l.stamp ≡ l.places.first + l.set-index;
  least : (j : ℕ) (d : Part) → j < length l.left → AllByRecursion (λ y. l.stamp ≤ y.stamp) (get_or l.left j d).entries;
}

-- the same, and a part whose place isn't in the set has no entry of the stamp
abbrev pub invariant-loop-thread : goal.invariant-loop-thread
invariant-loop-thread l = record {
  so_far : (out : List Entry) × (l.trace.items ≡ l.fn.trace.items ++ out) × Merges l.fn.left l.left out;
  room : vec_len l.trace + sum_by (λ p. length p.entries) l.left ≤ vec_capacity l.trace;
  marked : AreMarked l.places.first l.places.sets.items l.left;
  opened : IsOpen l.left l.stamp l.rest.0;
  passed : (k : ℕ) → k < l.past → Has l.rest.0 k → ⊥;
  few : l.past ≤ 16;
}

abbrev pub decreases-loop-thread : goal.decreases-loop-thread
decreases-loop-thread l = 16 - l.past
