use Rattle.std.proofs.Common.{◌≡◌, ℕ, ◌+◌, ◌<◌, ◌≤◌, List, ◌++◌, length, All, vec_len, vec_capacity}
use Rattle.std.specs.List.{sum_by}
use Rattle.bd_base.specs.declared.act.Entry.{Entry}
use Rattle.bd_log.specs.Firsts.{IsNotBefore}
use Rattle.bd_log.specs.Merge.{IsPart}
use Rattle.bd_log.proofs.SameStamp.{IsPast}
use Rattle.bd_log.proofs.Taking.{Merges}
use Rattle.bd_log.proofs.merging.merge_onto.Given as goal

-- what was put so far is the beginning of the merge, and there is room for what is left
abbrev pub invariant-loop-entry : goal.invariant-loop-entry
invariant-loop-entry l = record {
  so_far : (out : List Entry) × (l.trace.items ≡ l.initial.trace.items ++ out) × Merges l.fn.parts.items l.left out;
  room : vec_len l.trace + sum_by (λ p. length p.entries) l.left ≤ vec_capacity l.trace;
  parts : All IsPart l.left;
  within : l.first < length l.left;
  least : (j : ℕ) → j < length l.left → IsNotBefore l.left j l.first;
}

abbrev pub decreases-loop-entry : goal.decreases-loop-entry
decreases-loop-entry l = sum_by (λ p. length p.entries) l.left

-- the same, and none of the parts before the place has an entry of the stamp
abbrev pub invariant-loop-place : goal.invariant-loop-place
invariant-loop-place l = record {
  so_far : (out : List Entry) × (l.trace.items ≡ l.fn.trace.items ++ out) × Merges l.fn.parts.items l.left out;
  room : vec_len l.trace + sum_by (λ p. length p.entries) l.left ≤ vec_capacity l.trace;
  parts : All IsPart l.left;
  fewer : sum_by (λ p. length p.entries) l.left ≤ sum_by (λ p. length p.entries) l.initial.left;
  past : IsPast l.left l.stamp l.place l.by_thread;
}
