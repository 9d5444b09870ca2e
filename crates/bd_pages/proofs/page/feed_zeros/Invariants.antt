use Rattle.std.proofs.Common.{ℕ, ◌-◌, ◌≤◌, List, ◌++◌, replicate}
use Rattle.sha2.specs.Hashers.{Holds256}
use Rattle.bd_pages.proofs.page.feed_zeros.Given as goal

abbrev pub invariant-loop-done : goal.invariant-loop-done
invariant-loop-done l = (l.done ≤ l.n) × ((m : List ℕ) → Holds256 l.initial.hasher m → Holds256 l.hasher (m ++ replicate l.done 0))

abbrev pub decreases-loop-done : goal.decreases-loop-done
decreases-loop-done l = l.n - l.done
