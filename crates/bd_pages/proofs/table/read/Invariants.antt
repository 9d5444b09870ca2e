use Rattle.std.proofs.Common.{◌≡◌, ◌-◌, ◌≤◌, ◌++◌, take, drop}
use Rattle.bd_pages.specs.Table.{flat}
use Rattle.bd_pages.proofs.table.read.Given as goal

abbrev pub invariant-loop-done : goal.invariant-loop-done
invariant-loop-done l = (l.done ≤ l.n) × (l.to.items ≡ l.initial.to.items ++ take l.done (drop l.at (flat l.pages)))

abbrev pub decreases-loop-done : goal.decreases-loop-done
decreases-loop-done l = l.n - l.done
