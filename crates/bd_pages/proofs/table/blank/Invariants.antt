use Rattle.std.proofs.Common.{◌≡◌, ℕ, ◌≤◌, List, ◌++◌, false, replicate}
use Rattle.bd_pages.specs.Table.{flat, marks, pieces, pages_of, IsCut}
use Rattle.bd_pages.proofs.table.blank.Given as goal

abbrev pub invariant-loop-left : goal.invariant-loop-left
invariant-loop-left l =
    (l.left ≤ l.len)
    × (flat l.pages.items ++ replicate l.left 0 ≡ replicate l.len 0)
    × ((rest : List (List ℕ)) → IsCut l.left rest → IsCut l.len (pieces l.pages.items ++ rest))
    × (marks l.pages.items ++ replicate (pages_of 0 l.left) false ≡ replicate (pages_of 0 l.len) false)

abbrev pub decreases-loop-left : goal.decreases-loop-left
decreases-loop-left l = l.left
