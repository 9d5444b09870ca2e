use Rattle.std.proofs.Common.{◌≡◌, ◌-◌, ◌≤◌, length}
use Rattle.bd_base.specs.Pattern.{pattern}
use Rattle.bd_pages.specs.Bytes.{written}
use Rattle.bd_pages.specs.Table.{flat, marks, IsCut, pieces}
use Rattle.bd_pages.proofs.table.fill_block.Given as goal

abbrev pub invariant-loop-done : goal.invariant-loop-done
invariant-loop-done l =
    (l.done ≤ l.n)
    × (flat l.pages ≡ written l.at (pattern l.seed l.block l.done) (flat l.initial.pages))
    × IsCut (length (flat l.initial.pages)) (pieces l.pages)
    × (marks l.pages ≡ marks l.initial.pages)

abbrev pub decreases-loop-done : goal.decreases-loop-done
decreases-loop-done l = l.n - l.done
