use Rattle.std.proofs.Common.{◌≡◌, ◌-◌, ◌≤◌, length}
use Rattle.bd_pages.specs.Bytes.{written}
use Rattle.bd_pages.specs.Fills.{patterns}
use Rattle.bd_pages.specs.Table.{flat, marks, IsCut, pieces}
use Rattle.bd_pages.proofs.table.fill_blocks.Given as goal

abbrev pub invariant-loop-done : goal.invariant-loop-done
invariant-loop-done l =
    (l.done ≤ l.span.count)
    × (flat l.pages ≡ written l.span.at (patterns l.seed l.number l.span.size l.done) (flat l.initial.pages))
    × IsCut (length (flat l.initial.pages)) (pieces l.pages)
    × (marks l.pages ≡ marks l.initial.pages)

abbrev pub decreases-loop-done : goal.decreases-loop-done
decreases-loop-done l = l.span.count - l.done
