use Rattle.std.proofs.Common.{◌≡◌, ◌-◌, ◌≤◌, length, take}
use Rattle.bd_pages.specs.Bytes.{written}
use Rattle.bd_pages.specs.Table.{flat, marks, IsCut, pieces}
use Rattle.bd_pages.proofs.table.put.Given as goal

abbrev pub invariant-loop-done : goal.invariant-loop-done
invariant-loop-done l =
    (l.done ≤ length l.bytes)
    × (flat l.pages ≡ written l.at (take l.done l.bytes) (flat l.initial.pages))
    × IsCut (length (flat l.initial.pages)) (pieces l.pages)
    × (marks l.pages ≡ marks l.initial.pages)

abbrev pub decreases-loop-done : goal.decreases-loop-done
decreases-loop-done l = length l.bytes - l.done
