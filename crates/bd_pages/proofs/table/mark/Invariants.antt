use Rattle.std.proofs.Common.{◌≡◌, ◌-◌, length, replicate, true}
use Rattle.bd_pages.specs.Bytes.{written}
use Rattle.bd_pages.specs.Table.{AreReady, AreTaken, marks, pieces}
use Rattle.bd_pages.proofs.table.mark.Given as goal

abbrev pub invariant-loop-k : goal.invariant-loop-k
invariant-loop-k l =
    (length l.pages ≡ length l.initial.pages)
    × (pieces l.pages ≡ pieces l.initial.pages)
    × (marks l.pages ≡ written l.first (replicate (l.k - l.first) true) (marks l.initial.pages))
    × AreTaken l.first l.k l.pages
    × AreReady l.first l.end l.pages
