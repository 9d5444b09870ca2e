use Rattle.bd_pages.specs.Table.{SameContents}
use Rattle.std.proofs.Common.{◌≡◌, length}
use Rattle.bd_pages.proofs.table.release.Given as goal

abbrev pub invariant-loop-k : goal.invariant-loop-k
invariant-loop-k l = (length l.pages ≡ length l.initial.pages) × SameContents l.initial.pages l.pages
