use Rattle.bd_pages.specs.Table.{AreReady, SameContents}
use Rattle.std.proofs.Common.{◌≡◌, length}
use Rattle.bd_pages.proofs.table.prepare.Given as goal

abbrev pub invariant-loop-k : goal.invariant-loop-k
invariant-loop-k l = (length l.pages ≡ length l.initial.pages) × SameContents l.initial.pages l.pages × AreReady l.first l.k l.pages
