use Rattle.std.proofs.Common.{take}
use Rattle.sha2.specs.Hashers.{Holds256}
use Rattle.bd_pages.specs.Table.{flat}
use Rattle.bd_pages.proofs.table.digest.Given as goal

abbrev pub invariant-loop-page : goal.invariant-loop-page
invariant-loop-page l = Holds256 l.hasher (flat (take l.page-index l.pages))
