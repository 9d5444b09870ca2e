use Rattle.std.proofs.Common.{◌≡◌, ◌≤◌, take}
use Rattle.std.specs.List.{count_by}
use Rattle.bd_pages.proofs.table.count.Given as goal

abbrev pub invariant-loop-page : goal.invariant-loop-page
invariant-loop-page l = (l.count ≡ count_by (λ page. page.taken) (take l.page-index l.pages)) × (l.count ≤ l.page-index)
