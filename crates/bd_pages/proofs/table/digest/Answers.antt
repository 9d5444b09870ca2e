use Rattle.std.proofs.Common.{ℕ, List, subst, sym, take, arith}
use Rattle.sha2.specs.Hashers.{Holds256}
use Rattle.bd_pages.specs.Table.{flat}
use Rattle.bd_pages.proofs.Steps.{flat_next}
use Rattle.bd_pages.proofs.table.digest.Goals as goal

pub loop-page-preserved : goal.loop-page-preserved
loop-page-preserved c =
    subst (λ (m : List ℕ). Holds256 c.feed.new.hasher m) (sym (flat_next c.args.pages.now c.loop-page.page-index c.page-item.result (omega arith) c.page-item.is))
    (c.feed.ensures (flat (take c.loop-page.page-index c.args.pages.now)) c.loop-page.invariant)
