use Rattle.std.proofs.Common.{◌≡◌, length, subst}
use Rattle.std.specs.Prelude.{All}
use Rattle.bd_pages.specs.Pages.{Paged}
use Rattle.bd_pages.specs.Table.{flat}
use Rattle.bd_pages.proofs.Chunks.{blocks_even}
use Rattle.bd_pages.proofs.pages.Pages.size.Goals as goal

pub returns-clause-each : goal.returns-clause-each
returns-clause-each c =
    subst (λ (p : Paged). All (λ block. length block ≡ c.self.inside.size) p.blocks) c.self.view_is
    (blocks_even c.self.inside.size c.self.inside.count (flat c.self.inside.pages.items) c.self.invariant.all)
