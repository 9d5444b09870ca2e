use Rattle.std.proofs.Common.{◌≡◌, length, subst}
use Rattle.std.specs.Prelude.{All}
use Rattle.bd_pages.proofs.Chunks.{blocks_even}
use Rattle.bd_volume.specs.Clusters.{Stored}
use Rattle.bd_volume.proofs.store.Store.size.Goals as goal

pub returns-clause-each : goal.returns-clause-each
returns-clause-each c =
    subst (λ (s : Stored). All (λ block. length block ≡ c.self.inside.size) s.blocks) c.self.view_is
    (blocks_even c.self.inside.size c.self.inside.count c.self.inside.bytes.items c.self.invariant)
