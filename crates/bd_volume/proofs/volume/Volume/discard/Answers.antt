use Rattle.std.proofs.Common.{◌≡◌, ℕ, ◌+◌, ◌/◌, ◌%◌, ◌≤◌, ap, subst, ◌∙◌, arith}
use Rattle.bd_pages.specs.Pages.{zeroed}
use Rattle.bd_volume.specs.Clusters.{Clustered, Placed, blocks_at}
use Rattle.bd_volume.proofs.Volumes.{volume_put}
use Rattle.bd_volume.proofs.Zeros.{whole_zeroed, zeroed_count}
use Rattle.bd_volume.proofs.volume.Volume.discard.Goals as goal

pub returns-clause-blocks : goal.returns-clause-blocks
returns-clause-blocks c =
    let s : Placed = c.self.inside.clusters in
    let new : Placed = c.discard.new.self in
    let now : Clustered = c.args.self.now in
    let lba : ℕ = c.args.first in
    let n : ℕ = now.cluster in
    let e = c.cluster-cluster.ensures in
    let same : s.cluster ≡ n = ap (λ (v : Clustered). v.cluster) c.self.view_is in
    let start : lba % s.cluster ≡ 0 = ap (λ (m : ℕ). lba % m) same ∙ c.requires.whole in
    let within : lba % n + n ≤ n = omega (arith, c.requires.whole) in
    volume_put c.self.inside.count s now c.self.view_is (omega (arith, e.some, e.value)) (λ k. e.each k ∙ e.value) lba n c.requires.inside within
    new zeroed zeroed_count c.discard.ensures.cluster (λ k other. c.discard.ensures.apart k (λ is. other (is ∙ ap (λ (m : ℕ). lba / m) e.value)))
    (subst (λ (m : ℕ). blocks_at new (lba / m) ≡ zeroed (blocks_at s (lba / m))) e.value c.discard.ensures.here
    ∙ whole_zeroed (lba % s.cluster) n (blocks_at s (lba / s.cluster)) start (e.each (lba / s.cluster) ∙ e.value ∙ same))
