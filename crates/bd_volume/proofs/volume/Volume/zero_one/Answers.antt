use Rattle.std.proofs.Common.{◌≡◌, ℕ, ◌+◌, ◌/◌, ◌%◌, ◌++◌, take, drop, ap, subst, ◌∙◌, arith}
use Rattle.bd_pages.specs.Pages.{zeroed}
use Rattle.bd_volume.specs.Clusters.{Placed, blocks_at}
use Rattle.bd_volume.proofs.Volumes.{volume_put}
use Rattle.bd_volume.proofs.Zeros.{zeroed_count}
use Rattle.bd_volume.proofs.volume.Volume.zero_one.Goals as goal

pub returns-clause-ok : goal.returns-clause-ok
returns-clause-ok c =
    let s : Placed = c.self.inside.clusters in
    let new : Placed = c.zero.new.self in
    let lba : ℕ = c.args.lba in
    let n : ℕ = c.args.count in
    let e = c.cluster-cluster.ensures in
    volume_put c.self.inside.count s c.args.self.now c.self.view_is (omega (arith, e.some, e.value)) (λ k. e.each k ∙ e.value) lba n c.requires.inside c.requires.within
    new zeroed zeroed_count c.in_ok-zero.ensures.cluster (λ k other. c.in_ok-zero.ensures.apart k (λ same. other (same ∙ ap (λ (m : ℕ). lba / m) e.value)))
    (subst (λ (m : ℕ). blocks_at new (lba / m) ≡ take (lba % m) (blocks_at s (lba / m)) ++ zeroed (take n (drop (lba % m) (blocks_at s (lba / m)))) ++ drop (lba % m + n) (blocks_at s (lba / m))) e.value c.in_ok-zero.ensures.here)
