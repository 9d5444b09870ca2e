use Rattle.std.proofs.Common.{◌≡◌, ℕ, ◌+◌, ◌/◌, ◌%◌, List, ◌++◌, take, drop, ap, subst, ◌∙◌, arith}
use Rattle.bd_pages.specs.Fills.{filled}
use Rattle.bd_volume.specs.Clusters.{Placed, blocks_at}
use Rattle.bd_volume.proofs.Volumes.{volume_put}
use Rattle.bd_volume.proofs.Zeros.{filled_count}
use Rattle.bd_volume.proofs.volume.Volume.fill_one.Goals as goal

pub returns-clause-ok : goal.returns-clause-ok
returns-clause-ok c =
    let s : Placed = c.self.inside.clusters in
    let new : Placed = c.fill.new.self in
    let lba : ℕ = c.args.lba in
    let n : ℕ = c.args.count in
    let e = c.cluster-cluster.ensures in
    let F : List (List ℕ) → List (List ℕ) = λ bs. filled c.args.fill c.args.number bs in
    volume_put c.self.inside.count s c.args.self.now c.self.view_is (omega (arith, e.some, e.value)) (λ k. e.each k ∙ e.value) lba n c.requires.inside c.requires.within
    new F (filled_count c.args.fill c.args.number) c.in_ok-fill.ensures.cluster (λ k other. c.in_ok-fill.ensures.apart k (λ same. other (same ∙ ap (λ (m : ℕ). lba / m) e.value)))
    (subst (λ (m : ℕ). blocks_at new (lba / m) ≡ take (lba % m) (blocks_at s (lba / m)) ++ F (take n (drop (lba % m) (blocks_at s (lba / m)))) ++ drop (lba % m + n) (blocks_at s (lba / m))) e.value c.in_ok-fill.ensures.here)
