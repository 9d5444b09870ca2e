use Rattle.std.proofs.Common.{ℕ, ◌/◌, ◌%◌, take, drop, ap, sym, ◌∙◌, arith}
use Rattle.std.specs.List.{concat}
use Rattle.bd_volume.specs.Clusters.{Placed, blocks_at}
use Rattle.bd_volume.proofs.Volumes.{volume_read}
use Rattle.bd_volume.proofs.volume.Volume.read_one.Goals as goal

pub returns : goal.returns
returns c =
    let s : Placed = c.self.inside.clusters in
    let lba : ℕ = c.args.lba in
    let n : ℕ = c.args.count in
    let e = c.cluster-cluster.ensures in
    c.in_ok-bytes.ensures
    ∙ ap (λ (m : ℕ). concat (take n (drop (lba % m) (blocks_at s (lba / m))))) e.value
    ∙ ap concat (sym (volume_read c.self.inside.count s c.args.self.now c.self.view_is (omega (arith, e.some, e.value)) (λ k. e.each k ∙ e.value) lba n c.requires.inside c.requires.within))
