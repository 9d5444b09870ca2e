use Rattle.std.proofs.Common.{sym, ◌∙◌, arith}
use Rattle.bd_volume.proofs.Volumes.{seen_length}
use Rattle.bd_volume.proofs.volume.Volume.len.Goals as goal

pub returns : goal.returns
returns c =
    let e = c.cluster-cluster.ensures in
    sym (seen_length c.self.inside.count c.self.inside.clusters c.args.self.now c.self.view_is (omega (arith, e.some, e.value)) (λ k. e.each k ∙ e.value))
