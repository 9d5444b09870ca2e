use Rattle.std.proofs.Common.{ℕ, List, replicate, ap, sym, ◌∙◌, arith}
use Rattle.bd_volume.proofs.Orders.{content_zeros}
use Rattle.bd_volume.proofs.volume.Volume.zeros.Goals as goal

pub returns-clause-blocks : goal.returns-clause-blocks
returns-clause-blocks c =
    let z : List ℕ = replicate c.args.size 0 in
    let e = c.new-clusters.ensures in
    content_zeros c.args.blocks c.new-clusters.result z (omega (arith, e.cluster, c.requires)) (λ k. e.blocks k ∙ ap (λ (n : ℕ). replicate n z) (sym e.cluster))
