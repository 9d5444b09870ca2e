use Rattle.std.proofs.Common.{◌≡◌, ◌*◌, ℕ, List, replicate, sym, ◌∙◌, ap, arith}
use Rattle.bd_volume.proofs.Zeros.{concat_zeros}
use Rattle.bd_volume.proofs.clusters.zeros.Goals as goal

pub returns : goal.returns
returns c =
    let len : c.in-Some.len ≡ c.args.count * c.args.size = omega (arith, c.in-Some.ensures) in
    c.from_vec.ensures ∙ c.in_ok-vec.ensures.items_if_clones_equal (λ y e. e) ∙ ap (λ (k : ℕ). let zs : List ℕ = replicate k 0 in zs) len ∙ sym (concat_zeros c.args.count c.args.size)
