use Rattle.std.proofs.Common.{◌≡◌, ℕ, ◌*◌, List, replicate, ap, ◌∙◌, arith}
use Rattle.bd_pages.specs.Pages.{blocks_of}
use Rattle.bd_pages.proofs.Chunks.{blocks_zeros}
use Rattle.bd_volume.proofs.store.Store.zeros.Goals as goal

pub returns-clause-blocks : goal.returns-clause-blocks
returns-clause-blocks c =
    let count : ℕ = c.args.count in
    let size : ℕ = c.args.size in
    let len : c.in-Some.len ≡ count * size = omega (arith, c.in-Some.ensures) in
    ap (λ (bytes : List ℕ). blocks_of size count bytes) (c.in_ok-bytes.ensures.items_if_clones_equal (λ y e. e) ∙ ap (λ (k : ℕ). let zs : List ℕ = replicate k 0 in zs) len)
    ∙ blocks_zeros size count (count * size) (omega arith)
