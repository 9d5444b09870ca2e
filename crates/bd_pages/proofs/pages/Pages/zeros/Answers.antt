use Rattle.std.proofs.Common.{ℕ, List, ap, ◌∙◌, arith}
use Rattle.bd_pages.specs.Pages.{blocks_of}
use Rattle.bd_pages.proofs.Chunks.{blocks_zeros}
use Rattle.bd_pages.proofs.pages.Pages.zeros.Goals as goal

pub returns-clause-blocks : goal.returns-clause-blocks
returns-clause-blocks c =
    ap (λ (b : List ℕ). blocks_of c.args.size c.args.blocks b) c.in_ok-pages.ensures.bytes
    ∙ blocks_zeros c.args.size c.args.blocks c.in-Some.len (omega arith)
