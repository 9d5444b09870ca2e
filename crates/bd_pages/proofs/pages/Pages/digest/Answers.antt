use Rattle.std.proofs.Common.{List, ap, sym, ◌∙◌}
use Rattle.sha2.specs.Sha256.{sha256}
use Rattle.bd_pages.specs.Leaf.{Leaf}
use Rattle.bd_pages.specs.Table.{flat}
use Rattle.bd_pages.proofs.Ranges.{seen_concat}
use Rattle.bd_pages.proofs.pages.Pages.digest.Goals as goal

pub returns : goal.returns
returns c =
    c.digest.ensures
    ∙ ap (λ (pages : List Leaf). sha256 (flat pages)) c.as_slice.ensures.value
    ∙ ap sha256 (sym (seen_concat c.self.inside.size c.self.inside.count c.self.inside.pages.items c.args.self.now c.self.view_is c.self.invariant.all))
