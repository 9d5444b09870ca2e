use Rattle.std.proofs.Common.{length, arith}
use Rattle.std.proofs.lemmas.List.{length-map}
use Rattle.bd_pages.specs.Leaf.{Leaf}
use Rattle.bd_pages.specs.Table.{flat, pieces}
use Rattle.bd_pages.proofs.Cuts.{end_inside}
use Rattle.bd_pages.proofs.table.take.Goals as goal

pub prepare-requires : goal.prepare-requires
prepare-requires c =
    let pages = c.args.pages.now in
    let inside = end_inside (length (flat pages)) (pieces pages) c.args.at c.args.n c.requires.paged c.requires.inside in
    omega (arith, inside, length-map pages (λ (p : Leaf). p.bytes))

pub release-requires : goal.release-requires
release-requires c =
    let pages = c.args.pages.now in
    let inside = end_inside (length (flat pages)) (pieces pages) c.args.at c.args.n c.requires.paged c.requires.inside in
    omega (arith, inside, length-map pages (λ (p : Leaf). p.bytes))

pub mark-requires-clause-inside : goal.mark-requires-clause-inside
mark-requires-clause-inside c =
    let pages = c.args.pages.now in
    let inside = end_inside (length (flat pages)) (pieces pages) c.args.at c.args.n c.requires.paged c.requires.inside in
    omega (arith, inside, length-map pages (λ (p : Leaf). p.bytes))
