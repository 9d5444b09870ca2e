use Rattle.std.proofs.Common.{◌∙◌, ◌<◌, Bool, true, List, length, set, ap, arith}
use Rattle.std.proofs.lemmas.List.{length-map, length-set}
use Rattle.bd_pages.specs.Leaf.{Leaf}
use Rattle.bd_pages.specs.Table.{marks}
use Rattle.bd_pages.proofs.Splices.{written_more}
use Rattle.bd_pages.proofs.Steps.{map_set, map_stays, holds_next, holds_on}
use Rattle.bd_pages.proofs.table.mark.Goals as goal

pub loop-k-preserved : goal.loop-k-preserved
loop-k-preserved c =
    let p = c.index-pages-k.result in
    let q = c.mark.new.self in
    let is = c.mark.ensures in
    let old = c.args.pages.now in
    let there : c.loop-k.k < length c.loop-k.pages = omega arith in
    let there' : c.loop-k.k < length (marks old) = omega (arith, length-map old (λ (p : Leaf). p.taken)) in (
      length-set c.loop-k.pages c.loop-k.k q ∙ c.loop-k.invariant.0,
      map_stays (λ (x : Leaf). x.bytes) c.loop-k.pages c.loop-k.k p q there (ap (λ (x : Leaf). x.bytes) is) ∙ c.loop-k.invariant.1,
      map_set (λ (x : Leaf). x.taken) c.loop-k.pages c.loop-k.k q
          ∙ ap (λ (b : Bool). set (marks c.loop-k.pages) c.loop-k.k b) (ap (λ (x : Leaf). x.taken) is)
          ∙ ap (λ (bs : List Bool). set bs c.loop-k.k true) c.loop-k.invariant.2
          ∙ written_more c.args.first c.loop-k.k true (marks old) (omega arith) there',
      holds_next (λ (x : Leaf). x.taken) c.args.first c.loop-k.k c.loop-k.pages q c.loop-k.invariant.3 there (ap (λ (x : Leaf). x.taken) is),
      holds_on (λ (x : Leaf). x.ready) c.args.first c.args.end c.loop-k.k c.loop-k.pages q c.loop-k.invariant.4 there (ap (λ (x : Leaf). x.ready) is ∙ c.loop-k.invariant.4 c.loop-k.k p (omega arith) (omega arith)),
    )
