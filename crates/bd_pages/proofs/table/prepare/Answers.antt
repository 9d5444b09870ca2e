use Rattle.std.proofs.Common.{◌∙◌, ap, arith}
use Rattle.std.proofs.lemmas.List.{length-set}
use Rattle.bd_pages.specs.Leaf.{Leaf}
use Rattle.bd_pages.proofs.Steps.{contents_stay, holds_next}
use Rattle.bd_pages.proofs.table.prepare.Goals as goal

pub loop-k-preserved : goal.loop-k-preserved
loop-k-preserved c =
    let is = c.in_ok-prepare.ensures.ok in (
      length-set c.loop-k.pages c.loop-k.k c.prepare.new.self ∙ c.loop-k.invariant.0,
      contents_stay c.args.pages.now c.loop-k.pages c.loop-k.k c.index-pages-k.result c.prepare.new.self c.loop-k.invariant.1 (omega arith) (ap (λ (p : Leaf). p.bytes) is) (ap (λ (p : Leaf). p.taken) is),
      holds_next (λ (p : Leaf). p.ready) c.args.first c.loop-k.k c.loop-k.pages c.prepare.new.self c.loop-k.invariant.2 (omega arith) (ap (λ (p : Leaf). p.ready) is),
    )
