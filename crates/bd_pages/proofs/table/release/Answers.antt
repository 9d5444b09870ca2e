use Rattle.std.proofs.Common.{◌∙◌, arith}
use Rattle.std.proofs.lemmas.List.{length-set}
use Rattle.bd_pages.proofs.Steps.{contents_stay}
use Rattle.bd_pages.proofs.table.release.Goals as goal

pub loop-k-preserved : goal.loop-k-preserved
loop-k-preserved c = (
  length-set c.loop-k.pages c.loop-k.k c.release.new.self ∙ c.loop-k.invariant.0,
  contents_stay c.args.pages.now c.loop-k.pages c.loop-k.k c.index-pages-k.result c.release.new.self c.loop-k.invariant.1 (omega arith) c.release.ensures.bytes c.release.ensures.taken,
)
