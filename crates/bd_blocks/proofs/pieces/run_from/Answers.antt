use Rattle.std.proofs.lemmas.Result.{IfOk-weaker}
use Rattle.bd_blocks.proofs.Cutting.{cut_run}
use Rattle.bd_blocks.proofs.pieces.run_from.Goals as goal

pub returns : goal.returns
returns c = IfOk-weaker c.clear_within.result _ _ (λ run. cut_run c.args.setup.now c.len.result c.args.dev c.args.block c.args.most run c.len.ensures) c.clear_within.ensures
