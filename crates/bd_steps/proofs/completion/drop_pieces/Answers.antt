use Rattle.std.proofs.Common.{◌<◌, arith}
use Rattle.bd_steps.proofs.Completing.{gone_step}
use Rattle.bd_steps.proofs.Left.{left_from}
use Rattle.bd_steps.proofs.completion.drop_pieces.Goals as goal

pub loop-k-preserved : goal.loop-k-preserved
loop-k-preserved c =
    let less : c.loop-k.k < c.args.n = omega (arith, c.loop-k-test.true, c.loop-k.auto.k-end) in
    gone_step c.args.req c.loop-k.k _ _ c.loop-k.tokens.items c.let_go.new.self.items _ (left_from c.loop-k.k c.args.n less) c.let_go.ensures.gone c.loop-k.invariant
