use Rattle.std.proofs.Common.{◌<◌, ◌∙◌, sym, arith}
use Rattle.bd_blocks.proofs.Bits.{below_16}
use Rattle.bd_blocks.proofs.threads.without.Goals as goal

pub overflow_cast-result : goal.overflow_cast-result
overflow_cast-result c =
    let below : c.args.t < 16 = below_16 c.args.threads.0 c.args.t (omega arith) (sym c.has.ensures ∙ c.if-has.true) in
    omega (arith, below)

pub overflow_shl-result : goal.overflow_shl-result
overflow_shl-result c = below_16 c.args.threads.0 c.args.t (omega arith) (sym c.has.ensures ∙ c.if-has.true)
