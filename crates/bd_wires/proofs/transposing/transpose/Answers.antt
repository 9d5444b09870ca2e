use Rattle.std.proofs.Common.{◌≡◌, length, arith}
use Rattle.bd_wires.proofs.Exchanging.{all-none, all-more, square-kept, transposed}
use Rattle.bd_wires.proofs.transposing.transpose.Goals as goal

pub loop-thread-init : goal.loop-thread-init
loop-thread-init c = all-none c.args.passes.now

pub exchange_row-requires-clause-square : goal.exchange_row-requires-clause-square
exchange_row-requires-clause-square c = square-kept c.args.passes.now c.loop-thread.passes c.requires.square c.loop-thread.invariant.rest

pub loop-thread-preserved : goal.loop-thread-preserved
loop-thread-preserved c = all-more c.loop-thread.thread c.args.passes.now c.loop-thread.passes c.exchange_row.new.passes c.loop-thread.invariant c.exchange_row.ensures

pub returns : goal.returns
returns c =
    let n : c.loop-thread.thread ≡ length c.args.passes.now = omega arith in
    transposed c.args.passes.now c.loop-thread.passes c.loop-thread.thread c.requires.square n c.loop-thread.invariant
