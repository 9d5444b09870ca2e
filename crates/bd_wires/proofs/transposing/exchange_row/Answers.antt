use Rattle.bd_wires.proofs.Exchanging.{row-none, row-more, square-kept}
use Rattle.bd_wires.proofs.transposing.exchange_row.Goals as goal

pub loop-earlier-init : goal.loop-earlier-init
loop-earlier-init c = row-none c.args.thread c.args.passes.now

pub exchange-requires-clause-square : goal.exchange-requires-clause-square
exchange-requires-clause-square c = square-kept c.args.passes.now c.loop-earlier.passes c.requires.square c.loop-earlier.invariant.rest

pub loop-earlier-preserved : goal.loop-earlier-preserved
loop-earlier-preserved c = row-more c.args.thread c.loop-earlier.earlier c.args.passes.now c.loop-earlier.passes c.exchange.new.passes c.loop-earlier-test.true c.loop-earlier.invariant c.exchange.ensures
