use Rattle.std.proofs.lemmas.List.{drop_more}
use Rattle.bd_steps.proofs.Holding.{hold_step}
use Rattle.bd_steps.proofs.pieces.hold_pieces.Goals as goal

pub loop-extent-preserved : goal.loop-extent-preserved
loop-extent-preserved c =
    hold_step c.args.setup.now c.args.req c.args.r c.loop-extent.k c.in-Some.more _ _ _ c.in_ok-piece.piece c.loop-extent.tokens.items c.hold.new.self.items _
    (drop_more c.args.extents.now c.loop-extent.extent-index _ c.loop-extent-test.true) c.in_ok-piece.ensures c.in-Some.ensures.1 c.in_ok-hold.ensures.ok c.loop-extent.invariant
