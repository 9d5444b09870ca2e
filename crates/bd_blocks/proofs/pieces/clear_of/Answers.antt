use Rattle.bd_blocks.proofs.Runs.{no_boundary, way_to_multiple}
use Rattle.bd_blocks.proofs.pieces.clear_of.Goals as goal

pub returns-then-boundary-eq0 : goal.returns-then-boundary-eq0
returns-then-boundary-eq0 c = no_boundary c.args.boundary c.args.block c.args.most c.if-boundary-eq0.true c.requires

pub returns : goal.returns
returns c = way_to_multiple c.args.boundary c.args.block c.args.most c.min.result c.if-boundary-eq0.false c.requires c.min.ensures
