use Rattle.bd_stack.proofs.Downwards.{below_is}
use Rattle.bd_stack.proofs.path.below.Goals as goal

pub returns : goal.returns
returns c = below_is c.args.setup.now c.len.result c.args.dev c.len.ensures
