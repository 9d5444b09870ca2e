use Rattle.std.proofs.Common.{leb-true, arith}
use Rattle.bd_stack.proofs.Standing.{few_firsts}
use Rattle.bd_stack.proofs.groups.is_later.Goals as goal

pub returns : goal.returns
returns c = λ later. omega (arith, few_firsts c.args.setup.now, c.count_standing.ensures, leb-true c.count_standing.result c.args.handle.0 later)
