use Rattle.bd_tokens.proofs.Listed.{each_is_here}
use Rattle.bd_tokens.proofs.law.each_walk_is_here.Goals as goal

pub returns : goal.returns
returns c = each_is_here
