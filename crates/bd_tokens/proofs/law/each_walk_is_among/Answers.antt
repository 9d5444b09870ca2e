use Rattle.bd_tokens.proofs.Listed.{each_is_among}
use Rattle.bd_tokens.proofs.law.each_walk_is_among.Goals as goal

pub returns : goal.returns
returns c = each_is_among
