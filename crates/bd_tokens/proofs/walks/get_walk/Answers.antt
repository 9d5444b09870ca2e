use Rattle.std.proofs.Common.{sym, rules}
use Rattle.bd_tokens.proofs.Listed.{seen_at, seen_none}
use Rattle.bd_tokens.proofs.walks.get_walk.Goals as goal

pub returns-in-Some : goal.returns-in-Some
returns-in-Some c = sym (seen_at c.args.id c.args.walks.now c.in-Some.place c.index-walks-place.result (search rules))

pub returns-in-None : goal.returns-in-None
returns-in-None c = sym (seen_none c.args.id c.args.walks.now (search rules))
