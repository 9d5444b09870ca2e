use Rattle.std.proofs.Common.{sym, ◌∙◌}
use Rattle.bd_tokens.proofs.Here.{here_at}
use Rattle.bd_tokens.proofs.others.get_other.Goals as goal

pub returns : goal.returns
returns c = c.get.ensures.value ∙ sym (here_at c.args.map.now.entries c.args.id)
