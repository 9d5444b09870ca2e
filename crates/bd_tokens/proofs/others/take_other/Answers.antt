use Rattle.std.proofs.Common.{None, sym, ◌∙◌}
use Rattle.bd_tokens.proofs.Here.{here_at, sets}
use Rattle.bd_tokens.proofs.others.take_other.Goals as goal

pub returns-clause-kept : goal.returns-clause-kept
returns-clause-kept c = c.remove.ensures.value ∙ sym (here_at c.args.map.now.entries c.args.id)

pub returns-clause-gone : goal.returns-clause-gone
returns-clause-gone c = sets c.args.map.now.entries c.remove.new.self.entries c.args.id None c.remove.ensures.updates.0
