use Rattle.std.proofs.Common.{Some}
use Rattle.bd_tokens.proofs.Here.{sets}
use Rattle.bd_tokens.proofs.others.hold_other.Goals as goal

pub returns-clause-ok : goal.returns-clause-ok
returns-clause-ok c = sets c.args.map.now.entries c.insert.new.self.entries c.args.id (Some c.args.kept) c.in_ok-insert.ensures.updates.0
