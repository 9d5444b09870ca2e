use Rattle.bd_held.proofs.Keys.{first_due, none_first}
use Rattle.bd_held.proofs.held.Held.is_due.Goals as goal

pub returns-in-Some : goal.returns-in-Some
returns-in-Some c = first_due c.args.now c.args.self.now c.in-Some.first c.in-Some.ensures.first c.in-Some.ensures.least

pub returns-in-None : goal.returns-in-None
returns-in-None c = none_first c.args.now c.args.self.now c.in-None.ensures.first
