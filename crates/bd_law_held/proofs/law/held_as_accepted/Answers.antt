use Rattle.bd_law_held.proofs.Accepted.{held_as_accepted}
use Rattle.bd_law_held.proofs.law.held_as_accepted.Goals as goal

pub returns : goal.returns
returns c = held_as_accepted
