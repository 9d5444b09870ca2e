use Rattle.bd_law_disks.proofs.Steps.{own_steps_are_same}
use Rattle.bd_law_disks.proofs.law.own_steps_are_same.Goals as goal

pub returns : goal.returns
returns c = own_steps_are_same
