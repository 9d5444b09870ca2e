use Rattle.bd_machine.proofs.Timeslices.{left_starts_fit}
use Rattle.bd_machine.proofs.law.left_starts_fit.Goals as goal

pub returns : goal.returns
returns c = left_starts_fit
