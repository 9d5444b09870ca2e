use Rattle.bd_machine.proofs.Timeslices.{some_start_fits}
use Rattle.bd_machine.proofs.law.some_start_fits.Goals as goal

pub returns : goal.returns
returns c = some_start_fits
