use Rattle.bd_machine.proofs.Runs.{prefix_is_run}
use Rattle.bd_machine.proofs.law.prefix_is_run.Goals as goal

pub returns : goal.returns
returns c = prefix_is_run
