use Rattle.bd_law_threads.proofs.Shutting.{shutdown_begins_a_phase}
use Rattle.bd_law_threads.proofs.law.shutdown_begins_a_phase.Goals as goal

pub returns : goal.returns
returns c = shutdown_begins_a_phase
