use Rattle.bd_law_threads.proofs.Ending.{courses_are_complete_run}
use Rattle.bd_law_threads.proofs.law.courses_are_complete_run.Goals as goal

pub returns : goal.returns
returns c = courses_are_complete_run
