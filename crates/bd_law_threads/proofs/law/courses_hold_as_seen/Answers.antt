use Rattle.bd_law_threads.proofs.Ending.{courses_hold_as_seen}
use Rattle.bd_law_threads.proofs.law.courses_hold_as_seen.Goals as goal

pub returns : goal.returns
returns c = courses_hold_as_seen
