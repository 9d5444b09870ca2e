use Rattle.bd_law_threads.proofs.Ending.{bases_end_as_seen}
use Rattle.bd_law_threads.proofs.law.bases_end_as_seen.Goals as goal

pub returns : goal.returns
returns c = bases_end_as_seen
