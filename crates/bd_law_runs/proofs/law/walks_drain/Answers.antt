use Rattle.bd_law_runs.proofs.Drains.{walks_drain}
use Rattle.bd_law_runs.proofs.law.walks_drain.Goals as goal

pub returns : goal.returns
returns c = walks_drain
