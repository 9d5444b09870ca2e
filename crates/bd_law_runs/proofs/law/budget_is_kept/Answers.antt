use Rattle.bd_law_runs.proofs.Ledger.{budget_is_kept}
use Rattle.bd_law_runs.proofs.law.budget_is_kept.Goals as goal

pub returns : goal.returns
returns c = budget_is_kept
