use Rattle.bd_law_grace.proofs.Kept.{grace_is_kept}
use Rattle.bd_law_grace.proofs.law.grace_is_kept.Goals as goal

pub returns : goal.returns
returns c = grace_is_kept
