use Rattle.bd_law_logs.proofs.Follow.{followed_is_found}
use Rattle.bd_law_logs.proofs.law.followed_is_found.Goals as goal

pub returns : goal.returns
returns c = followed_is_found
