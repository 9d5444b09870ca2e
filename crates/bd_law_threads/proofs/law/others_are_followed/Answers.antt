use Rattle.bd_law_threads.proofs.Following.{others_are_followed}
use Rattle.bd_law_threads.proofs.law.others_are_followed.Goals as goal

pub returns : goal.returns
returns c = others_are_followed
