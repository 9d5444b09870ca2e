use Rattle.bd_law_threads.proofs.Acting.{acts_on}
use Rattle.bd_law_threads.proofs.law.acts_go_on.Goals as goal

pub returns : goal.returns
returns c = acts_on
