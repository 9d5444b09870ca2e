use Rattle.bd_thread.proofs.Starting.{new_is_at_start}
use Rattle.bd_thread.proofs.law.new_is_at_start.Goals as goal

pub returns : goal.returns
returns c = new_is_at_start
