use Rattle.bd_thread.proofs.Wanted.{nothing_else_waits}
use Rattle.bd_thread.proofs.law.nothing_else_waits.Goals as goal

pub returns : goal.returns
returns c = nothing_else_waits
