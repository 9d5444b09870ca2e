use Rattle.bd_thread.proofs.Still.{each_rests}
use Rattle.bd_thread.proofs.law.each_rests.Goals as goal

pub returns : goal.returns
returns c = each_rests
