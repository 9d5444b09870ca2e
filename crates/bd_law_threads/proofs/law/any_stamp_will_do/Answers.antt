use Rattle.bd_law_threads.proofs.Acting.{any_stamp}
use Rattle.bd_law_threads.proofs.law.any_stamp_will_do.Goals as goal

pub returns : goal.returns
returns c = any_stamp
