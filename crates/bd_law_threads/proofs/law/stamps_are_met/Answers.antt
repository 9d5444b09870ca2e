use Rattle.bd_law_threads.proofs.Arriving.{stamps_are_met}
use Rattle.bd_law_threads.proofs.law.stamps_are_met.Goals as goal

pub returns : goal.returns
returns c = stamps_are_met
