use Rattle.bd_law_threads.proofs.Arriving.{arrivals_are_met}
use Rattle.bd_law_threads.proofs.law.arrivals_are_met.Goals as goal

pub returns : goal.returns
returns c = arrivals_are_met
