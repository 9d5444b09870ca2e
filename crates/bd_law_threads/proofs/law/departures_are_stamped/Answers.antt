use Rattle.bd_law_threads.proofs.Leaving.{departures_are_stamped}
use Rattle.bd_law_threads.proofs.law.departures_are_stamped.Goals as goal

pub returns : goal.returns
returns c = departures_are_stamped
