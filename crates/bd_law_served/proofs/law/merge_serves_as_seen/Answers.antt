use Rattle.bd_law_served.proofs.Restamped.{merge_serves_as_seen}
use Rattle.bd_law_served.proofs.law.merge_serves_as_seen.Goals as goal

pub returns : goal.returns
returns c = merge_serves_as_seen
