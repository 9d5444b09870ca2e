use Rattle.bd_law_held.proofs.Restamped.{merge_holds_as_seen}
use Rattle.bd_law_held.proofs.law.merge_holds_as_seen.Goals as goal

pub returns : goal.returns
returns c = merge_holds_as_seen
