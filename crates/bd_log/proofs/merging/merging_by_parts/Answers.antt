use Rattle.bd_log.proofs.Unique.{merging_by_parts}
use Rattle.bd_log.proofs.merging.merging_by_parts.Goals as goal

pub returns : goal.returns
returns c = merging_by_parts
