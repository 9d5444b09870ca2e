use Rattle.bd_law_logs.proofs.OfParts.{merge_of_parts}
use Rattle.bd_law_logs.proofs.law.merge_of_parts.Goals as goal

pub returns : goal.returns
returns c = merge_of_parts
