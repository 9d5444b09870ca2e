use Rattle.bd_log.proofs.Unique.{merge_is_unique}
use Rattle.bd_log.proofs.merging.merge_is_unique.Goals as goal

pub returns : goal.returns
returns c = merge_is_unique
