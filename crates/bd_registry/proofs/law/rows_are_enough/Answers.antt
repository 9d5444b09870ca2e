use Rattle.bd_registry.proofs.Alike.{rows_are_enough}
use Rattle.bd_registry.proofs.law.rows_are_enough.Goals as goal

pub returns : goal.returns
returns c = rows_are_enough
