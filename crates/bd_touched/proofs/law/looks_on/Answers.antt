use Rattle.bd_touched.proofs.Looking.{looks_then}
use Rattle.bd_touched.proofs.law.looks_on.Goals as goal

pub returns : goal.returns
returns c = looks_then
