use Rattle.bd_machine.proofs.Lines.{lines_are_prefix}
use Rattle.bd_machine.proofs.law.lines_are_prefix.Goals as goal

pub returns : goal.returns
returns c = lines_are_prefix
