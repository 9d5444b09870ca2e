use Rattle.std.proofs.Common.{arith}
use Rattle.bd_jobs.proofs.ReadLemmas.{no_command}
use Rattle.bd_jobs.proofs.read.words_command.Goals as goal

pub returns-in_default : goal.returns-in_default
returns-in_default c = no_command c.args.threads _ c.args.at c.args.words.now (omega arith)
