use Rattle.bd_machine.proofs.Runs.{content_changes_at_home}
use Rattle.bd_machine.proofs.law.content_changes_at_home.Goals as goal

pub returns : goal.returns
returns c = content_changes_at_home
