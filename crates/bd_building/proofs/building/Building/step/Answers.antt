use Rattle.std.proofs.Common.{◌∙◌, ap}
use Rattle.bd_building.specs.Progress.{Outcome, settled, then_on}
use Rattle.bd_building.proofs.Threads.{stepped_on}
use Rattle.bd_building.proofs.building.Building.step.Goals as goal

pub returns-clause-threads : goal.returns-clause-threads
returns-clause-threads c =
    stepped_on c.args.self c.settle.new.self c.args.index c.args.command c.args.disk (ap (λ (o : Outcome). then_on o settled) c.in_ok-begin.ensures.ok ∙ c.in_ok-settle.ensures.ok)
