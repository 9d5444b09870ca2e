use Rattle.std.proofs.Common.{refl}
use Rattle.bd_top.proofs.exercise.devices.Goals as goal

pub returns-in-Ok-clause-alone : goal.returns-in-Ok-clause-alone
returns-in-Ok-clause-alone g c = (c.in-Ok.ensures.opened (g.H.Host.state c.args.host.now).told (λ name. refl)).plain.alone
