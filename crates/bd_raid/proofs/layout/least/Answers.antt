use Rattle.std.proofs.Common.{arith}
use Rattle.bd_raid.proofs.Least.{least_fits}
use Rattle.bd_raid.proofs.layout.least.Goals as goal

pub loop-size-init : goal.loop-size-init
loop-size-init c = let fits = least_fits c.args.sizes.now in record { least = omega (arith, fits); fits = omega arith }
