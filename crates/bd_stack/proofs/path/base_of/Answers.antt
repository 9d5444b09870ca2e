use Rattle.std.proofs.Common.{arith}
use Rattle.bd_stack.proofs.Downwards.{bottom_starts}
use Rattle.bd_stack.proofs.path.base_of.Goals as goal

pub loop-step-init : goal.loop-step-init
loop-step-init c = bottom_starts c.args.setup.now _ c.args.dev (omega arith)
