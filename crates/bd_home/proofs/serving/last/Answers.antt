use Rattle.std.proofs.Common.{◌<◌, length, arith}
use Rattle.bd_home.proofs.Lasts.{last_is}
use Rattle.bd_home.proofs.serving.last.Goals as goal

pub returns-else-n-eq0 : goal.returns-else-n-eq0
returns-else-n-eq0 c = let some : 0 < length c.args.queue.now = omega (arith, c.if-n-eq0.false) in last_is c.args.queue.now _ some
