use Rattle.std.proofs.Common.{refl}
use Rattle.bd_thread.proofs.Alone.{alone_none}
use Rattle.bd_thread.proofs.Going.{acted_none}
use Rattle.bd_thread.proofs.Idle.{idle_here}
use Rattle.bd_thread.proofs.Limiting.{no_way}
use Rattle.bd_thread.proofs.thread.Thread.go_out.Goals as goal

pub returns-in_default : goal.returns-in_default
returns-in_default c = record {
  acted = acted_none _ _;
  tickets = λ keeps. keeps;
  noted = refl;
  quiet = idle_here _ _ (no_way c.args.req c.args.step c.args.self.now c.args.links.now c.in_default.not-Limit);
  alone = alone_none _;
}
