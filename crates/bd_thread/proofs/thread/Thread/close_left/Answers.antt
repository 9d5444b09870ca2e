use Rattle.std.proofs.Common.{sym, ◌∙◌}
use Rattle.bd_thread.proofs.Leftovers.{left_may}
use Rattle.bd_thread.proofs.thread.Thread.close_left.Goals as goal

pub put_and_close-requires-clause-may : goal.put_and_close-requires-clause-may
put_and_close-requires-clause-may c = left_may c.args.dev c.args.self.now c.args.links.now c.in-Some.handle (sym c.left_on.ensures ∙ c.in-Some.is)
