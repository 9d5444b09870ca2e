use Rattle.std.proofs.Common.{sym, ◌∙◌}
use Rattle.bd_thread.proofs.Registering.{closing_may}
use Rattle.bd_thread.proofs.thread.Thread.close.Goals as goal

pub put_and_close-requires-clause-may : goal.put_and_close-requires-clause-may
put_and_close-requires-clause-may c = closing_may c.args.self.now c.args.links.now c.in-Some.handle (sym c.closing.ensures ∙ c.in-Some.is)
