use Rattle.std.proofs.Common.{sym, ◌∙◌}
use Rattle.bd_thread.proofs.Calling.{reset_may}
use Rattle.bd_thread.proofs.thread.Thread.ask_reset.Goals as goal

pub ask-requires-clause-built : goal.ask-requires-clause-built
ask-requires-clause-built c = (reset_may c.args.self.now c.args.links.now c.args.req c.in-Some.event (sym c.reset_asked.ensures ∙ c.in-Some.is)).0

pub ask-requires-clause-asked : goal.ask-requires-clause-asked
ask-requires-clause-asked c = (reset_may c.args.self.now c.args.links.now c.args.req c.in-Some.event (sym c.reset_asked.ensures ∙ c.in-Some.is)).1
