use Rattle.std.proofs.Common.{sym, ◌∙◌}
use Rattle.bd_thread.proofs.Injecting.{decision_may}
use Rattle.bd_thread.proofs.thread.Thread.decide.Goals as goal

pub take_decision-requires-clause-asked : goal.take_decision-requires-clause-asked
take_decision-requires-clause-asked c = (decision_may c.args.self.now c.args.links.now c.args.req c.in-Some.dev c.in-Some.r (sym c.decision_asked.ensures ∙ c.in-Some.is)).asks
