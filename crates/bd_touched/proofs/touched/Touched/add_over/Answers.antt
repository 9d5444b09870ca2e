use Rattle.std.proofs.Common.{sym, ◌∙◌}
use Rattle.bd_touched.proofs.Adding.{none_over}
use Rattle.bd_touched.proofs.touched.Touched.add_over.Goals as goal

pub returns-else-any_waits-clause-over : goal.returns-else-any_waits-clause-over
returns-else-any_waits-clause-over c = none_over c.args.setup.now c.args.dev c.args.self.now c.args.requests.now (sym c.any_waits.ensures ∙ c.if-any_waits.false)
