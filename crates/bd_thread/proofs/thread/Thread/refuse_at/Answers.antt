use Rattle.std.proofs.Common.{sym, ◌∙◌}
use Rattle.bd_thread.proofs.Idle.{idle_here, idle_so}
use Rattle.bd_thread.proofs.Unserved.{unrefused_on, unrefused_waits}
use Rattle.bd_thread.proofs.thread.Thread.refuse_at.Goals as goal

pub returns-in_default-clause-quiet : goal.returns-in_default-clause-quiet
returns-in_default-clause-quiet c = idle_here _ _ (unrefused_waits c.args.place c.args.self.now c.args.links.now (sym c.waits_at.ensures ∙ c.in_default.is))

pub returns-clause-quiet : goal.returns-clause-quiet
returns-clause-quiet c = idle_so _ _ _ _ (unrefused_on c.args.place c.in-Some.dev c.args.self.now c.args.links.now (sym c.waits_at.ensures ∙ c.in-Some.is)) c.in_ok-refuse_last.ensures.quiet
