use Rattle.std.proofs.Common.{sym, ◌∙◌}
use Rattle.std.proofs.lemmas.Result.{on_ok_weaker}
use Rattle.bd_thread.proofs.Idle.{idle_here, idle_so}
use Rattle.bd_thread.proofs.Unlimited.{limits_none, limits_on}
use Rattle.bd_thread.proofs.thread.Thread.limit_at.Goals as goal

pub returns-in_default-clause-quiet : goal.returns-in_default-clause-quiet
returns-in_default-clause-quiet c = idle_here _ _ (limits_none c.args.place c.args.self.now c.args.links.now (sym c.line_at.ensures ∙ c.in_default.is))

pub returns-clause-quiet : goal.returns-clause-quiet
returns-clause-quiet c =
    on_ok_weaker c.limit.result (λ idle. idle_so _ _ _ _ (limits_on c.args.place c.in-Some.dev c.args.self.now c.args.links.now (sym c.line_at.ensures ∙ c.in-Some.is)) idle) c.limit.ensures.quiet
