use Rattle.std.proofs.Common.{sym, ◌∙◌}
use Rattle.std.proofs.lemmas.Result.{on_ok_weaker}
use Rattle.bd_thread.proofs.Idle.{idle_here, idle_so}
use Rattle.bd_thread.proofs.Unserved.{none_waits, none_on}
use Rattle.bd_thread.proofs.thread.Thread.serve_at.Goals as goal

pub returns-in_default-clause-quiet : goal.returns-in_default-clause-quiet
returns-in_default-clause-quiet c = idle_here _ _ (none_waits c.args.place c.args.self.now c.args.links.now (sym c.waits_at.ensures ∙ c.in_default.is))

pub returns-clause-quiet : goal.returns-clause-quiet
returns-clause-quiet c =
    on_ok_weaker c.serve_store.result (λ idle. idle_so _ _ _ _ (none_on c.args.place c.in-Some.dev c.args.self.now c.args.links.now (sym c.waits_at.ensures ∙ c.in-Some.is)) idle) c.serve_store.ensures.quiet
