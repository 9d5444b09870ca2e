use Rattle.std.proofs.Common.{sym, ◌∙◌}
use Rattle.std.proofs.lemmas.Result.{on_ok_weaker}
use Rattle.bd_thread.proofs.Going.{acted_then}
use Rattle.bd_thread.proofs.Idle.{all_ok, idle_here, idle_then}
use Rattle.bd_thread.proofs.Leftovers.{nothing_own}
use Rattle.bd_thread.proofs.thread.Thread.end_own.Goals as goal

pub returns-clause-acted : goal.returns-clause-acted
returns-clause-acted c = on_ok_weaker c.destruct_all.result (λ e. acted_then _ _ _ _ _ _ c.in_ok-close_all_left.ensures.acted e) c.destruct_all.ensures.acted

pub returns-clause-quiet : goal.returns-clause-quiet
returns-clause-quiet c =
    all_ok c.destruct_all.result (λ acted destructs. idle_then _ _ _ _ _ _ c.in_ok-close_all_left.ensures.acted acted (λ handle device. record { handle = handle; device = device }) c.in_ok-close_all_left.ensures.quiet destructs)
    c.destruct_all.ensures.acted c.destruct_all.ensures.quiet

pub returns-then-owes_nothing-clause-quiet : goal.returns-then-owes_nothing-clause-quiet
returns-then-owes_nothing-clause-quiet c = idle_here _ _ (nothing_own c.args.self.now c.args.links.now (sym c.owes_nothing.ensures ∙ c.if-owes_nothing.true))
