use Rattle.std.proofs.lemmas.Result.{on_ok_weaker}
use Rattle.bd_thread.proofs.Going.{acted_then}
use Rattle.bd_thread.proofs.Idle.{all_ok, idle_then}
use Rattle.bd_thread.proofs.thread.Thread.end_all.Goals as goal

pub returns : goal.returns
returns c = record {
  acted = on_ok_weaker c.end_own.result (λ e. acted_then _ _ _ _ _ _ c.in_ok-remove_all_left.ensures.acted e) c.end_own.ensures.acted;
  tickets = on_ok_weaker c.end_own.result (λ ends keeps. ends (c.in_ok-remove_all_left.ensures.tickets keeps)) c.end_own.ensures.tickets;
  quiet = all_ok c.end_own.result
      (λ acted own. idle_then _ _ _ _ _ _ c.in_ok-remove_all_left.ensures.acted acted (λ removal left. record { removal = removal; own = left }) c.in_ok-remove_all_left.ensures.quiet own)
      c.end_own.ensures.acted c.end_own.ensures.quiet;
}
