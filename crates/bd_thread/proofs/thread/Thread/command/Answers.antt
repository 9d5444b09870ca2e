use Rattle.std.proofs.lemmas.Result.{on_ok_weaker}
use Rattle.bd_thread.proofs.Going.{acted_then}
use Rattle.bd_thread.proofs.Idle.{both_ok, changes_idle, claims_idle, closes_idle, ends_idle, line_idle, opens_idle}
use Rattle.bd_thread.proofs.thread.Thread.command.Goals as goal

pub returns : goal.returns
returns c =
    let b = acted_then _ _ _ _ _ _ c.in_ok-open.ensures.acted c.in_ok-close.ensures.acted in
    let d = acted_then _ _ _ _ _ _ b c.in_ok-claim.ensures.acted in
    let r = acted_then _ _ _ _ _ _ d c.in_ok-change_device.ensures.acted in
    let k = acted_then _ _ _ _ _ _ r c.in_ok-submit_line.ensures.acted in
    record {
      acted = on_ok_weaker c.end_line.result (λ e. acted_then _ _ _ _ _ _ k e) c.end_line.ensures.acted;
      tickets = on_ok_weaker c.end_line.result (λ ends keeps. ends (c.in_ok-submit_line.ensures.tickets (c.in_ok-change_device.ensures.tickets (c.in_ok-claim.ensures.tickets (c.in_ok-close.ensures.tickets (c.in_ok-open.ensures.tickets keeps)))))) c.end_line.ensures.tickets;
      quiet = both_ok c.end_line.result (λ e ended ends. line_idle _ _ _ _ _ _ _ _ _ _ _ _ _ _
          c.in_ok-open.ensures.acted c.in_ok-close.ensures.acted c.in_ok-claim.ensures.acted c.in_ok-change_device.ensures.acted c.in_ok-submit_line.ensures.acted e
          (opens_idle _ _ _ _ _ c.in_ok-open.ensures.opened) (closes_idle _ _ _ _ _ c.in_ok-close.ensures.closed) (claims_idle _ _ _ _ _ c.in_ok-claim.ensures.claimed) (changes_idle _ _ _ _ _ c.in_ok-change_device.ensures.changed)
          c.in_ok-submit_line.ensures.quiet (ends_idle _ _ _ _ _ ends))
          c.end_line.ensures.acted c.end_line.ensures.ended;
    }
