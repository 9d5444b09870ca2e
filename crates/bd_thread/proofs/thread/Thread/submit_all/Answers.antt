use Rattle.std.proofs.Common.{arith}
use Rattle.bd_thread.specs.Work.{NoLineAlone}
use Rattle.bd_thread.proofs.Alone.{alone_none, alone_then, ends_alone}
use Rattle.bd_thread.proofs.Going.{acted_none, acted_then}
use Rattle.bd_thread.proofs.Idle.{ends_idle, idle_here, idle_so, idle_then}
use Rattle.bd_thread.proofs.thread.Thread.submit_all.Goals as goal

pub loop-round-init : goal.loop-round-init
loop-round-init c = record { acted = acted_none _ _; tickets = λ keeps. keeps; quiet = idle_here _ _ (λ begun. absurd (omega arith)); alone = alone_none _ }

pub loop-round-preserved : goal.loop-round-preserved
loop-round-preserved c =
    let round = acted_then _ _ _ _ _ _ c.in_ok-submit_line.ensures.acted c.in_ok-end_line.ensures.acted in
    let waits = idle_then {R = NoLineAlone} _ _ _ _ _ _ c.in_ok-submit_line.ensures.acted c.in_ok-end_line.ensures.acted (λ submission outcome. record { submission = submission; outcome = outcome })
    c.in_ok-submit_line.ensures.quiet (ends_idle _ _ _ _ _ c.in_ok-end_line.ensures.ended) in
    record {
      acted = acted_then _ _ _ _ _ _ c.loop-round.invariant.acted round;
      tickets = λ keeps. c.in_ok-end_line.ensures.tickets (c.in_ok-submit_line.ensures.tickets (c.loop-round.invariant.tickets keeps));
      quiet = idle_then _ _ _ _ _ _ c.loop-round.invariant.acted round (λ before now begun. now) c.loop-round.invariant.quiet waits;
      alone = alone_then _ _ _ c.loop-round.invariant.alone (alone_then _ _ _ c.in_ok-submit_line.ensures.alone (ends_alone c.submit_line.new.self c.submit_line.new.links c.end_line.new.self c.end_line.new.links c.before.in_ok-end_line.field-0 c.in_ok-end_line.ensures.ended));
    }

pub returns-then-not-branch : goal.returns-then-not-branch
returns-then-not-branch c =
    let round = acted_then _ _ _ _ _ _ c.in_ok-submit_line.ensures.acted c.in_ok-end_line.ensures.acted in
    let waits = idle_then {R = NoLineAlone} _ _ _ _ _ _ c.in_ok-submit_line.ensures.acted c.in_ok-end_line.ensures.acted (λ submission outcome. record { submission = submission; outcome = outcome })
    c.in_ok-submit_line.ensures.quiet (ends_idle _ _ _ _ _ c.in_ok-end_line.ensures.ended) in
    record {
      acted = acted_then _ _ _ _ _ _ c.loop-round.invariant.acted round;
      tickets = λ keeps. c.in_ok-end_line.ensures.tickets (c.in_ok-submit_line.ensures.tickets (c.loop-round.invariant.tickets keeps));
      quiet = idle_then _ _ _ _ _ _ c.loop-round.invariant.acted round (λ before now. now) c.loop-round.invariant.quiet waits;
      alone = alone_then _ _ _ c.loop-round.invariant.alone (alone_then _ _ _ c.in_ok-submit_line.ensures.alone (ends_alone c.submit_line.new.self c.submit_line.new.links c.end_line.new.self c.end_line.new.links c.before.in_ok-end_line.field-0 c.in_ok-end_line.ensures.ended));
    }

pub returns-after-loop-round : goal.returns-after-loop-round
returns-after-loop-round c = record {
  acted = c.loop-round.invariant.acted;
  tickets = c.loop-round.invariant.tickets;
  quiet = idle_so _ _ _ _ (λ so. so (omega arith)) c.loop-round.invariant.quiet;
  alone = c.loop-round.invariant.alone;
}
