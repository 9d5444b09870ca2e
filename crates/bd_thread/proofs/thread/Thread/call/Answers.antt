use Rattle.std.proofs.Common.{◌∙◌}
use Rattle.bd_thread.specs.Calls.{NoCallOf, NoResetOf}
use Rattle.bd_thread.specs.Injections.{NoDecisionOf}
use Rattle.bd_thread.specs.Waits.{Idles, StandsOf}
use Rattle.bd_thread.proofs.Going.{acted_then}
use Rattle.bd_thread.proofs.Idle.{idle_then}
use Rattle.bd_thread.proofs.thread.Thread.call.Goals as goal

pub returns : goal.returns
returns c =
    let o = c.args.self.now in
    let a = c.args.links.now in
    let m = c.decide_all.new.self in
    let b = c.decide_all.new.links in
    let p = c.reset.new.self in
    let d = c.reset.new.links in
    let n = c.carry.new.self in
    let e = c.carry.new.links in
    let req = c.args.req in
    let decided = c.in_ok-decide_all.ensures in
    let asked = c.in_ok-reset.ensures in
    let carried = c.in_ok-carry.ensures in
    let both = acted_then o a m b p d decided.acted asked.acted in
    let none : Idles (NoCallOf req) o a p d =
    idle_then {P = NoDecisionOf req} {Q = NoResetOf req} {R = NoCallOf req} o a m b p d decided.acted asked.acted (λ decision reset. record { decision = decision; reset = reset }) decided.quiet asked.quiet in
    record {
      acted = acted_then o a p d n e both carried.acted;
      tickets = λ keeps. carried.tickets (asked.tickets (decided.tickets keeps));
      noted = carried.noted ∙ asked.noted ∙ decided.noted;
      quiet = idle_then {P = NoCallOf req} {Q = StandsOf c.in_ok-carry.field-0 req} {R = NoCallOf req} o a p d n e both carried.acted (λ uncalled stands. uncalled) none carried.quiet;
    }
