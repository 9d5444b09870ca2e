use Rattle.std.proofs.Common.{true, subst}
use Rattle.std.proofs.lemmas.Result.{on_ok_weaker}
use Rattle.bd_thread.specs.Growing.{Grows}
use Rattle.bd_thread.proofs.Going.{acted_then}
use Rattle.bd_thread.proofs.Idle.{both_ok, discharges_idle, grows_idle, grows_more, idle_then}
use Rattle.bd_thread.proofs.thread.Thread.do_owed.Goals as goal

pub returns-then-grew : goal.returns-then-grew
returns-then-grew c =
    let grew = c.in_ok-grew.ensures in
    let o = c.args.self.now in
    let a = c.args.links.now in
    let n = c.grow.new.self in
    let e = c.grow.new.links in
    record {
      acted = grew.acted;
      tickets = grew.tickets;
      quiet = λ few. absurd (grows_more o a n e (subst (Grows o a n e) c.if-grew.true grew.grows) few);
    }

pub returns : goal.returns
returns c =
    let grew = c.in_ok-grew.ensures in
    record {
      acted = on_ok_weaker c.discharge.result (λ e. acted_then _ _ _ _ _ _ grew.acted e) c.discharge.ensures.acted;
      tickets = on_ok_weaker c.discharge.result (λ e keeps. e (grew.tickets keeps)) c.discharge.ensures.tickets;
      quiet = both_ok c.discharge.result (λ e done ended. idle_then _ _ _ _ _ _ grew.acted e (λ none event. record { growth = none; event = event }) (grows_idle _ _ _ _ _ grew.grows) (discharges_idle _ _ _ _ _ ended))
          c.discharge.ensures.acted c.discharge.ensures.discharges;
    }
