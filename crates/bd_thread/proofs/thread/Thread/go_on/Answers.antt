use Rattle.std.proofs.Common.{◌≡◌, true, None, refl, sym, ◌∙◌, subst}
use Rattle.bd_steps.specs.Completions.{ending_of}
use Rattle.bd_thread.specs.Delays.{hold_due, release_due, EndsHold, StandsStill}
use Rattle.bd_thread.specs.Seen.{view_of}
use Rattle.bd_thread.proofs.Alone.{alone_none, alone_then, carried_alone}
use Rattle.bd_thread.proofs.Delaying.{carried_idle, ends_hold_alone, ends_idle, ends_more, not_own}
use Rattle.bd_thread.proofs.Going.{acted_none, acted_then}
use Rattle.bd_thread.proofs.Idle.{idle_here, idle_then}
use Rattle.bd_thread.proofs.Noted.{carried_noted, ends_hold_noted}
use Rattle.bd_thread.proofs.thread.Thread.go_on.Goals as goal

pub returns-then-not-is_own : goal.returns-then-not-is_own
returns-then-not-is_own c = record {
  acted = acted_none _ _;
  tickets = λ keeps. keeps;
  noted = refl;
  quiet = idle_here _ _ (not_own c.args.req c.args.self.now c.args.links.now (sym c.is_own.ensures ∙ c.if-not-is_own.true));
  alone = alone_none _;
}

pub returns-then-ended : goal.returns-then-ended
returns-then-ended c =
    let old = c.args.self.now in
    let links = c.args.links.now in
    let ends = subst (EndsHold c.args.req old links c.end_hold.new.self c.end_hold.new.links) c.if-ended.true c.in_ok-ended.ensures.ends in
    record {
      acted = c.in_ok-ended.ensures.acted;
      tickets = c.in_ok-ended.ensures.tickets;
      noted = ends_hold_noted c.args.req old links c.end_hold.new.self c.end_hold.new.links true ends;
      quiet = λ few. absurd (ends_more c.args.req old links c.end_hold.new.self c.end_hold.new.links ends few);
      alone = ends_hold_alone c.args.req old links c.end_hold.new.self c.end_hold.new.links true ends;
    }

pub returns : goal.returns
returns c =
    let old = c.args.self.now in
    let links = c.args.links.now in
    let req = c.args.req in
    let middle = c.end_hold.new.self in
    let shared = c.end_hold.new.links in
    let new = c.hold_or_complete.new.self in
    let after = c.hold_or_complete.new.links in
    let ended = c.in_ok-ended.ensures in
    let carried = c.in_ok-hold_or_complete.ensures in
    record {
      acted = acted_then old links middle shared new after ended.acted carried.acted;
      tickets = λ keeps. carried.tickets (ended.tickets keeps);
      noted = carried_noted req middle shared new after carried.carried ∙ ends_hold_noted req old links middle shared c.in_ok-ended.ended ended.ends;
      quiet = idle_then {P = λ t l. release_due t l req ≡ None} {Q = λ t l. (hold_due t l req ≡ None) × (ending_of t.setup.now t.me (view_of t l) req ≡ None)} {R = StandsStill req}
          old links middle shared new after ended.acted carried.acted
          (λ release rest. record { release = release; hold = rest.0; completion = rest.1 })
          (ends_idle req old links middle shared c.in_ok-ended.ended ended.ends)
          (carried_idle req middle shared new after carried.carried);
      alone = alone_then links shared after (ends_hold_alone req old links middle shared c.in_ok-ended.ended ended.ends) (carried_alone req middle shared new after carried.carried);
    }
