use Rattle.std.proofs.Common.{◌≡◌, ◌&&◌, ◌||◌, Bool, true, false, refl, sym, ◌∙◌, ap, ap₂, subst}
use Rattle.bd_flight.specs.declared.next.Step.{Step}
use Rattle.bd_flight.specs.declared.next.Step.TheVariants as steps
use Rattle.bd_flight.specs.Next.{may_take, next_step}
use Rattle.bd_machine.specs.View.{View}
use Rattle.bd_thread.specs.declared.links.Links.{Links}
use Rattle.bd_thread.specs.declared.thread.Thread.{Thread}
use Rattle.bd_thread.specs.Aborts.{NoneNamed}
use Rattle.bd_thread.specs.Acted.{Acted}
use Rattle.bd_thread.specs.Calls.{asks_reset}
use Rattle.bd_thread.specs.Injections.{asks_decision, is_inject}
use Rattle.bd_thread.specs.Seen.{view_of}
use Rattle.bd_thread.specs.Delays.{StandsStill}
use Rattle.bd_thread.specs.Limits.{NoWayOut}
use Rattle.bd_thread.specs.Waits.{is_taken_alone, Idles}
use Rattle.bd_thread.proofs.Alone.{alone_none, alone_then, cuts_alone, stops_alone}
use Rattle.bd_thread.proofs.Carried.{abort_is_due, cut_is_due, other_step}
use Rattle.bd_thread.proofs.Going.{acted_none, acted_then}
use Rattle.bd_thread.proofs.Idle.{cuts_more, idle_here, idle_then, stops_more}
use Rattle.bd_thread.proofs.Limiting.{not_here}
use Rattle.bd_thread.proofs.Naming.{stops_named_alone, stops_named_idle}
use Rattle.bd_thread.proofs.Injecting.{pend_is_due, pends_alone, pends_more}
use Rattle.bd_thread.proofs.Noted.{cuts_noted, pends_noted, stops_named_noted, stops_noted}
use Rattle.bd_thread.proofs.thread.Thread.carry.Goals as goal

pub returns-then-not-is_here : goal.returns-then-not-is_here
returns-then-not-is_here c = record {
  acted = acted_none _ _;
  tickets = λ keeps. keeps;
  noted = refl;
  quiet = idle_here _ _ (not_here c.args.req c.args.self.now c.args.links.now (sym c.is_here.ensures ∙ c.if-not-is_here.true));
  alone = alone_none _;
}

pub returns-in_ok-stop-in-Abort : goal.returns-in_ok-stop-in-Abort
returns-in_ok-stop-in-Abort c =
    let t = c.args.self.now in
    let links = c.args.links.now in
    let req = c.args.req in
    let cause = c.in-Abort.cause in
    let may = ap (λ (v : View). may_take t.setup.now t.me v req (steps.Abort cause)) (sym c.seen.ensures) ∙ c.in-Abort.ensures.allowed in
    record {
      acted = c.in_ok-stop-in-Abort.ensures.acted;
      tickets = c.in_ok-stop-in-Abort.ensures.tickets;
      noted = stops_noted req cause t links c.stop.new.self c.stop.new.links c.in_ok-stop-in-Abort.ensures.stops;
      quiet = λ few. absurd (stops_more req cause t links c.stop.new.self c.stop.new.links (abort_is_due req cause t links may) c.in_ok-stop-in-Abort.ensures.stops few);
      alone = stops_alone req cause t links c.stop.new.self c.stop.new.links c.in_ok-stop-in-Abort.ensures.stops;
    }

pub returns-in_ok-cut-in-Cut : goal.returns-in_ok-cut-in-Cut
returns-in_ok-cut-in-Cut c =
    let t = c.args.self.now in
    let links = c.args.links.now in
    let req = c.args.req in
    let n = c.in_ok-cut-in-Cut.field-0 in
    let may = ap (λ (v : View). may_take t.setup.now t.me v req steps.Cut) (sym c.seen.ensures) ∙ c.in-Cut.ensures.allowed in
    record {
      acted = c.in_ok-cut-in-Cut.ensures.acted;
      tickets = c.in_ok-cut-in-Cut.ensures.tickets;
      noted = cuts_noted req t links c.cut.new.self c.cut.new.links n c.in_ok-cut-in-Cut.ensures.cut;
      quiet = λ few. absurd (cuts_more req t links c.cut.new.self c.cut.new.links n (cut_is_due req t links may) c.in_ok-cut-in-Cut.ensures.cut few);
      alone = cuts_alone req t links c.cut.new.self c.cut.new.links n c.in_ok-cut-in-Cut.ensures.cut;
    }

pub returns-in_ok-pend-in-Pend : goal.returns-in_ok-pend-in-Pend
returns-in_ok-pend-in-Pend c =
    let t = c.args.self.now in
    let links = c.args.links.now in
    let req = c.args.req in
    let done = c.in_ok-pend-in-Pend.field-0 in
    let may = ap (λ (v : View). may_take t.setup.now t.me v req steps.Pend) (sym c.seen.ensures) ∙ c.in-Pend.ensures.allowed in
    record {
      acted = c.in_ok-pend-in-Pend.ensures.acted;
      tickets = c.in_ok-pend-in-Pend.ensures.tickets;
      noted = pends_noted req t links c.pend.new.self c.pend.new.links done c.in_ok-pend-in-Pend.ensures.pends;
      quiet = λ few. absurd (pends_more req t links c.pend.new.self c.pend.new.links done (pend_is_due req t links may) c.in_ok-pend-in-Pend.ensures.pends few);
      alone = pends_alone req t links c.pend.new.self c.pend.new.links done c.in_ok-pend-in-Pend.ensures.pends;
    }

-- a step that the rules let it take, which is a decision or not
asks_as : (step : Step) (may : Bool) → may ≡ true → is_inject step ≡ is_inject step && may
asks_as step may h = go (is_inject step) may h
  where
    go : (a b : Bool) → b ≡ true → a ≡ a && b
    go true true e = refl
    go true false e = sym e
    go false b e = refl

pub returns-in_ok-go_out-in_default : goal.returns-in_ok-go_out-in_default
returns-in_ok-go_out-in_default c =
    let t = c.args.self.now in
    let links = c.args.links.now in
    let req = c.args.req in
    let step = c.next_step-step.result in
    let stops = c.in_ok-stop_named-in_default.ensures in
    let gone = c.in_ok-go_on-in_default.ensures in
    let out = c.in_ok-go_out-in_default.ensures in
    let step-is = c.next_step-step.ensures.step ∙ ap (λ (v : View). next_step t.setup.now t.me v req) c.seen.ensures in
    let stays : is_taken_alone (next_step t.setup.now t.me (view_of t links) req) ≡ false = sym (ap is_taken_alone step-is) ∙ other_step step c.in_default.not-Cut c.in_default.not-Pend c.in_default.not-Abort in
    let may : may_take t.setup.now t.me (view_of t links) req (next_step t.setup.now t.me (view_of t links) req) ≡ true =
    sym (ap (may_take t.setup.now t.me (view_of t links) req) step-is) ∙ ap (λ (v : View). may_take t.setup.now t.me v req step) (sym c.seen.ensures) ∙ c.next_step-step.ensures.allowed in
    let asks : is_inject step ≡ asks_decision t links req = ap is_inject step-is ∙ asks_as (next_step t.setup.now t.me (view_of t links) req) (may_take t.setup.now t.me (view_of t links) req (next_step t.setup.now t.me (view_of t links) req)) may in
    let first-acted : Acted t links c.go_on.new.self c.go_on.new.links = acted_then _ _ _ _ _ _ stops.acted gone.acted in
    let first : Idles (λ t links. NoneNamed req t links × StandsStill req t links) t links c.go_on.new.self c.go_on.new.links =
    idle_then {P = NoneNamed req} {Q = StandsStill req} t links c.stop_named.new.self c.stop_named.new.links c.go_on.new.self c.go_on.new.links stops.acted gone.acted (λ named still. (named, still))
    (stops_named_idle req t links c.stop_named.new.self c.stop_named.new.links stops.stops) gone.quiet in
    let all : Idles (λ t links. NoneNamed req t links × StandsStill req t links × NoWayOut req step t links) t links c.go_out.new.self c.go_out.new.links =
    idle_then {P = λ t links. NoneNamed req t links × StandsStill req t links} {Q = NoWayOut req step} t links c.go_on.new.self c.go_on.new.links c.go_out.new.self c.go_out.new.links first-acted out.acted
    (λ both no_way. (both.0, both.1, no_way)) first out.quiet in
    let stops-alone = stops_named_alone req t links c.stop_named.new.self c.stop_named.new.links stops.stops in
    record {
      acted = acted_then _ _ _ _ _ _ first-acted out.acted;
      tickets = λ keeps. out.tickets (gone.tickets (stops.tickets keeps));
      noted = out.noted ∙ gone.noted ∙ stops_named_noted req t links c.stop_named.new.self c.stop_named.new.links stops.stops;
      quiet = λ few.
          let i = all few in
          let no_way : NoWayOut req (next_step t.setup.now t.me (view_of t links) req) t links = subst (λ (s : Step). NoWayOut req s t links) step-is i.waits.2 in
          let as_reset : c.asks_reset-as_reset.result ≡ asks_reset t links req = c.asks_reset-as_reset.ensures ∙ ap₂ (λ (n : Thread) (l : Links). asks_reset n l req) i.thread i.links in
          record {
            thread = i.thread;
            links = i.links;
            waits = record {
              none = record { step = stays; named = i.waits.0; still = i.waits.1; out = no_way };
              asks_is = c.asks.ensures ∙ ap (λ b. is_inject step || b) as_reset ∙ ap (λ b. b || asks_reset t links req) asks;
            };
          };
      alone = alone_then _ _ _ (alone_then _ _ _ stops-alone gone.alone) out.alone;
    }
