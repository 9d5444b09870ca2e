use Rattle.std.proofs.Common.{ℕ, ◌+◌, min, Option, sym, ◌∙◌, ap, ap₂}
use Rattle.bd_base.specs.declared.request.Way.{Way}
use Rattle.bd_machine.specs.Delays.{guards_hold, last_moment, latency}
use Rattle.bd_machine.specs.Kept.{request_here}
use Rattle.bd_machine.specs.Step.{first_failing}
use Rattle.bd_machine.specs.View.{View}
use Rattle.bd_thread.specs.Delays.{hold_due_of}
use Rattle.bd_thread.proofs.Delaying.{hold_is_due, hold_not_due, undelayed}
use Rattle.bd_thread.proofs.thread.Thread.hold_due.Goals as goal

pub returns-in_default : goal.returns-in_default
returns-in_default c =
    let seen = c.request_here.ensures ∙ ap (λ (v : View). request_here v c.args.req) c.seen-seen.ensures in
    sym (ap (hold_due_of c.args.self.now c.args.links.now c.args.req) (sym seen ∙ c.in_default.is))

pub returns-then-not-is_delayed : goal.returns-then-not-is_delayed
returns-then-not-is_delayed c =
    let seen = c.request_here.ensures ∙ ap (λ (v : View). request_here v c.args.req) c.seen-seen.ensures in
    undelayed c.args.self.now c.args.links.now c.args.req c.in-Some.r (sym seen ∙ c.in-Some.is) (sym c.is_delayed.ensures ∙ c.if-not-is_delayed.true)

pub returns-in-None : goal.returns-in-None
returns-in-None c =
    let t = c.args.self.now in
    let r = c.in-Some.r in
    let seen = c.request_here.ensures ∙ ap (λ (v : View). request_here v c.args.req) c.seen-seen.ensures in
    let until = c.in_ok-until.ensures ∙ ap₂ (λ (n : ℕ) (way : Option Way). min (n + latency t.setup.now t.part r.dev way) last_moment) c.moment-now.ensures c.way_of.ensures in
    let failing = c.in_ok-refused_hold.ensures ∙ ap (λ (v : View). first_failing (guards_hold t.setup.now t.me v c.args.req c.in_ok-until.until)) c.seen-seen.ensures in
    hold_is_due t c.args.links.now c.args.req r c.in_ok-until.until (sym seen ∙ c.in-Some.is) until (sym failing ∙ c.in-None.is)

pub returns-in-Some-2 : goal.returns-in-Some-2
returns-in-Some-2 c =
    let t = c.args.self.now in
    let r = c.in-Some.r in
    let seen = c.request_here.ensures ∙ ap (λ (v : View). request_here v c.args.req) c.seen-seen.ensures in
    let until = c.in_ok-until.ensures ∙ ap₂ (λ (n : ℕ) (way : Option Way). min (n + latency t.setup.now t.part r.dev way) last_moment) c.moment-now.ensures c.way_of.ensures in
    let failing = c.in_ok-refused_hold.ensures ∙ ap (λ (v : View). first_failing (guards_hold t.setup.now t.me v c.args.req c.in_ok-until.until)) c.seen-seen.ensures in
    hold_not_due t c.args.links.now c.args.req r c.in_ok-until.until c.in-Some-2.field-0 (sym seen ∙ c.in-Some.is) until (sym failing ∙ c.in-Some-2.is)
