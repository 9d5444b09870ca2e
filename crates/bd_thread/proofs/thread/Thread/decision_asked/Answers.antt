use Rattle.std.proofs.Common.{true, false, sym, ◌∙◌, ap}
use Rattle.bd_flight.specs.Next.{next_step}
use Rattle.bd_machine.specs.Kept.{request_here}
use Rattle.bd_machine.specs.View.{View}
use Rattle.bd_thread.specs.Lines.{may_ask}
use Rattle.bd_thread.proofs.Injecting.{decision_by, decision_none}
use Rattle.bd_thread.proofs.thread.Thread.decision_asked.Goals as goal

pub returns-in_default : goal.returns-in_default
returns-in_default c =
    let t = c.args.self.now in
    let step-is = c.next_step.ensures.step ∙ ap (λ (v : View). next_step t.setup.now t.me v c.args.req) c.seen-seen.ensures in
    decision_none t c.args.links.now c.args.req c.next_step.result step-is c.in_default.not-Inject

pub returns-then-may_ask : goal.returns-then-may_ask
returns-then-may_ask c =
    let t = c.args.self.now in
    let step-is = c.next_step.ensures.step ∙ ap (λ (v : View). next_step t.setup.now t.me v c.args.req) c.seen-seen.ensures in
    let here = c.request_here.ensures ∙ ap (λ (v : View). request_here v c.args.req) c.seen-seen.ensures in
    let may = c.may_ask.ensures ∙ ap (may_ask t c.args.links.now) c.asked_of.ensures in
    decision_by t c.args.links.now c.args.req c.in-Inject.dev c.in-Some.r true (sym step-is ∙ c.in-Inject.is) (sym here ∙ c.in-Some.is) (sym may ∙ c.if-may_ask.true)

pub returns-else-may_ask : goal.returns-else-may_ask
returns-else-may_ask c =
    let t = c.args.self.now in
    let step-is = c.next_step.ensures.step ∙ ap (λ (v : View). next_step t.setup.now t.me v c.args.req) c.seen-seen.ensures in
    let here = c.request_here.ensures ∙ ap (λ (v : View). request_here v c.args.req) c.seen-seen.ensures in
    let may = c.may_ask.ensures ∙ ap (may_ask t c.args.links.now) c.asked_of.ensures in
    decision_by t c.args.links.now c.args.req c.in-Inject.dev c.in-Some.r false (sym step-is ∙ c.in-Inject.is) (sym here ∙ c.in-Some.is) (sym may ∙ c.if-may_ask.false)
