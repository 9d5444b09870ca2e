use Rattle.std.proofs.Common.{sym, ◌∙◌, ap}
use Rattle.bd_flight.specs.declared.next.Step.TheVariants as steps
use Rattle.bd_flight.specs.Next.{may_take, next_step}
use Rattle.bd_machine.specs.View.{View}
use Rattle.bd_thread.specs.Limits.{head_of, head_stop_of}
use Rattle.bd_thread.proofs.Carried.{abort_is_due}
use Rattle.bd_thread.proofs.Limiting.{head_stop_by, other_none}
use Rattle.bd_thread.proofs.thread.Thread.head_stop.Goals as goal

pub returns-in_default-clause-due : goal.returns-in_default-clause-due
returns-in_default-clause-due c =
    let head = c.head_of.ensures ∙ ap head_of c.waiting_for.ensures in
    sym (ap (head_stop_of c.args.self.now c.args.links.now) (sym head ∙ c.in_default.is))

pub returns-in_default-step-clause-due : goal.returns-in_default-step-clause-due
returns-in_default-step-clause-due c =
    let t = c.args.self.now in
    let head = c.head_of.ensures ∙ ap head_of c.waiting_for.ensures in
    let step-is = c.next_step-step.ensures.step ∙ ap (λ (v : View). next_step t.setup.now t.me v c.in-Some.req) c.seen.ensures in
    other_none c.in-Some.req c.next_step-step.result c.in_default-step.not-Abort
    ∙ head_stop_by t c.args.links.now c.args.dev c.in-Some.req c.next_step-step.result (sym head ∙ c.in-Some.is) (sym step-is)

pub returns : goal.returns
returns c =
    let t = c.args.self.now in
    let links = c.args.links.now in
    let head = c.head_of.ensures ∙ ap head_of c.waiting_for.ensures in
    let step-is = c.next_step-step.ensures.step ∙ ap (λ (v : View). next_step t.setup.now t.me v c.in-Some.req) c.seen.ensures in
    let may = ap (λ (v : View). may_take t.setup.now t.me v c.in-Some.req (steps.Abort c.in-Abort.cause)) (sym c.seen.ensures) ∙ c.in-Abort.ensures.allowed in
    record {
      due = head_stop_by t links c.args.dev c.in-Some.req (steps.Abort c.in-Abort.cause) (sym head ∙ c.in-Some.is) (sym step-is ∙ c.in-Abort.is);
      allowed = abort_is_due c.in-Some.req c.in-Abort.cause t links may;
    }
