use Rattle.std.proofs.Common.{sym, ◌∙◌, ap}
use Rattle.bd_steps.specs.Duties.{duty_owed}
use Rattle.bd_thread.proofs.Registering.{asked_by, unasked_by}
use Rattle.bd_thread.proofs.thread.Thread.discharge.Goals as goal

pub returns-then-not-may_ask-clause-discharges : goal.returns-then-not-may_ask-clause-discharges
returns-then-not-may_ask-clause-discharges c =
    let t = c.args.self.now in
    let links = c.args.links.now in
    let owed = sym (ap (duty_owed t.setup.now) c.as_slice.ensures) ∙ sym c.in_ok-event.ensures ∙ c.in-Some.is in
    unasked_by t links c.in-Some.event (duty_owed t.setup.now t.part.owed) owed (sym c.may_ask.ensures ∙ c.if-not-may_ask.true)

pub returns-clause-discharges : goal.returns-clause-discharges
returns-clause-discharges c =
    let t = c.args.self.now in
    let links = c.args.links.now in
    let owed = sym (ap (duty_owed t.setup.now) c.as_slice.ensures) ∙ sym c.in_ok-event.ensures ∙ c.in-Some.is in
    asked_by t links c.ask.new.self c.ask.new.links c.in-Some.event (duty_owed t.setup.now t.part.owed) owed (sym c.may_ask.ensures ∙ c.if-not-may_ask.false) c.in_ok-ask.ensures.answered
