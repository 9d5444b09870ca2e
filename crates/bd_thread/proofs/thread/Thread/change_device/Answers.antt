use Rattle.std.proofs.Common.{sym, ◌∙◌, ap}
use Rattle.bd_machine.specs.Asked.{undecided_job}
use Rattle.bd_thread.specs.Lines.{change_of, job_now}
use Rattle.bd_thread.proofs.Registering.{asked_by, change_named, unasked_by}
use Rattle.bd_thread.proofs.thread.Thread.change_device.Goals as goal

pub returns-then-not-may_ask-clause-changed : goal.returns-then-not-may_ask-clause-changed
returns-then-not-may_ask-clause-changed c =
    let t = c.args.self.now in
    let links = c.args.links.now in
    let event = c.in-Some.event in
    let named = change_named event links.shut (undecided_job t.setup.now t.me t.part) c.if-links.false
    (sym (ap change_of c.undecided_job.ensures) ∙ sym c.in_ok-event.ensures ∙ c.in-Some.is) in
    unasked_by t links event (change_of (job_now t links)) named (sym c.may_ask.ensures ∙ c.if-not-may_ask.true)

pub returns-clause-changed : goal.returns-clause-changed
returns-clause-changed c =
    let t = c.args.self.now in
    let links = c.args.links.now in
    let event = c.in-Some.event in
    let named = change_named event links.shut (undecided_job t.setup.now t.me t.part) c.if-links.false
    (sym (ap change_of c.undecided_job.ensures) ∙ sym c.in_ok-event.ensures ∙ c.in-Some.is) in
    asked_by t links c.ask.new.self c.ask.new.links event (change_of (job_now t links)) named (sym c.may_ask.ensures ∙ c.if-not-may_ask.false) c.in_ok-ask.ensures.answered
