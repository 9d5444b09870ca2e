use Rattle.std.proofs.Common.{sym, ◌∙◌}
use Rattle.bd_thread.specs.Endings.{removal_left}
use Rattle.bd_thread.proofs.Registering.{asked_by, unasked_by}
use Rattle.bd_thread.proofs.thread.Thread.remove_left.Goals as goal

pub returns-then-not-may_ask-clause-removes : goal.returns-then-not-may_ask-clause-removes
returns-then-not-may_ask-clause-removes c =
    let t = c.args.self.now in
    let links = c.args.links.now in
    unasked_by t links c.in-Some.event (removal_left t links c.args.dev) (sym c.in_ok-event.ensures ∙ c.in-Some.is) (sym c.may_ask.ensures ∙ c.if-not-may_ask.true)

pub returns-clause-removes : goal.returns-clause-removes
returns-clause-removes c =
    let t = c.args.self.now in
    let links = c.args.links.now in
    asked_by t links c.ask.new.self c.ask.new.links c.in-Some.event (removal_left t links c.args.dev) (sym c.in_ok-event.ensures ∙ c.in-Some.is)
    (sym c.may_ask.ensures ∙ c.if-not-may_ask.false) c.in_ok-ask.ensures.answered
