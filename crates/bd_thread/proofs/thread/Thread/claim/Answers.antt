use Rattle.std.proofs.Common.{◌≡◌, Some, sym, ◌∙◌, ap}
use Rattle.std.specs.Option.{option_copied}
use Rattle.bd_base.specs.declared.event.RegEvent.TheVariants as events
use Rattle.bd_machine.specs.Asked.{bound_to, undecided_job}
use Rattle.bd_thread.specs.Lines.{claim_of, job_now}
use Rattle.bd_thread.proofs.Registering.{asked_by, claim_named, unasked_by}
use Rattle.bd_thread.proofs.thread.Thread.claim.Goals as goal

pub returns-then-not-may_ask-clause-claimed : goal.returns-then-not-may_ask-clause-claimed
returns-then-not-may_ask-clause-claimed c =
    let t = c.args.self.now in
    let links = c.args.links.now in
    let id = c.in-Some.id in
    let job = sym c.undecided_job.ensures ∙ ap option_copied c.in-Some-Claim.is ∙ ap Some c.in-Some-Claim.field-0-is in
    let bound : bound_to t.part c.in-Some-Claim.handle ≡ Some id = sym c.bound_to.ensures ∙ c.in-Some.is in
    let named = claim_named t.part c.in-Some-Claim.handle c.in-Some-Claim.kind id links.shut (undecided_job t.setup.now t.me t.part) c.if-links.false job bound in
    unasked_by t links (events.Claim id c.in-Some-Claim.kind) (claim_of t.part (job_now t links)) named (sym c.may_ask.ensures ∙ c.if-not-may_ask.true)

pub returns-clause-claimed : goal.returns-clause-claimed
returns-clause-claimed c =
    let t = c.args.self.now in
    let links = c.args.links.now in
    let id = c.in-Some.id in
    let job = sym c.undecided_job.ensures ∙ ap option_copied c.in-Some-Claim.is ∙ ap Some c.in-Some-Claim.field-0-is in
    let bound : bound_to t.part c.in-Some-Claim.handle ≡ Some id = sym c.bound_to.ensures ∙ c.in-Some.is in
    let named = claim_named t.part c.in-Some-Claim.handle c.in-Some-Claim.kind id links.shut (undecided_job t.setup.now t.me t.part) c.if-links.false job bound in
    asked_by t links c.ask.new.self c.ask.new.links (events.Claim id c.in-Some-Claim.kind) (claim_of t.part (job_now t links)) named
    (sym c.may_ask.ensures ∙ c.if-not-may_ask.false) c.in_ok-ask.ensures.answered
