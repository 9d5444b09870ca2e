use Rattle.std.proofs.Common.{◌≡◌, ℕ, true, List, Option, Some, IfSome, sym, ◌∙◌, ap, subst}
use Rattle.std.specs.Option.{option_copied}
use Rattle.bd_base.specs.declared.event.RegEvent.{RegEvent}
use Rattle.bd_base.specs.declared.event.RegEvent.TheVariants as events
use Rattle.bd_machine.specs.Asked.{undecided_job}
use Rattle.bd_steps.specs.Resetting.{is_asked_alone}
use Rattle.bd_steps.specs.Following.{get_due}
use Rattle.bd_thread.specs.Lines.{job_now, may_ask, open_of, Follows}
use Rattle.bd_thread.proofs.Going.{acted_then}
use Rattle.bd_thread.proofs.Registering.{get_asked, get_built, open_named, opened_by, unopened_by}
use Rattle.bd_thread.proofs.thread.Thread.open.Goals as goal

pub returns-then-not-may_ask-clause-opened : goal.returns-then-not-may_ask-clause-opened
returns-then-not-may_ask-clause-opened c =
    let t = c.args.self.now in
    let links = c.args.links.now in
    let job = sym c.undecided_job.ensures ∙ ap option_copied c.in-Some-Open.is ∙ ap Some c.in-Some-Open.field-0-is in
    let named = open_named _ c.in-Some-Open.dev c.in-Some-Open.write links.shut (undecided_job t.setup.now t.me t.part) c.if-links.false job
    ∙ ap (λ (name : List ℕ). Some (events.Open name c.in-Some-Open.write)) (sym c.in_ok-copy.ensures) in
    unopened_by t links (events.Open c.in_ok-copy.field-0 c.in-Some-Open.write) (open_of (job_now t links)) named (sym c.may_ask.ensures ∙ c.if-not-may_ask.true)

pub follow-requires-clause-built : goal.follow-requires-clause-built
follow-requires-clause-built c = subst (λ (o : Option RegEvent). IfSome o (λ event. is_asked_alone event ≡ true)) (sym c.get_due-due.ensures) (get_built c.ask.new.self.me c.between.result)

pub follow-requires-clause-asked : goal.follow-requires-clause-asked
follow-requires-clause-asked c = subst (λ (o : Option RegEvent). IfSome o (λ event. may_ask c.ask.new.self c.ask.new.links event ≡ true)) (sym (c.get_due-due.ensures ∙ ap (get_due c.ask.new.self.me) c.between.ensures)) (get_asked c.ask.new.self c.ask.new.links)

pub returns : goal.returns
returns c =
    let t = c.args.self.now in
    let links = c.args.links.now in
    let job = sym c.undecided_job.ensures ∙ ap option_copied c.in-Some-Open.is ∙ ap Some c.in-Some-Open.field-0-is in
    let named = open_named _ c.in-Some-Open.dev c.in-Some-Open.write links.shut (undecided_job t.setup.now t.me t.part) c.if-links.false job
    ∙ ap (λ (name : List ℕ). Some (events.Open name c.in-Some-Open.write)) (sym c.in_ok-copy.ensures) in
    record {
      acted = acted_then _ _ _ _ _ _ c.in_ok-ask.ensures.acted c.in_ok-follow.ensures.acted;
      tickets = λ keeps. c.in_ok-follow.ensures.tickets (c.in_ok-ask.ensures.tickets keeps);
      opened =
          opened_by t links c.follow.new.self c.follow.new.links (events.Open c.in_ok-copy.field-0 c.in-Some-Open.write) (open_of (job_now t links)) named (sym c.may_ask.ensures ∙ c.if-not-may_ask.false)
          (record {
            middle = c.ask.new.self;
            shared = c.ask.new.links;
            answered = c.in_ok-ask.ensures.answered;
            followed = subst (Follows c.ask.new.self c.ask.new.links c.follow.new.self c.follow.new.links) (c.get_due-due.ensures ∙ ap (get_due c.ask.new.self.me) c.between.ensures) c.in_ok-follow.ensures.follows;
          });
    }
