use Rattle.std.proofs.Common.{◌≡◌, Some, sym, ◌∙◌, ap}
use Rattle.bd_base.specs.declared.act.Act.TheVariants as acts
use Rattle.bd_machine.specs.View.{View}
use Rattle.bd_steps.specs.Refusing.{refusal_due}
use Rattle.bd_thread.specs.declared.links.Links.{Links}
use Rattle.bd_thread.specs.Refusals.{refusal_now}
use Rattle.bd_thread.proofs.Alone.{sends_back_alone}
use Rattle.bd_thread.proofs.Idle.{idle_here, more}
use Rattle.bd_thread.proofs.Refusing.{sends_none_back, sends_one_back}
use Rattle.bd_thread.proofs.thread.Thread.refuse_last.Goals as goal

pub returns-in_default-clause-quiet : goal.returns-in_default-clause-quiet
returns-in_default-clause-quiet c =
    let old = c.args.self.now in
    idle_here old c.args.links.now (sym (c.refusal_due.ensures ∙ ap (λ (v : View). refusal_due old.setup.now old.me v c.args.dev) c.seen.ensures) ∙ c.in_default.is)

pub returns-in_default-clause-sends : goal.returns-in_default-clause-sends
returns-in_default-clause-sends c =
    let old = c.args.self.now in
    sends_none_back old c.args.links.now c.args.dev (sym (c.refusal_due.ensures ∙ ap (λ (v : View). refusal_due old.setup.now old.me v c.args.dev) c.seen.ensures) ∙ c.in_default.is)

pub send_back-requires : goal.send_back-requires
send_back-requires c =
    let old = c.args.self.now in
    sym (c.refusal_due.ensures ∙ ap (λ (v : View). refusal_due old.setup.now old.me v c.args.dev) c.seen.ensures) ∙ c.in-Some.is

pub returns-clause-quiet : goal.returns-clause-quiet
returns-clause-quiet c = λ few.
    let old = c.args.self.now in
    absurd (more old.me c.args.links.now c.send_back.new.links (acts.NoMem c.in-Some.req c.in-Some.k c.args.dev) (ap (λ (l : Links). l.entries) c.in_ok-send_back.ensures.sent.links) few)

pub returns-clause-sends : goal.returns-clause-sends
returns-clause-sends c =
    let old = c.args.self.now in
    let due : refusal_now c.args.dev old c.args.links.now ≡ Some (c.in-Some.req, c.in-Some.k) = sym (c.refusal_due.ensures ∙ ap (λ (v : View). refusal_due old.setup.now old.me v c.args.dev) c.seen.ensures) ∙ c.in-Some.is in
    sends_one_back old c.args.links.now c.send_back.new.self c.send_back.new.links c.in-Some.req c.in-Some.k c.args.dev due c.in_ok-send_back.ensures.sent

pub returns-clause-alone : goal.returns-clause-alone
returns-clause-alone c =
    let old = c.args.self.now in
    let due : refusal_now c.args.dev old c.args.links.now ≡ Some (c.in-Some.req, c.in-Some.k) = sym (c.refusal_due.ensures ∙ ap (λ (v : View). refusal_due old.setup.now old.me v c.args.dev) c.seen.ensures) ∙ c.in-Some.is in
    sends_back_alone c.args.dev old c.args.links.now c.send_back.new.self c.send_back.new.links _
    (sends_one_back old c.args.links.now c.send_back.new.self c.send_back.new.links c.in-Some.req c.in-Some.k c.args.dev due c.in_ok-send_back.ensures.sent)
