use Rattle.std.proofs.Common.{sym, ◌∙◌, ap}
use Rattle.bd_machine.specs.View.{View}
use Rattle.bd_steps.specs.Completions.{ending_of}
use Rattle.bd_thread.proofs.Completing.{completes_so, stays_open}
use Rattle.bd_thread.proofs.thread.Thread.complete.Goals as goal

pub returns-in_default-clause-completes : goal.returns-in_default-clause-completes
returns-in_default-clause-completes c =
    let old = c.args.self.now in
    stays_open old c.args.links.now c.args.req (sym (ap (λ (v : View). ending_of old.setup.now old.me v c.args.req) c.seen.ensures) ∙ sym c.in_ok-ending.ensures ∙ c.in_default.is)

pub end-requires-clause-due : goal.end-requires-clause-due
end-requires-clause-due c = sym (ap (λ (v : View). ending_of c.args.self.now.setup.now c.args.self.now.me v c.args.req) c.seen.ensures) ∙ sym c.in_ok-ending.ensures ∙ c.in-Some.is

pub returns-clause-completes : goal.returns-clause-completes
returns-clause-completes c =
    let old = c.args.self.now in
    let is = sym (ap (λ (v : View). ending_of old.setup.now old.me v c.args.req) c.seen.ensures) ∙ sym c.in_ok-ending.ensures ∙ c.in-Some.is in
    completes_so old c.args.links.now c.end.new.self c.end.new.links c.args.req c.in-Some.ending is c.in_ok-end.ensures.completed
