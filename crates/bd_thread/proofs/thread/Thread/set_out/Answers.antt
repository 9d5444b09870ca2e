use Rattle.std.proofs.Common.{ℕ, true, [], ◌∷◌, ◌++◌, refl, sym, ◌∙◌, ap}
use Rattle.bd_base.specs.declared.act.Token.TheVariants as tokens
use Rattle.bd_flight.specs.declared.next.Step.TheVariants as steps
use Rattle.bd_flight.specs.Next.{next_step}
use Rattle.bd_machine.specs.View.{View}
use Rattle.bd_thread.specs.declared.thread.Thread.{Thread}
use Rattle.bd_thread.proofs.Noted.{sets_none, sets_so}
use Rattle.bd_thread.proofs.thread.Thread.set_out.Goals as goal

pub returns-in_ok-push_back-in-Limit : goal.returns-in_ok-push_back-in-Limit
returns-in_ok-push_back-in-Limit c =
    let t = c.args.self.now in
    let links = c.args.links.now in
    let req = c.args.req in
    let is = sym (c.in-Limit.ensures.step ∙ ap (λ (v : View). next_step t.setup.now t.me v req) c.seen.ensures) in
    let new : Thread = record t { outbox = c.push_back.new.self } in
    let put = c.in_ok-push_back-in-Limit.ensures.items ∙ ap (λ (n : ℕ). t.outbox.items ++ (n, tokens.Request req) ∷ []) c.home-to.ensures in
    sets_so req t links new true (steps.Limit c.in-Limit.dev) is (refl, record { thread = refl; outbox = put; links = refl })

pub returns-in_ok-note_call-in-Inject : goal.returns-in_ok-note_call-in-Inject
returns-in_ok-note_call-in-Inject c =
    let t = c.args.self.now in
    let links = c.args.links.now in
    let req = c.args.req in
    let is = sym (c.in-Inject.ensures.step ∙ ap (λ (v : View). next_step t.setup.now t.me v req) c.seen.ensures) in
    sets_so req t links _ true (steps.Inject _) is (refl, record { thread = c.in_ok-note_call-in-Inject.ensures.thread; calls = c.in_ok-note_call-in-Inject.ensures.noted; links = refl })

pub returns-in_default : goal.returns-in_default
returns-in_default c =
    let t = c.args.self.now in
    let links = c.args.links.now in
    let req = c.args.req in
    let is = sym (c.next_step.ensures.step ∙ ap (λ (v : View). next_step t.setup.now t.me v req) c.seen.ensures) in
    sets_none req t links c.next_step.result is c.in_default.not-Limit c.in_default.not-Inject
