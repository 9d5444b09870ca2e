use Rattle.std.proofs.Common.{ℕ, cond, is_none, Option, None, refl, sym, ◌∙◌, ap, ap₂}
use Rattle.bd_machine.specs.declared.state.OpenRequest.{OpenRequest}
use Rattle.bd_machine.specs.Kept.{request_here}
use Rattle.bd_machine.specs.Limits.{guards_let}
use Rattle.bd_machine.specs.Step.{first_failing}
use Rattle.bd_machine.specs.View.{View}
use Rattle.bd_thread.specs.Limits.{head_of, let_due_of, with_id}
use Rattle.bd_thread.specs.Seen.{view_of}
use Rattle.bd_thread.proofs.Limiting.{let_by}
use Rattle.bd_thread.proofs.thread.Thread.let_due.Goals as goal

pub returns-in_default : goal.returns-in_default
returns-in_default c =
    let head = c.head_of.ensures ∙ ap head_of c.waiting_for.ensures in
    sym (ap (let_due_of c.args.self.now c.args.links.now c.args.dev) (sym head ∙ c.in_default.is))

pub returns-in-None : goal.returns-in-None
returns-in-None c =
    let t = c.args.self.now in
    let links = c.args.links.now in
    let req = c.in-Some.req in
    let head = c.head_of.ensures ∙ ap head_of c.waiting_for.ensures in
    let failing = c.refused_let.ensures ∙ ap₂ (λ (v : View) (n : ℕ). first_failing (guards_let t.setup.now t.me v req c.args.dev n)) c.seen-seen.ensures c.moment-now.ensures in
    let here = c.request_here.ensures ∙ ap (λ (v : View). request_here v req) c.seen-seen.ensures in
    let found : Option OpenRequest = request_here (view_of t links) req in
    c.with_id.ensures ∙ ap (with_id req) here ∙ sym (ap (λ (o : Option ℕ). cond (is_none o) (with_id req found) None) c.in-None.is) ∙ let_by t links c.args.dev req found _ (sym head ∙ c.in-Some.is) refl failing

pub returns-in-Some-refused_let : goal.returns-in-Some-refused_let
returns-in-Some-refused_let c =
    let t = c.args.self.now in
    let links = c.args.links.now in
    let req = c.in-Some.req in
    let head = c.head_of.ensures ∙ ap head_of c.waiting_for.ensures in
    let failing = c.refused_let.ensures ∙ ap₂ (λ (v : View) (n : ℕ). first_failing (guards_let t.setup.now t.me v req c.args.dev n)) c.seen-seen.ensures c.moment-now.ensures in
    let found : Option OpenRequest = request_here (view_of t links) req in
    sym (ap (λ (o : Option ℕ). cond (is_none o) (with_id req found) None) c.in-Some-refused_let.is) ∙ let_by t links c.args.dev req found _ (sym head ∙ c.in-Some.is) refl failing
