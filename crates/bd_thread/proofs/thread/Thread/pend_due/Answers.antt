use Rattle.std.proofs.Common.{ℕ, cond, is_none, Option, None, sym, ◌∙◌, ap}
use Rattle.bd_machine.specs.declared.state.OpenRequest.{OpenRequest}
use Rattle.bd_machine.specs.Injections.{guards_pend}
use Rattle.bd_machine.specs.Kept.{request_here}
use Rattle.bd_machine.specs.Step.{first_failing}
use Rattle.bd_machine.specs.View.{View}
use Rattle.bd_thread.specs.Seen.{view_of}
use Rattle.bd_thread.proofs.Injecting.{pend_by}
use Rattle.bd_thread.proofs.thread.Thread.pend_due.Goals as goal

pub returns-in-None : goal.returns-in-None
returns-in-None c =
    let t = c.args.self.now in
    let links = c.args.links.now in
    let req = c.args.req in
    let failing = c.refused_pend.ensures ∙ ap (λ (v : View). first_failing (guards_pend t.me v req)) c.seen-seen.ensures in
    let seen = c.request_here.ensures ∙ ap (λ (v : View). request_here v req) c.seen-seen.ensures in
    let here : Option OpenRequest = request_here (view_of t links) req in
    seen ∙ sym (ap (λ (o : Option ℕ). cond (is_none o) here None) c.in-None.is) ∙ pend_by t links req _ failing

pub returns-in-Some : goal.returns-in-Some
returns-in-Some c =
    let t = c.args.self.now in
    let links = c.args.links.now in
    let req = c.args.req in
    let failing = c.refused_pend.ensures ∙ ap (λ (v : View). first_failing (guards_pend t.me v req)) c.seen-seen.ensures in
    let here : Option OpenRequest = request_here (view_of t links) req in
    sym (ap (λ (o : Option ℕ). cond (is_none o) here None) c.in-Some.is) ∙ pend_by t links req _ failing
