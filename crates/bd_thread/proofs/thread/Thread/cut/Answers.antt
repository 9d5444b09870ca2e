use Rattle.std.proofs.Common.{Some, sym, ◌∙◌, ap}
use Rattle.std.proofs.lemmas.Result.{IfOk-weaker}
use Rattle.bd_machine.specs.declared.state.OpenRequest.{OpenRequest}
use Rattle.bd_machine.specs.Kept.{request_here}
use Rattle.bd_machine.specs.Requests.{may_cut}
use Rattle.bd_machine.specs.View.{View}
use Rattle.bd_thread.proofs.Cutting.{cut_here, uncut_stays}
use Rattle.bd_thread.proofs.thread.Thread.cut.Goals as goal

pub returns-in_default-clause-cut : goal.returns-in_default-clause-cut
returns-in_default-clause-cut c =
    let old = c.args.self.now in
    uncut_stays old c.args.links.now c.args.req (sym (ap (λ (v : View). may_cut old.setup.now old.me v c.args.req (request_here v c.args.req)) c.seen.ensures) ∙ c.in_default.ensures.none)

pub cut_into-requires-clause-here : goal.cut_into-requires-clause-here
cut_into-requires-clause-here c = sym (ap (λ (v : View). request_here v c.args.req) c.seen.ensures) ∙ c.in-Some.ensures.here

pub cut_into-requires-clause-may : goal.cut_into-requires-clause-may
cut_into-requires-clause-may c =
    let old = c.args.self.now in
    let r : OpenRequest = c.in-Some.r in
    sym (ap (λ (v : View). may_cut old.setup.now old.me v c.args.req (Some r)) c.seen.ensures) ∙ c.in-Some.ensures.may

pub returns-clause-cut : goal.returns-clause-cut
returns-clause-cut c =
    let old = c.args.self.now in
    let r : OpenRequest = c.in-Some.r in
    let here = sym (ap (λ (v : View). request_here v c.args.req) c.seen.ensures) ∙ c.in-Some.ensures.here in
    let may = sym (ap (λ (v : View). may_cut old.setup.now old.me v c.args.req (Some r)) c.seen.ensures) ∙ c.in-Some.ensures.may in
    IfOk-weaker c.cut_into.result _ _ (λ n cut. cut_here old c.args.links.now c.cut_into.new.self c.cut_into.new.links c.args.req r n here may cut) c.cut_into.ensures.cut
