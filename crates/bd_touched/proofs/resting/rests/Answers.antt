use Rattle.std.proofs.Common.{slice_get, sym, ◌∙◌, ap}
use Rattle.bd_machine.specs.declared.state.Part.{Part}
use Rattle.bd_machine.proofs.Tables.{request_same}
use Rattle.bd_touched.proofs.Rested.{by_id_away, by_id_here}
use Rattle.bd_touched.proofs.resting.rests.Goals as goal

pub returns-in_default-request_here : goal.returns-in_default-request_here
returns-in_default-request_here g c = λ yes.
    let v = g.S.Sees.view_of c.args.seen.now in
    by_id_away c.args.setup.now c.args.me v v.part.requests c.args.req c.args.touched.now.holds c.place_of.result c.in-Some.open.now
    (sym (c.in-Some.ensures ∙ ap (λ (p : Part). slice_get p.requests c.place_of.result) c.part.ensures))
    (request_same.exact _ _ (sym c.same_request.ensures ∙ c.if-not-same_request.false))
    (sym c.request_here.ensures ∙ c.in_default-request_here.is)

pub returns : goal.returns
returns g c = λ may.
    let v = g.S.Sees.view_of c.args.seen.now in
    by_id_here c.args.setup.now c.args.me v v.part.requests c.args.req c.args.touched.now.holds c.place_of.result c.in-Some.open.now c.in-Some-request_here.r
    (sym (c.in-Some.ensures ∙ ap (λ (p : Part). slice_get p.requests c.place_of.result) c.part.ensures))
    (request_same.exact _ _ (sym c.same_request.ensures ∙ c.if-not-same_request.false))
    (sym c.request_here.ensures ∙ c.in-Some-request_here.is)
    (sym c.is_on_own.ensures ∙ c.if-not-is_on_own.false)
    (c.may_rest.ensures may c.args.touched.now.holds (sym c.holds_on.ensures ∙ c.if-not-holds_on.false))
