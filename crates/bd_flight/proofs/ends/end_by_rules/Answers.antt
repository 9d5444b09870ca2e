use Rattle.std.proofs.Common.{◌≡◌, true, Option, Some, sym, ap, ◌∙◌}
use Rattle.bd_machine.specs.declared.state.OpenRequest.{OpenRequest}
use Rattle.bd_machine.specs.Requests.{may_complete}
use Rattle.bd_flight.proofs.Completing.{end_is}
use Rattle.bd_flight.proofs.ends.end_by_rules.Goals as goal

pub returns-then-may_complete : goal.returns-then-may_complete
returns-then-may_complete g c =
    let v = g.S.Sees.view_of c.args.seen.now in
    let here = ap (λ (o : Option OpenRequest). may_complete c.args.me v c.args.req o) c.requires in
    let may : may_complete c.args.me v c.args.req (Some c.args.r) ≡ true = sym here ∙ sym c.may_complete.ensures ∙ c.if-may_complete.true in
    end_is c.args.setup.now c.args.me v c.args.req c.args.r c.status_due.result may c.status_due.ensures.some c.status_due.ensures.none
