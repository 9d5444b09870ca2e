use Rattle.std.proofs.Common.{◌<◌, ◌++◌, ◌∷◌, [], List, length, sym, ◌∙◌, ap, subst, arith, ltb-true}
use Rattle.bd_base.specs.declared.id.ReqId.{ReqId}
use Rattle.bd_machine.specs.Asked.{most_requests}
use Rattle.bd_thread.specs.Requests.{IsFresh}
use Rattle.bd_thread.proofs.Submissions.{opened_acted, opened_keeping}
use Rattle.bd_thread.proofs.Tickets.{accepted_tickets}
use Rattle.bd_thread.proofs.thread.Thread.accept.Goals as goal

pub returns-in-Ok-clause-acted : goal.returns-in-Ok-clause-acted
returns-in-Ok-clause-acted c =
    let old = c.args.self.now in
    let before = c.args.links.now in
    let fresh : IsFresh old c.id-req.result = subst (λ (r : ReqId). IsFresh old r) (sym c.id-req.ensures) c.requires.fresh in
    let below : c.len.result < most_requests = ltb-true c.len.result most_requests (sym c.has_room.ensures ∙ c.if-not-has_room.false) in
    let room : length old.part.requests < most_requests = omega (arith, c.len.ensures) in
    opened_acted old before _ c.open_request.new.links c.id-req.result c.args.dev c.args.handle c.args.asked c.requires.asked fresh c.requires.admitted c.requires.on room
    (opened_keeping old before c.open_request.new.self c.open_request.new.links c.id-req.result c.args.dev c.args.handle c.args.asked c.keep.new.self c.in-Ok.ensures.opened)

pub returns-in-Ok-clause-tickets : goal.returns-in-Ok-clause-tickets
returns-in-Ok-clause-tickets c = λ keeps.
    let old = c.args.self.now in
    let fresh : IsFresh old c.id-req.result = subst (λ (r : ReqId). IsFresh old r) (sym c.id-req.ensures) c.requires.fresh in
    accepted_tickets old _ c.id-req.result c.args.dev c.args.handle c.args.asked fresh c.in-Ok.ensures.opened.part
    (c.keep.ensures.ids ∙ ap (λ (xs : List ReqId). xs ++ c.args.ticket ∷ []) c.in-Ok.ensures.tickets ∙ ap (λ (r : ReqId). old.purse.ids ++ r ∷ []) (sym c.id-req.ensures))
    keeps
