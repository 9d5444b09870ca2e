use Rattle.std.proofs.Common.{position, sym, ◌∙◌, ap}
use Rattle.bd_msg.specs.Purse.{same_request, Kept}
use Rattle.bd_msg.proofs.Rising.{only_place}
use Rattle.bd_msg.proofs.purse.Purse.place_of.Goals as goal

pub returns-in-Some : goal.returns-in-Some
returns-in-Some c =
    sym (only_place c.self.inside.next c.args.id c.self.inside.tickets.items c.in-Some.place c.self.invariant (sym c.is_some.ensures ∙ c.if-is_some.true) c.in-Some.ensures.within c.in-Some.ensures.same)
    ∙ ap (λ (k : Kept). position (λ x. same_request x c.args.id) k.ids) c.self.view_is
