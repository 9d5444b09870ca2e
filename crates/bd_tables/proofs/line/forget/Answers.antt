use Rattle.std.proofs.Common.{◌≡◌, position, Some, None, sym, ◌∙◌, ap}
use Rattle.bd_msg.specs.Purse.{same_request}
use Rattle.bd_msg.proofs.Without.{remove-position}
use Rattle.bd_tables.proofs.Lines.{without_none}
use Rattle.bd_tables.proofs.line.forget.Goals as goal

pub returns-in-Some-clause-items : goal.returns-in-Some-clause-items
returns-in-Some-clause-items c =
    let found : position (λ x. same_request x c.args.id) c.args.waiting.now.items ≡ Some c.in-Some.place = ap (position (λ x. same_request x c.args.id)) (sym c.as_slice.ensures.value) ∙ sym c.place_of.ensures ∙ c.in-Some.is in
    c.remove-id.ensures.items ∙ remove-position c.args.id c.args.waiting.now.items c.in-Some.place found

pub returns-in_default-clause-items : goal.returns-in_default-clause-items
returns-in_default-clause-items c =
    let none : position (λ x. same_request x c.args.id) c.args.waiting.now.items ≡ None = ap (position (λ x. same_request x c.args.id)) (sym c.as_slice.ensures.value) ∙ sym c.place_of.ensures ∙ c.in_default.is in
    sym (without_none c.args.id c.args.waiting.now.items none)
