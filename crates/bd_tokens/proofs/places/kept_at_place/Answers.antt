use Rattle.std.proofs.Common.{◌≡◌, Option, None, slice_index_or, sym, ◌∙◌, ap, arith}
use Rattle.bd_machine.specs.declared.state.Id.{Id}
use Rattle.bd_machine.specs.declared.state.Kept.{Kept}
use Rattle.bd_tokens.specs.Places.{kept_in}
use Rattle.bd_tokens.proofs.Placed.{at_place, past, placeless}
use Rattle.std.proofs.lemmas.Grind.{common_steps}
use Rattle.bd_tokens.proofs.places.kept_at_place.Goals as goal

pub returns-in_default : goal.returns-in_default
returns-in_default c = sym (placeless c.args.tier c.args.rows.now c.args.id c.requires (cc))

pub returns-in-Some-get : goal.returns-in-Some-get
returns-in-Some-get c =
    c.kept_in.ensures ∙ ap (λ (r : Option (Id × Kept)). kept_in c.args.id r) (let h : c.in-Some-get.row.now ≡ slice_index_or c.args.rows.now c.in-Some.place None = grind (arith, common_steps) in h)
    ∙ sym (at_place c.args.tier c.args.rows.now c.in-Some.place c.args.id c.requires (cc))

pub returns-in-None : goal.returns-in-None
returns-in-None c = sym (past c.args.tier c.args.rows.now c.in-Some.place c.args.id c.requires (cc) (grind (arith, common_steps)))
