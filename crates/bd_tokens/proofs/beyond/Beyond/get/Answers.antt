use Rattle.std.proofs.Common.{List, Option, option_copied, sym, ◌∙◌, ap}
use Rattle.bd_machine.specs.declared.state.Id.{Id}
use Rattle.bd_machine.specs.declared.state.Kept.{Kept}
use Rattle.bd_tokens.specs.Places.{items_in}
use Rattle.bd_tokens.specs.Tokens.{Held, here_in}
use Rattle.bd_tokens.proofs.Placed.{here_other, here_own}
use Rattle.bd_tokens.proofs.beyond.Beyond.get.Goals as goal

pub returns-in-Some : goal.returns-in-Some
returns-in-Some c =
    sym (here_own c.self.inside.rows.items c.self.inside.unplaced.items c.args.id c.in-Some.kept.now (ap (λ (rs : List (Option (Id × Kept))). here_in (items_in rs) c.args.id) (sym c.as_slice.ensures.value) ∙ sym c.kept_at_place.ensures ∙ ap option_copied c.in-Some.is))
    ∙ ap (λ (h : Held). here_in h.items c.args.id) c.self.view_is

pub returns-in-None : goal.returns-in-None
returns-in-None c =
    c.get.ensures
    ∙ sym (here_other c.self.inside.rows.items c.self.inside.unplaced.items c.args.id (ap (λ (rs : List (Option (Id × Kept))). here_in (items_in rs) c.args.id) (sym c.as_slice.ensures.value) ∙ sym c.kept_at_place.ensures ∙ ap option_copied c.in-None.is))
    ∙ ap (λ (h : Held). here_in h.items c.args.id) c.self.view_is
