use Rattle.std.proofs.Common.{List, sym, ◌∙◌, ap}
use Rattle.std.specs.List.{slice_get}
use Rattle.bd_base.specs.declared.id.WalkId.{WalkId}
use Rattle.bd_tokens.specs.declared.places.Tier.TheVariants.{Near}
use Rattle.bd_tokens.specs.Tokens.{Held}
use Rattle.bd_tokens.specs.Walks.{walks_in}
use Rattle.bd_tokens.proofs.Listed.{walks_with}
use Rattle.bd_tokens.proofs.tokens.Tokens.walk_at.Goals as goal

pub returns : goal.returns
returns c =
    c.walk_at.ensures
    ∙ sym (ap (λ (ws : List WalkId). slice_get ws c.args.place) (walks_with Near c.self.inside.rows.items c.self.inside.beyond.items c.self.invariant))
    ∙ ap (λ (h : Held). slice_get (walks_in h.items) c.args.place) c.self.view_is
