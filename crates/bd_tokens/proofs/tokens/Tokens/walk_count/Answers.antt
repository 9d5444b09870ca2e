use Rattle.std.proofs.Common.{length, List, sym, ◌∙◌, ap}
use Rattle.bd_base.specs.declared.id.WalkId.{WalkId}
use Rattle.bd_tokens.specs.declared.places.Tier.TheVariants.{Near}
use Rattle.bd_tokens.specs.Tokens.{Held}
use Rattle.bd_tokens.specs.Walks.{walks_in}
use Rattle.bd_tokens.proofs.Listed.{walks_with}
use Rattle.bd_tokens.proofs.tokens.Tokens.walk_count.Goals as goal

pub returns : goal.returns
returns c =
    c.walk_count.ensures
    ∙ sym (ap (λ (ws : List WalkId). length ws) (walks_with Near c.self.inside.rows.items c.self.inside.beyond.items c.self.invariant))
    ∙ ap (λ (h : Held). length (walks_in h.items)) c.self.view_is
