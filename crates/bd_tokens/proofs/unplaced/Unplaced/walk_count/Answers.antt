use Rattle.std.proofs.Common.{length, List, sym, ◌∙◌, ap}
use Rattle.std.proofs.lemmas.List.{length-map}
use Rattle.bd_base.specs.declared.id.WalkId.{WalkId}
use Rattle.bd_machine.specs.declared.state.Kept.{Kept}
use Rattle.bd_tokens.specs.Tokens.{Held}
use Rattle.bd_tokens.specs.Walks.{walks_in}
use Rattle.bd_tokens.proofs.Listed.{walks_unplaced}
use Rattle.bd_tokens.proofs.unplaced.Unplaced.walk_count.Goals as goal

pub returns : goal.returns
returns c =
    c.count_walks.ensures.value
    ∙ ap (λ (ws : List (WalkId × Kept)). length ws) c.as_slice.ensures.value
    ∙ sym (length-map c.self.inside.walks.items (λ (walk : WalkId × Kept). walk.0))
    ∙ sym (ap (λ (ws : List WalkId). length ws) (walks_unplaced c.self.inside.walks.items c.self.inside.map.entries c.self.invariant))
    ∙ ap (λ (h : Held). length (walks_in h.items)) c.self.view_is
