use Rattle.std.proofs.Common.{List, map, sym, ◌∙◌, ap}
use Rattle.std.specs.List.{slice_get}
use Rattle.bd_base.specs.declared.id.WalkId.{WalkId}
use Rattle.bd_machine.specs.declared.state.Kept.{Kept}
use Rattle.bd_tokens.specs.Tokens.{Held}
use Rattle.bd_tokens.specs.Walks.{walks_in}
use Rattle.bd_tokens.proofs.Listed.{walks_unplaced}
use Rattle.bd_tokens.proofs.unplaced.Unplaced.walk_at.Goals as goal

pub returns : goal.returns
returns c =
    c.walk_at.ensures
    ∙ ap (λ (ws : List (WalkId × Kept)). slice_get (map (λ walk. walk.0) ws) c.args.place) c.as_slice.ensures.value
    ∙ sym (ap (λ (ws : List WalkId). slice_get ws c.args.place) (walks_unplaced c.self.inside.walks.items c.self.inside.map.entries c.self.invariant))
    ∙ ap (λ (h : Held). slice_get (walks_in h.items) c.args.place) c.self.view_is
