use Rattle.std.proofs.Common.{List, sym, ◌∙◌, ap}
use Rattle.bd_base.specs.declared.id.WalkId.{WalkId}
use Rattle.bd_machine.specs.declared.state.Kept.{Kept}
use Rattle.bd_machine.specs.Same.{same_walk}
use Rattle.bd_machine.specs.Table.{look_up}
use Rattle.bd_tokens.specs.Tokens.{Held, here_in}
use Rattle.bd_tokens.proofs.Listed.{here_mapped, walk_here}
use Rattle.bd_tokens.proofs.unplaced.Unplaced.get.Goals as goal

pub returns-in-Some : goal.returns-in-Some
returns-in-Some c =
    c.get_walk.ensures
    ∙ ap (λ (ws : List (WalkId × Kept)). look_up same_walk ws c.in-Some.walk) c.as_slice.ensures.value
    ∙ sym (walk_here c.self.inside.walks.items c.self.inside.map.entries c.args.id c.in-Some.walk c.self.invariant (cc))
    ∙ ap (λ (h : Held). here_in h.items c.args.id) c.self.view_is

pub returns-in-None : goal.returns-in-None
returns-in-None c =
    c.get_other.ensures
    ∙ sym (here_mapped c.self.inside.walks.items c.self.inside.map.entries c.args.id (cc))
    ∙ ap (λ (h : Held). here_in h.items c.args.id) c.self.view_is
