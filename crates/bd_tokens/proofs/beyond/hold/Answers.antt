use Rattle.std.proofs.Common.{List, Option, Some, sym, ◌∙◌, ap}
use Rattle.bd_machine.specs.declared.state.Id.{Id}
use Rattle.bd_machine.specs.declared.state.Kept.{Kept}
use Rattle.bd_tokens.specs.Places.{items_in}
use Rattle.bd_tokens.specs.declared.places.Tier.TheVariants.{Far}
use Rattle.bd_tokens.specs.Tokens.{here_in}
use Rattle.bd_tokens.proofs.Placed.{held_there}
use Rattle.bd_tokens.proofs.beyond.hold.Goals as goal

pub returns-in_ok-hold-in-None-clause-kept : goal.returns-in_ok-hold-in-None-clause-kept
returns-in_ok-hold-in-None-clause-kept c =
    (held_there Far c.args.rows.now.items c.args.unplaced.now.items c.hold.new.self.items c.args.id (Some c.args.kept) c.requires (ap (λ (rs : List (Option (Id × Kept))). here_in (items_in rs) c.args.id) (sym c.as_slice.ensures.value) ∙ c.in-None.ensures.none) c.in_ok-hold-in-None.ensures.ok).kept

pub returns-in_ok-hold-in-None-clause-ok : goal.returns-in_ok-hold-in-None-clause-ok
returns-in_ok-hold-in-None-clause-ok c =
    (held_there Far c.args.rows.now.items c.args.unplaced.now.items c.hold.new.self.items c.args.id (Some c.args.kept) c.requires (ap (λ (rs : List (Option (Id × Kept))). here_in (items_in rs) c.args.id) (sym c.as_slice.ensures.value) ∙ c.in-None.ensures.none) c.in_ok-hold-in-None.ensures.ok).held
