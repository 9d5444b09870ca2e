-- What a thread holds of the tokens that are on it.
use Rattle.std.specs.Prelude.{◌≡◌, ℕ, cond, List, map, Option, Some, None}
use Rattle.bd_base.specs.declared.act.Token.{Token}
use Rattle.bd_machine.specs.declared.state.Id.{Id}
use Rattle.bd_machine.specs.declared.state.Kept.{Kept}
use Rattle.bd_machine.specs.Same.{same_id}
use Rattle.bd_machine.specs.Table.{look_up}
use Rattle.bd_rule_effects.specs.Begun.{stays, taken}
use Rattle.bd_tokens.specs.declared.key.Key.{Key}

-- what is held: each token once, in no order, with what is kept of it; and how many more can be held even where memory runs out
pub record Held : Type 0 where
  pub items : List (Id × Kept)
  pub room : ℕ

-- what a map from keys holds
abbrev pub items_of : List (Key × Kept) → List (Id × Kept)
items_of entries = map (λ e. (e.0.id, e.1)) entries

-- what is here of a token
abbrev pub here_in : List (Id × Kept) → Id → Option Kept
here_in items id = look_up same_id items id

-- this is here of the token now, and all else stayed
abbrev pub Sets : List (Id × Kept) → List (Id × Kept) → Id → Option Kept → Type 0
Sets old new id o = here_in new ≡ (λ j. cond (same_id id j) o (here_in old j))

-- what is here of a token that a message brought with this kept of it
abbrev pub left_of : ℕ → Token → Kept → Option Kept
left_of t what kept = cond (stays t what kept) (Some (taken kept)) None
