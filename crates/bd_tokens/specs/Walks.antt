-- The walks among the tokens.
use Rattle.std.specs.Prelude.{◌≡◌, ◌≢◌, ℕ, ◌-◌, ◌<◌, List, [], ◌∷◌, ◌++◌, length, map, min, Option, Some, None}
use Rattle.std.specs.List.{filter_map, slice_get}
use Rattle.bd_base.specs.declared.id.WalkId.{WalkId}
use Rattle.bd_machine.specs.declared.state.Id.{Id}
use Rattle.bd_machine.specs.declared.state.Id.TheVariants.{Request, Piece, Walk, Notice}
use Rattle.bd_machine.specs.declared.state.Kept.{Kept}
use Rattle.bd_machine.specs.Same.{same_walk}
use Rattle.bd_machine.specs.Table.{look_up}
use Rattle.bd_tokens.specs.declared.key.Key.{Key}
use Rattle.bd_tokens.specs.Tokens.{here_in, items_of}

-- the walk, if the token is one
abbrev pub walk_of : Id → Option WalkId
walk_of (Request req) = None
walk_of (Piece req k) = None
walk_of (Walk walk) = Some walk
walk_of (Notice sender receiver number) = None

-- the walks among tokens, in their order
abbrev pub walks_in : List (Id × Kept) → List WalkId
walks_in items = filter_map (λ item. walk_of item.0) items

-- the walk is at this place of those among the tokens
pub record IsAmong (items : List (Id × Kept)) (id : WalkId) : Type 0 where
  pub place : ℕ
  pub within : place < length (walks_in items)
  pub at : slice_get (walks_in items) place ≡ Some id

-- each walk that is here is at a place of those among the tokens
abbrev pub EachIsAmong : Type 0
EachIsAmong = (items : List (Id × Kept)) (id : WalkId) → here_in items (Walk id) ≢ None → IsAmong items id

-- each walk at a place of those among the tokens is here
abbrev pub EachIsHere : Type 0
EachIsHere = (items : List (Id × Kept)) (id : WalkId) (place : ℕ) → slice_get (walks_in items) place ≡ Some id → here_in items (Walk id) ≢ None

-- what a list of walks holds
abbrev pub items_of_walks : List (WalkId × Kept) → List (Id × Kept)
items_of_walks walks = map (λ walk. (Walk walk.0, walk.1)) walks

-- the walks of a list, and then what the map has
abbrev pub unplaced_with : List (WalkId × Kept) → List (Key × Kept) → List (Id × Kept)
unplaced_with walks entries = items_of_walks walks ++ items_of entries

-- each walk is in the list once
abbrev pub AreOnce : List (WalkId × Kept) → Type 0
AreOnce [] = Unit {0}
AreOnce (walk ∷ walks) = (look_up same_walk walks walk.0 ≡ None) × AreOnce walks

-- each walk is in the list once, and the map has none
pub record AreUnplaced (walks : List (WalkId × Kept)) (entries : List (Key × Kept)) : Type 0 where
  pub once : AreOnce walks
  pub none : (id : WalkId) → here_in (items_of entries) (Walk id) ≡ None

-- how many more tokens can be held even where memory runs out: walks in a list of n with this capacity, all others in a map with these spare places
abbrev pub room_of : ℕ → ℕ → ℕ → ℕ
room_of spare capacity n = min spare (capacity - n)
