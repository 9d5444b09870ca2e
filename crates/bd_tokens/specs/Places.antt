-- Places for tokens: each request and each piece has one near and one far off, which it shares with others.
use Rattle.std.specs.Prelude.{◌≡◌, ℕ, ◌+◌, ◌*◌, ◌%◌, ◌≤◌, ◌⊎◌, Bool, true, false, cond, List, [], ◌∷◌, ◌++◌, length, Option, Some, None}
use Rattle.bd_machine.specs.declared.state.Id.{Id}
use Rattle.bd_machine.specs.declared.state.Id.TheVariants.{Request, Piece, Walk, Notice}
use Rattle.bd_machine.specs.declared.state.Kept.{Kept}
use Rattle.bd_machine.specs.Same.{same_id}
use Rattle.bd_tokens.specs.Tokens.{here_in}
use Rattle.bd_tokens.specs.declared.places.Tier.{Tier}
use Rattle.bd_tokens.specs.declared.places.Tier.TheVariants.{Near, Far}

-- near, the place of a request is another one for each of 128 of a thread in a row, that of a piece for each of 16 in a row of each of 16 threads
abbrev pub near_place_of : Id → Option ℕ
near_place_of (Request req) = Some (256 + req.seq % 128)
near_place_of (Piece req k) = Some (16 * (req.thread % 16) + (req.seq % 16 + k % 16) % 16)
near_place_of (Walk walk) = None
near_place_of (Notice sender receiver number) = None

-- far off, that of a request is another one for each of 2,048 of a thread in a row, that of a piece for each of 64 in a row of each of 16 requests in a row
abbrev pub far_place_of : Id → Option ℕ
far_place_of (Request req) = Some (1024 + req.seq % 2048)
far_place_of (Piece req k) = Some (64 * (req.seq % 16) + k % 64)
far_place_of (Walk walk) = None
far_place_of (Notice sender receiver number) = None

abbrev pub place_of : Tier → Id → Option ℕ
place_of Near id = near_place_of id
place_of Far id = far_place_of id

-- what is at the places: the tokens there
abbrev pub items_in : List (Option (Id × Kept)) → List (Id × Kept)
items_in [] = []
items_in (None ∷ rows) = items_in rows
items_in (Some item ∷ rows) = item ∷ items_in rows

-- a token that is there has this place
abbrev pub IsAt : Tier → ℕ → Option (Id × Kept) → Type 0
IsAt tier place None = Unit {0}
IsAt tier place (Some item) = place_of tier item.0 ≡ Some place

-- each token is at its place, of places from this one on
abbrev pub AreAt : Tier → ℕ → List (Option (Id × Kept)) → Type 0
AreAt tier place [] = Unit {0}
AreAt tier place (row ∷ rows) = IsAt tier place row × AreAt tier (place + 1) rows

-- what is at a place is of this token, if it is there
abbrev pub kept_in : Id → Option (Id × Kept) → Option Kept
kept_in id None = None
kept_in id (Some item) = cond (same_id item.0 id) (Some item.1) None

abbrev pub kept_of : Id × Kept → Kept
kept_of item = item.1

-- nothing is at a place, or this token
abbrev pub is_free : Id → Option (Id × Kept) → Bool
is_free id None = true
is_free id (Some item) = same_id item.0 id

-- this token is at a place
abbrev pub is_own : Id → Option (Id × Kept) → Bool
is_own id None = false
is_own id (Some item) = same_id item.0 id

-- what is at the places, and then what isn't at one
abbrev pub items_with : List (Option (Id × Kept)) → List (Id × Kept) → List (Id × Kept)
items_with rows others = items_in rows ++ others

-- no token is both at its place and among these others
abbrev pub AreApart : List (Option (Id × Kept)) → List (Id × Kept) → Type 0
AreApart rows others = (id : Id) → (here_in (items_in rows) id ≡ None) ⊎ (here_in others id ≡ None)

-- each token is at its place or among the others
pub record AreKept (tier : Tier) (rows : List (Option (Id × Kept))) (others : List (Id × Kept)) : Type 0 where
  pub few : length rows ≤ 4096
  pub at : AreAt tier 0 rows
  pub apart : AreApart rows others
