-- What an act makes of a walk's token, beside the part.
use Rattle.std.specs.Prelude.{ℕ, Bool, true, false, cond, not, List, [], ◌∷◌, Option, Some, None}
use Rattle.bd_base.specs.declared.act.Token.{Token}
use Rattle.bd_base.specs.declared.act.Token.TheVariants as tokens
use Rattle.bd_base.specs.declared.id.WalkId.{WalkId}
use Rattle.bd_machine.specs.declared.state.Id.{Id}
use Rattle.bd_machine.specs.declared.state.Id.TheVariants as ids
use Rattle.bd_machine.specs.declared.state.Kept.{Kept}
use Rattle.bd_machine.specs.declared.state.Kept.TheVariants as keeps
use Rattle.bd_machine.specs.declared.state.OpenWalk.{OpenWalk}
use Rattle.bd_machine.specs.declared.state.Part.{Part}
use Rattle.bd_machine.specs.Messages.{progress_took, here_with, closed_notice, arrived_walk}
use Rattle.bd_machine.specs.Walks.{is_at_end}
use Rattle.bd_machine.specs.View.{Move, Here, Closed, Change}

-- the walk, if one begins, is on the thread
abbrev pub begun : Option (WalkId × OpenWalk) → List Move
begun None = []
begun (Some walk) = record { id = ids.Walk walk.0; kept = keeps.Walk walk.1; going = Here } ∷ []

-- this part, and no token but a walk that begins
abbrev pub with_walk : Part → Option (WalkId × OpenWalk) → Change
with_walk part walk = record { part = part; moves = begun walk }

-- a walk that is here ends where it is at its end, else it stays
abbrev pub walk_moved : ℕ → WalkId → OpenWalk → List Move
walk_moved t walk w = record { id = ids.Walk walk; kept = keeps.Walk w; going = cond (is_at_end t walk w) Closed Here } ∷ []

-- what is kept of a token once it was taken
abbrev pub taken : Kept → Kept
taken (keeps.Request r) = keeps.Request r
taken (keeps.Piece p) = keeps.Piece (record p { progress = progress_took p.progress })
taken (keeps.Walk w) = keeps.Walk (arrived_walk w)
taken (keeps.Notice told) = keeps.Notice told

-- a token that was taken stays, but for a notice, and for a walk that ends
abbrev pub stays : ℕ → Token → Kept → Bool
stays t what (keeps.Notice told) = false
stays t (tokens.Walk walk) (keeps.Walk w) = not (is_at_end t walk (arrived_walk w))
stays t what _ = true

-- the token that a message brought: it stays or is closed; where the message brings another, nothing
abbrev pub token_moved : ℕ → Token → Option Kept → Id → List Move
token_moved t what None id = []
token_moved t (tokens.Request req) (Some (keeps.Request r)) id = here_with id (keeps.Request r)
token_moved t (tokens.Piece req k) (Some (keeps.Piece p)) id = here_with id (taken (keeps.Piece p))
token_moved t (tokens.Walk walk) (Some (keeps.Walk w)) id = walk_moved t walk (arrived_walk w)
token_moved t what (Some (keeps.Notice told)) id = closed_notice id told
token_moved t what _ id = []

-- a message with this token may bring what is kept so: any may bring a notice
abbrev pub is_of_kind : Token → Kept → Bool
is_of_kind (tokens.Request req) (keeps.Request r) = true
is_of_kind (tokens.Piece req k) (keeps.Piece p) = true
is_of_kind (tokens.Walk walk) (keeps.Walk w) = true
is_of_kind what (keeps.Notice told) = true
is_of_kind what _ = false
