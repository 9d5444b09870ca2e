-- What becomes of a token that a message brought.
use Rattle.std.proofs.Common.{◌≡◌, ℕ, Bool, true, false, cond, not, List, [], ◌∷◌, Some, refl, ap}
use Rattle.bd_base.specs.declared.act.Token.{Token}
use Rattle.bd_base.specs.declared.act.Token.TheVariants as tokens
use Rattle.bd_machine.specs.declared.state.Id.TheVariants as ids
use Rattle.bd_machine.specs.declared.state.Kept.{Kept}
use Rattle.bd_machine.specs.declared.state.Kept.TheVariants as keeps
use Rattle.bd_machine.specs.Messages.{arrived_walk}
use Rattle.bd_machine.specs.View.{Closed, Going, Here, Move, id_of}
use Rattle.bd_machine.specs.Walks.{is_at_end}
use Rattle.bd_rule_effects.specs.Begun.{is_of_kind, stays, taken, token_moved}

either_way : (b : Bool) → cond b Closed Here ≡ cond (not b) Here Closed
either_way true = refl
either_way false = refl

-- a token of its message's kind stays or is closed
pub arrives : (s t n : ℕ) (what : Token) (kept : Kept) → is_of_kind what kept ≡ true → token_moved t what (Some kept) (id_of s t n what) ≡ record { id = id_of s t n what; kept = taken kept; going = cond (stays t what kept) Here Closed } ∷ []
arrives s t n (tokens.Request req) (keeps.Request r) e = refl
arrives s t n (tokens.Request req) (keeps.Piece p) e = cc
arrives s t n (tokens.Request req) (keeps.Walk w) e = cc
arrives s t n (tokens.Request req) (keeps.Notice told) e = refl
arrives s t n (tokens.Piece req k) (keeps.Request r) e = cc
arrives s t n (tokens.Piece req k) (keeps.Piece p) e = refl
arrives s t n (tokens.Piece req k) (keeps.Walk w) e = cc
arrives s t n (tokens.Piece req k) (keeps.Notice told) e = refl
arrives s t n (tokens.Walk walk) (keeps.Request r) e = cc
arrives s t n (tokens.Walk walk) (keeps.Piece p) e = cc
arrives s t n (tokens.Walk walk) (keeps.Walk w) e = ap (λ (g : Going). let ms : List Move = record { id = ids.Walk walk; kept = keeps.Walk (arrived_walk w); going = g } ∷ [] in ms) (either_way (is_at_end t walk (arrived_walk w)))
arrives s t n (tokens.Walk walk) (keeps.Notice told) e = refl
arrives s t n (tokens.Go req threads) (keeps.Request r) e = cc
arrives s t n (tokens.Go req threads) (keeps.Piece p) e = cc
arrives s t n (tokens.Go req threads) (keeps.Walk w) e = cc
arrives s t n (tokens.Go req threads) (keeps.Notice told) e = refl
arrives s t n (tokens.Gone handle) (keeps.Request r) e = cc
arrives s t n (tokens.Gone handle) (keeps.Piece p) e = cc
arrives s t n (tokens.Gone handle) (keeps.Walk w) e = cc
arrives s t n (tokens.Gone handle) (keeps.Notice told) e = refl
arrives s t n (tokens.Channel dev) (keeps.Request r) e = cc
arrives s t n (tokens.Channel dev) (keeps.Piece p) e = cc
arrives s t n (tokens.Channel dev) (keeps.Walk w) e = cc
arrives s t n (tokens.Channel dev) (keeps.Notice told) e = refl
arrives s t n (tokens.Device dev) (keeps.Request r) e = cc
arrives s t n (tokens.Device dev) (keeps.Piece p) e = cc
arrives s t n (tokens.Device dev) (keeps.Walk w) e = cc
arrives s t n (tokens.Device dev) (keeps.Notice told) e = refl
arrives s t n (tokens.Mark name) (keeps.Request r) e = cc
arrives s t n (tokens.Mark name) (keeps.Piece p) e = cc
arrives s t n (tokens.Mark name) (keeps.Walk w) e = cc
arrives s t n (tokens.Mark name) (keeps.Notice told) e = refl
arrives s t n (tokens.Grow dev blocks) (keeps.Request r) e = cc
arrives s t n (tokens.Grow dev blocks) (keeps.Piece p) e = cc
arrives s t n (tokens.Grow dev blocks) (keeps.Walk w) e = cc
arrives s t n (tokens.Grow dev blocks) (keeps.Notice told) e = refl
arrives s t n (tokens.Sized handle blocks) (keeps.Request r) e = cc
arrives s t n (tokens.Sized handle blocks) (keeps.Piece p) e = cc
arrives s t n (tokens.Sized handle blocks) (keeps.Walk w) e = cc
arrives s t n (tokens.Sized handle blocks) (keeps.Notice told) e = refl
