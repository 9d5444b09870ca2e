-- The pieces of a request that was cut, held one after another.
use Rattle.std.proofs.Common.{◌≡◌, ℕ, ◌+◌, cond, List, ◌∷◌, Option, Some, sym, ◌∙◌, ap, ap₂}
use Rattle.bd_base.specs.declared.id.ReqId.{ReqId}
use Rattle.bd_base.specs.declared.setup.Setup.{Setup}
use Rattle.bd_machine.specs.declared.state.Extent.{Extent}
use Rattle.bd_machine.specs.declared.state.Id.{Id}
use Rattle.bd_machine.specs.declared.state.Id.TheVariants as ids
use Rattle.bd_machine.specs.declared.state.Kept.{Kept}
use Rattle.bd_machine.specs.declared.state.Kept.TheVariants as keeps
use Rattle.bd_machine.specs.declared.state.OpenPiece.{OpenPiece}
use Rattle.bd_machine.specs.declared.state.OpenRequest.{OpenRequest}
use Rattle.bd_machine.specs.Alone.{held_after}
use Rattle.bd_machine.specs.Requests.{new_piece, pieces_made}
use Rattle.bd_machine.specs.Same.{same_id}
use Rattle.bd_tokens.specs.Tokens.{here_in, Sets}

-- a piece is held, and those that are left come after it
pub hold_step : (setup : Setup) (req : ReqId) (r : OpenRequest) (k more : ℕ) (extent : Extent) (left rest : List Extent) (p : OpenPiece) (old new : List (Id × Kept)) (total : Id → Option Kept)
    → left ≡ extent ∷ rest
    → p ≡ new_piece setup r k extent
    → more ≡ k + 1
    → Sets old new (ids.Piece req k) (Some (keeps.Piece p))
    → held_after (pieces_made setup req r k left) (here_in old) ≡ total
    → held_after (pieces_made setup req r more rest) (here_in new) ≡ total
hold_step setup req r k more extent left rest p old new total is piece next sets all =
    ap₂ (λ (n : ℕ) (here : Id → Option Kept). held_after (pieces_made setup req r n rest) here) next sets
    ∙ ap (λ (q : OpenPiece). held_after (pieces_made setup req r (k + 1) rest) (λ j. cond (same_id (ids.Piece req k) j) (Some (keeps.Piece q)) (here_in old j))) piece
    ∙ sym (ap (λ (es : List Extent). held_after (pieces_made setup req r k es) (here_in old)) is)
    ∙ all
