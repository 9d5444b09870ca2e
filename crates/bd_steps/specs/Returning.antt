-- What a piece that is back on its own thread leaves of the channels.
use Rattle.std.specs.Prelude.{ℕ, Bool, cond, not, ◌&&◌, List, Option, Some, None, is_none}
use Rattle.bd_base.specs.declared.id.ReqId.{ReqId}
use Rattle.bd_machine.specs.declared.state.Id.{Id}
use Rattle.bd_machine.specs.declared.state.Id.TheVariants as ids
use Rattle.bd_machine.specs.declared.state.Kept.{Kept}
use Rattle.bd_machine.specs.declared.state.OpenPiece.{OpenPiece}
use Rattle.bd_machine.specs.Kept.{as_piece, as_request}
use Rattle.bd_machine.specs.Messages.{is_aborted}
use Rattle.bd_retries.specs.Channels.{Channel, changed, changed_if_any, landed, refused}

-- one piece fewer is in flight; one without an end waits to be sent again, unless its request is aborted
abbrev pub back_by : ReqId → ℕ → Bool → Option OpenPiece → List Channel → List Channel
back_by req k aborted None channels = channels
back_by req k aborted (Some p) channels = cond (is_none p.end && not aborted) (changed p.base (refused (req, k)) channels) (changed_if_any p.base landed channels)

-- the same, by what is here of the piece and its request
abbrev pub channels_back : ReqId → ℕ → (Id → Option Kept) → List Channel → List Channel
channels_back req k here channels = back_by req k (is_aborted (as_request (here (ids.Request req)))) (as_piece (here (ids.Piece req k))) channels
