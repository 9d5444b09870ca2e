-- Pieces that end one after another.
use Rattle.std.proofs.Common.{◌≡◌, ℕ, ◌+◌, List, [], ◌∷◌, Option, Some, None, refl}
use Rattle.bd_base.specs.declared.id.ReqId.{ReqId}
use Rattle.bd_machine.specs.declared.state.Id.{Id}
use Rattle.bd_machine.specs.declared.state.OpenPiece.{OpenPiece}
use Rattle.bd_machine.specs.declared.state.Tracked.{Tracked}
use Rattle.bd_machine.specs.Requests.{pieces_closed}
use Rattle.bd_machine.specs.Step.{moved}

pub closed_next : (t : ℕ) (req : ReqId) (k : ℕ) (p : Option OpenPiece) (ps : List (Option OpenPiece)) (tokens : List (Id × Tracked)) → moved t (pieces_closed req k (p ∷ ps)) tokens ≡ moved t (pieces_closed req (k + 1) ps) (moved t (pieces_closed req k (p ∷ [])) tokens)
closed_next t req k None ps tokens = refl
closed_next t req k (Some p) ps tokens = refl
