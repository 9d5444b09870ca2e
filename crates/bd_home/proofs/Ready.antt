-- A device that can serve a piece is among the bases.
use Rattle.std.proofs.Common.{◌≡◌, ℕ, true, Option, Some, None}
use Rattle.std.specs.Option.{option_map}
use Rattle.bd_base.specs.declared.id.DevId.{DevId}
use Rattle.bd_machine.specs.declared.state.Base.{Base}
use Rattle.bd_machine.specs.declared.state.OpenPiece.{OpenPiece}
use Rattle.bd_home.specs.Serving.{can_serve}

pub none_ready : (size : ℕ) (dev : DevId) (f : Base → OpenPiece) (o : Option Base) (p : OpenPiece) → option_map f o ≡ None → can_serve size dev o p ≡ true → ⊥
none_ready size dev f None p e h = cc
none_ready size dev f (Some b) p e h = cc
