-- Which piece a home sends back since its device's queue is full, and how it is kept then.
use Rattle.std.specs.Prelude.{ℕ, cond, Option, Some, None}
use Rattle.bd_base.specs.declared.id.DevId.{DevId}
use Rattle.bd_base.specs.declared.id.ReqId.{ReqId}
use Rattle.bd_base.specs.declared.setup.Setup.{Setup}
use Rattle.bd_home.specs.Serving.{last_at}
use Rattle.bd_machine.specs.declared.state.Id.{Id}
use Rattle.bd_machine.specs.declared.state.Id.TheVariants as ids
use Rattle.bd_machine.specs.declared.state.Kept.{Kept}
use Rattle.bd_machine.specs.Alone.{held_after}
use Rattle.bd_machine.specs.Homes.{base_here, piece_edited, refused}
use Rattle.bd_machine.specs.Kept.{as_piece}
use Rattle.bd_machine.specs.View.{View}
use Rattle.bd_rule_requests.specs.Homes.{may_refuse}

abbrev pub if_refused : Setup → ℕ → View → DevId → Option (ReqId × ℕ) → Option (ReqId × ℕ)
if_refused setup me v dev None = None
if_refused setup me v dev (Some q) = cond (may_refuse setup me v q.0 q.1 dev) (Some q) None

-- the piece that thread number `me` sends back from a device: the last of its queue, where the rules let it
abbrev pub refusal_due : Setup → ℕ → View → DevId → Option (ReqId × ℕ)
refusal_due setup me v dev = if_refused setup me v dev (last_at (base_here v dev))

-- what is here once the piece was refused
abbrev pub here_refused : ReqId → ℕ → (Id → Option Kept) → Id → Option Kept
here_refused req k here = held_after (piece_edited req k refused (as_piece (here (ids.Piece req k)))) here
