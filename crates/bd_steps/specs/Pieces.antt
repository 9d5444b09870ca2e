-- The pieces of a request, as they are to be put, or wait to be sent again.
use Rattle.std.specs.Prelude.{ℕ, cond, List, ◌++◌, map}
use Rattle.std.specs.List.{range_with_len}
use Rattle.bd_base.specs.declared.act.Token.{Token}
use Rattle.bd_base.specs.declared.act.Token.TheVariants as tokens
use Rattle.bd_base.specs.declared.id.DevId.{DevId}
use Rattle.bd_base.specs.declared.id.ReqId.{ReqId}
use Rattle.bd_base.specs.declared.setup.Setup.{Setup}
use Rattle.bd_machine.specs.BlockMap.{base_of, home}
use Rattle.bd_retries.specs.Channels.{Channel, changed, queued, sent, waits}

-- a piece that is still to be put to a thread
abbrev pub piece_to : ℕ → ReqId → ℕ → ℕ × Token
piece_to to req k = (to, tokens.Piece req k)

abbrev pub pieces_to : ℕ → ReqId → ℕ → List (ℕ × Token)
pieces_to to req n = map (piece_to to req) (range_with_len 0 n)

-- ---- a request on a device that was cut into n pieces

-- what is to be put: its pieces too, to the device's home, unless pieces wait already to be sent again to its base device
abbrev pub outbox_cut : Setup → DevId → ReqId → ℕ → List Channel → List (ℕ × Token) → List (ℕ × Token)
outbox_cut setup dev req n channels outbox = cond (waits (base_of setup dev) channels) outbox (outbox ++ pieces_to (home setup dev) req n)

-- the channel of its base device: n more are in flight, unless pieces wait already; then these wait after them
abbrev pub channels_cut : Setup → DevId → ReqId → ℕ → List Channel → List Channel
channels_cut setup dev req n channels = cond (waits (base_of setup dev) channels) (changed (base_of setup dev) (queued req n) channels) (changed (base_of setup dev) (sent n) channels)
