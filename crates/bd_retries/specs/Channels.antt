-- What contracts see of the retry queues of a thread: for the channel of each base device, what is in flight and what waits.
use Rattle.std.specs.Prelude.{ℕ, ◌+◌, ◌-◌, ◌/◌, Bool, true, false, cond, not, ◌&&◌, ◌==◌, nat_le, max, List, [], ◌∷◌, ◌++◌, map, filter, find, drop, slice_get, Option, Some, None, is_some}
use Rattle.std.specs.List.{range_with_len}
use Rattle.bd_base.specs.declared.id.DevId.{DevId}
use Rattle.bd_base.specs.declared.id.ReqId.{ReqId}
use Rattle.bd_machine.specs.Same.{same_dev, same_request}
use Rattle.bd_machine.specs.Table.{change_first}
use Rattle.bd_retries.specs.declared.waiting.Waiting.{Waiting}

-- base: the device; in_flight: how many pieces of the channel are under way; threshold: the most of them at which the first piece of the queue is sent
-- pieces: those that wait to be sent again, in order, each by its request and its number there
pub record Channel : Type 0 where
  pub base : DevId
  pub in_flight : ℕ
  pub threshold : ℕ
  pub pieces : List (ReqId × ℕ)

-- the threshold after a refusal with this number of pieces in flight: half of them, or 8 fewer where that is more
abbrev pub threshold_at : ℕ → ℕ
threshold_at in_flight = max (in_flight / 2) (in_flight - 8)

-- ---- one channel

-- nothing is in flight, and nothing waits
abbrev pub blank : DevId → Channel
blank base = record { base = base; in_flight = 0; threshold = 0; pieces = [] }

-- n more pieces are in flight
abbrev pub sent : ℕ → Channel → Channel
sent n c = record c { in_flight = c.in_flight + n }

-- a piece came back
abbrev pub landed : Channel → Channel
landed c = record c { in_flight = c.in_flight - 1 }

-- a piece came back without an end: it waits, and the threshold is that of the pieces that are left in flight
abbrev pub refused : ReqId × ℕ → Channel → Channel
refused p c = record c { in_flight = c.in_flight - 1; threshold = threshold_at (c.in_flight - 1); pieces = c.pieces ++ p ∷ [] }

-- the first n pieces of a request
abbrev pub pieces_named : ReqId → ℕ → List (ReqId × ℕ)
pieces_named req n = map (λ k. (req, k)) (range_with_len 0 n)

-- the first n pieces of a request wait
abbrev pub queued : ReqId → ℕ → Channel → Channel
queued req n c = record c { pieces = c.pieces ++ pieces_named req n }

abbrev pub first_waiting : DevId → List (ReqId × ℕ) → Option Waiting
first_waiting base [] = None
first_waiting base (p ∷ ps) = Some (record { base = base; req = p.0; k = p.1 })

-- the first piece that waits, where no more are in flight than the threshold
abbrev pub next : Channel → Option Waiting
next c = cond (nat_le c.in_flight c.threshold) (first_waiting c.base c.pieces) None

-- the first piece that waits is in flight
abbrev pub retried : Channel → Channel
retried c = record c { in_flight = c.in_flight + 1; pieces = drop 1 c.pieces }

-- n pieces that were never sent are no longer in flight, and no piece of the request waits
abbrev pub dropped : ReqId → ℕ → Channel → Channel
dropped req n c = record c { in_flight = c.in_flight - n; pieces = filter (λ p. not (same_request p.0 req)) c.pieces }

-- ---- the channels of a thread

abbrev pub is_of : DevId → Channel → Bool
is_of base c = same_dev c.base base

-- the channel of a base is among them
abbrev pub with_channel : DevId → List Channel → List Channel
with_channel base channels = cond (is_some (find (is_of base) channels)) channels (channels ++ blank base ∷ [])

-- the channel of a base, changed; it is made where there is none yet
abbrev pub changed : DevId → (Channel → Channel) → List Channel → List Channel
changed base change channels = change_first (is_of base) change (with_channel base channels)

-- the same, where there is one
abbrev pub changed_if_any : DevId → (Channel → Channel) → List Channel → List Channel
changed_if_any base change channels = change_first (is_of base) change channels

abbrev pub is_some_waiting : List (ReqId × ℕ) → Bool
is_some_waiting [] = false
is_some_waiting (p ∷ ps) = true

-- nothing is in flight, and nothing waits
abbrev pub is_idle : Channel → Bool
is_idle c = (c.in_flight == 0) && not (is_some_waiting c.pieces)

abbrev pub waits_in : Option Channel → Bool
waits_in None = false
waits_in (Some c) = is_some_waiting c.pieces

-- a piece waits in the retry queue of the base
abbrev pub waits : DevId → List Channel → Bool
waits base channels = waits_in (find (is_of base) channels)

abbrev pub next_in : Option Channel → Option Waiting
next_in None = None
next_in (Some c) = next c

-- the piece that may be sent again of the channel at this place
abbrev pub next_at : List Channel → ℕ → Option Waiting
next_at channels place = next_in (slice_get channels place)
