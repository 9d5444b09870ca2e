-- Delays: how long a request is held, and Hold and Release.
use Rattle.std.specs.Prelude.{ℕ, ◌+◌, ◌%◌, Bool, true, false, cond, ◌&&◌, ◌||◌, ◌==◌, nat_le, min, List, [], ◌∷◌, filter, Option, Some, None, is_none, is_some, unwrap_or, sum_by}
use Rattle.std.specs.List.{list_any, list_all}
use Rattle.bd_base.specs.declared.device.DevRow.{DevRow}
use Rattle.bd_base.specs.declared.device.Kind.{Kind}
use Rattle.bd_base.specs.declared.device.Kind.TheVariants as kinds
use Rattle.bd_base.specs.declared.id.DevId.{DevId}
use Rattle.bd_base.specs.declared.id.ReqId.{ReqId}
use Rattle.bd_base.specs.declared.request.Way.{Way}
use Rattle.bd_base.specs.declared.request.Way.TheVariants.{Read, Write}
use Rattle.bd_base.specs.declared.setup.Setup.{Setup}
use Rattle.bd_machine.specs.declared.guard.TheConstants.{MAY_HOLD, HOLD_OVER}
use Rattle.bd_machine.specs.declared.state.Delayed.{Delayed}
use Rattle.bd_machine.specs.declared.state.Hold.{Hold}
use Rattle.bd_machine.specs.declared.state.Hold.TheVariants as holds
use Rattle.bd_machine.specs.declared.state.OpenPiece.{OpenPiece}
use Rattle.bd_machine.specs.declared.state.OpenRequest.{OpenRequest}
use Rattle.bd_machine.specs.declared.state.Part.{Part}
use Rattle.bd_machine.specs.BlockMap.{below, row_of, is_delay}
use Rattle.bd_machine.specs.Completion.{pieces_of, is_back, is_faulted, has_end}
use Rattle.bd_machine.specs.Kept.{request_here, edited, is_at_own}
use Rattle.bd_machine.specs.Limits.{way_of, seen}
use Rattle.bd_machine.specs.Marks.{times_marked}
use Rattle.bd_machine.specs.Same.{same_dev}
use Rattle.bd_machine.specs.Table.{look_up, write}
use Rattle.bd_machine.specs.View.{View, Change}

-- ---- latencies

abbrev pub uncounted : Delayed
uncounted = record { reads = 0; writes = 0 }

-- the reads and writes of a delay device that were held here since its channel was made
abbrev pub delayed_of : Part → DevId → Delayed
delayed_of part dev = unwrap_or (look_up same_dev part.delayed dev) uncounted

-- how long the request after `count` others of its direction waits: the average, and each hundredth the p99
abbrev pub latency_after : ℕ → ℕ → ℕ → ℕ
latency_after count average p99 = cond ((count + 1) % 100 == 0) p99 average

abbrev pub latency_of_kind : Kind → Way → Delayed → ℕ
latency_of_kind (kinds.Delay average_read p99_read average_write p99_write) Read c = latency_after c.reads average_read p99_read
latency_of_kind (kinds.Delay average_read p99_read average_write p99_write) Write c = latency_after c.writes average_write p99_write
latency_of_kind _ way c = 0

abbrev pub latency_of_row : Option DevRow → Way → Delayed → ℕ
latency_of_row None way c = 0
latency_of_row (Some row) way c = latency_of_kind row.kind way c

abbrev pub latency_at : Setup → Part → Way → DevId → ℕ
latency_at setup part way dev = latency_of_row (row_of setup dev) way (delayed_of part dev)

-- the latencies of all delay devices below
abbrev pub latency : Setup → Part → DevId → Option Way → ℕ
latency setup part dev None = 0
latency setup part dev (Some way) = sum_by (latency_at setup part way) (below setup dev)

abbrev pub counted_once : Way → Delayed → Delayed
counted_once Read c = record c { reads = c.reads + 1 }
counted_once Write c = record c { writes = c.writes + 1 }

abbrev pub counted_at : Way → List (DevId × Delayed) → Part → DevId → List (DevId × Delayed)
counted_at way table part dev = write same_dev table dev (counted_once way (delayed_of part dev))

abbrev pub counted_all : Way → Part → List (DevId × Delayed) → List DevId → List (DevId × Delayed)
counted_all way part table [] = table
counted_all way part table (d ∷ ds) = counted_all way part (counted_at way table part d) ds

-- the counts with one more request of this way, at each delay device below
abbrev pub counted : Setup → Part → DevId → Option Way → List (DevId × Delayed)
counted setup part dev None = part.delayed
counted setup part dev (Some way) = counted_all way part part.delayed (filter (is_delay setup) (below setup dev))

-- ---- Hold

-- a read or write over a delay device
abbrev pub is_delayed : Setup → OpenRequest → Bool
is_delayed setup r = is_some (way_of r.op) && list_any (is_delay setup) (below setup r.dev)

abbrev pub is_before : Hold → Bool
is_before holds.Before = true
is_before _ = false

-- the most that a moment can be
abbrev pub last_moment : ℕ
last_moment = 18446744073709551615

-- every piece has an end, or one has a fault
abbrev pub is_served : List (Option OpenPiece) → Bool
is_served pieces = list_all has_end pieces || list_any is_faulted pieces

abbrev pub may_hold : Setup → ℕ → View → ReqId → ℕ → Option OpenRequest → Bool
may_hold setup t v req until None = false
may_hold setup t v req until (Some r) =
    is_at_own t req r && is_delayed setup r && is_some r.pieces && is_none r.aborted && is_before r.hold
    && list_all is_back (pieces_of v req r) && is_served (pieces_of v req r)
    && nat_le (min (v.part.moments.last + latency setup v.part r.dev (way_of r.op)) last_moment) until

abbrev pub guards_hold : Setup → ℕ → View → ReqId → ℕ → List (ℕ × Bool)
guards_hold setup t v req until = (MAY_HOLD, may_hold setup t v req until (request_here v req)) ∷ []

abbrev pub held : Setup → Part → ℕ → OpenRequest → OpenRequest
held setup part until r = record r { hold = holds.Until until (times_marked setup part r.dev) }

abbrev pub counted_if_any : Setup → Part → Option OpenRequest → List (DevId × Delayed)
counted_if_any setup part None = part.delayed
counted_if_any setup part (Some r) = counted setup part r.dev (way_of r.op)

abbrev pub change_hold : Setup → View → ReqId → ℕ → Change
change_hold setup v req until = record {
  part = record v.part { delayed = counted_if_any setup v.part (request_here v req) };
  moves = edited req (held setup v.part until) (request_here v req);
}

-- ---- Release

-- its moment has come, and since it was held no mark of a device below was set that stops whatever waits
abbrev pub is_hold_over : ℕ → ℕ → Hold → Bool
is_hold_over now times (holds.Until moment marked) = nat_le moment now && (marked == times)
is_hold_over now times _ = false

abbrev pub may_release : Setup → ℕ → View → ReqId → ℕ → Option OpenRequest → Bool
may_release setup t v req now None = false
may_release setup t v req now (Some r) =
    is_at_own t req r && is_none r.aborted && nat_le v.part.moments.last now && is_hold_over now (times_marked setup v.part r.dev) r.hold

abbrev pub guards_release : Setup → ℕ → View → ReqId → ℕ → List (ℕ × Bool)
guards_release setup t v req now = (HOLD_OVER, may_release setup t v req now (request_here v req)) ∷ []

abbrev pub released : OpenRequest → OpenRequest
released r = record r { hold = holds.Over }

abbrev pub change_release : View → ReqId → ℕ → Change
change_release v req now = record {
  part = record v.part { moments = seen now v.part.moments };
  moves = edited req released (request_here v req);
}
