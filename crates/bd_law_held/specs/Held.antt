-- The requests that are held, each as its thread saw it, and until when: by the machine's states, by a thread's rows, and by its turns; and how long that is at most.
use Rattle.std.specs.Prelude.{ℕ, ◌+◌, ◌≤◌, Bool, cond, ◌==◌, max, min, List, [], ◌∷◌, ◌++◌, sum_by, Option, Some, None}
use Rattle.std.specs.List.{AllByRecursion}
use Rattle.bd_base.specs.declared.act.Act.{Act}
use Rattle.bd_base.specs.declared.act.Act.TheVariants as acts
use Rattle.bd_base.specs.declared.act.Entry.{Entry}
use Rattle.bd_base.specs.declared.device.DevRow.{DevRow}
use Rattle.bd_base.specs.declared.device.Kind.{Kind}
use Rattle.bd_base.specs.declared.device.Kind.TheVariants as kinds
use Rattle.bd_base.specs.declared.id.DevId.{DevId}
use Rattle.bd_base.specs.declared.id.ReqId.{ReqId}
use Rattle.bd_base.specs.declared.request.Op.{Op}
use Rattle.bd_base.specs.declared.request.Way.{Way}
use Rattle.bd_base.specs.declared.request.Way.TheVariants.{Read, Write}
use Rattle.bd_base.specs.declared.setup.Setup.{Setup}
use Rattle.bd_machine.specs.declared.state.Content.{Content}
use Rattle.bd_machine.specs.declared.state.Id.{Id}
use Rattle.bd_machine.specs.declared.state.Id.TheVariants as ids
use Rattle.bd_machine.specs.declared.state.Kept.{Kept}
use Rattle.bd_machine.specs.declared.state.OpenRequest.{OpenRequest}
use Rattle.bd_machine.specs.declared.state.State.{State}
use Rattle.bd_machine.specs.BlockMap.{below, row_of}
use Rattle.bd_machine.specs.Delays.{last_moment}
use Rattle.bd_machine.specs.Kept.{as_request}
use Rattle.bd_machine.specs.Limits.{way_of}
use Rattle.bd_machine.specs.Step.{after}
use Rattle.bd_machine.specs.View.{View, view}
use Rattle.bd_law_runs.specs.Ledger.{Accepted, requests_by}
use Rattle.bd_law_logs.specs.Rows.{Row, view_after}
use Rattle.bd_law_disks.specs.Over.{contents_then, local_over}
use Rattle.bd_turns.specs.Local.{Local, local_after}

-- ---- how long a request is held at most

-- the most that a delay device holds a request of a direction: the average latency or the p99, whichever is greater; any other device holds none
abbrev pub most_of_kind : Kind → Way → ℕ
most_of_kind (kinds.Delay average_read p99_read average_write p99_write) Read = max average_read p99_read
most_of_kind (kinds.Delay average_read p99_read average_write p99_write) Write = max average_write p99_write
most_of_kind _ way = 0

abbrev pub most_of_row : Option DevRow → Way → ℕ
most_of_row None way = 0
most_of_row (Some row) way = most_of_kind row.kind way

abbrev pub most_at : Setup → Way → DevId → ℕ
most_at setup way dev = most_of_row (row_of setup dev) way

-- the most that all delay devices below a device hold a request of a direction; one that neither reads nor writes isn't held
abbrev pub most_latency : Setup → DevId → Option Way → ℕ
most_latency setup dev None = 0
most_latency setup dev (Some way) = sum_by (most_at setup way) (below setup dev)

-- when a request ends at the latest that is held from this moment on: after the most that the delay devices below its device hold such a request, and not beyond the greatest moment that there is
abbrev pub latest_end : Setup → ℕ → DevId → Op → ℕ
latest_end setup moment dev op = min (moment + most_latency setup dev (way_of op)) last_moment

-- ---- a hold

-- a request that is held: its device and operation as its thread saw them then, and until when
pub record Holding : Type 0 where
  pub dev : DevId
  pub op : Op
  pub until : ℕ

-- it ends in time, where it is held from this moment on or an earlier one
abbrev pub EndsInTime : Setup → ℕ → Holding → Type 0
EndsInTime setup moment h = h.until ≤ latest_end setup moment h.dev h.op

abbrev pub EndInTime : Setup → ℕ → List Holding → Type 0
EndInTime setup moment holdings = AllByRecursion (EndsInTime setup moment) holdings

abbrev pub held_if : ℕ → Option OpenRequest → List Holding
held_if until None = []
held_if until (Some r) = record { dev = r.dev; op = r.op; until = until } ∷ []

-- the request that an act says is held, if it is a Hold, as the thread saw it before
abbrev pub held_by : (Id → Option Kept) → Act → List Holding
held_by here (acts.Hold req until) = held_if until (as_request (here (ids.Request req)))
held_by here _ = []

-- ---- by the machine's states

-- that of an entry, where it is this thread's
abbrev pub held_at : ℕ → State → Entry → List Holding
held_at t s e = cond (e.thread == t) (held_by (view s t).here e.act) []

-- those that a thread holds by these entries, from a state on
abbrev pub held_from : Setup → ℕ → State → List Entry → List Holding
held_from setup t s [] = []
held_from setup t s (e ∷ es) = held_at t s e ++ held_from setup t (after setup s e) es

-- ---- by a thread's rows

-- those of a thread's rows, from what it saw on
abbrev pub held_on : Setup → Bool → ℕ → View → List Row → List Holding
held_on setup shut t v [] = []
held_on setup shut t v (r ∷ rs) = held_by v.here r.entry.act ++ held_on setup shut t (view_after setup shut t v r) rs

-- ---- by a thread's turns

-- those of entries by which a thread went on by the local rules
abbrev pub held_led : Setup → ℕ → Local → List Entry → List Holding
held_led setup t l [] = []
held_led setup t l (e ∷ es) = held_by l.view.here e.act ++ held_led setup t (local_after setup t l e) es

-- those of entries by which it went on over what its disks hold
abbrev pub held_over : Setup → ℕ → (DevId → Content) → Local → List Entry → List Holding
held_over setup t contents l [] = []
held_over setup t contents l (e ∷ es) = held_by l.view.here e.act ++ held_over setup t (contents_then setup contents l e) (local_over setup t contents l e) es

-- ---- by the entries of a history alone

-- it was accepted, and is held no longer than from this moment on the delay devices below the device that its Accept names hold such a request at most
abbrev pub EndsAsAccepted : Setup → ℕ → ℕ → Option Accepted → Type 0
EndsAsAccepted setup moment until None = ⊥
EndsAsAccepted setup moment until (Some a) = until ≤ latest_end setup moment a.dev a.op

-- a Hold is of a request that is among these that were accepted, and ends in time
abbrev pub IsHeldInTime : Setup → ℕ → (ReqId → Option Accepted) → Act → Type 0
IsHeldInTime setup moment requests (acts.Hold req until) = EndsAsAccepted setup moment until (requests req)
IsHeldInTime setup moment requests _ = Unit {0}

-- so it is with each Hold of these entries, where these requests were accepted before them
abbrev pub AreHeldInTime : Setup → ℕ → (ReqId → Option Accepted) → List Entry → Type 0
AreHeldInTime setup moment requests [] = Unit {0}
AreHeldInTime setup moment requests (e ∷ es) = IsHeldInTime setup moment requests e.act × AreHeldInTime setup moment (requests_by e.act requests) es
