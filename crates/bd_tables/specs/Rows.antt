-- What contracts see of the requests that a thread keeps.
use Rattle.std.specs.Prelude.{ℕ, Bool, true, false, not, ◌&&◌, ◌==◌, List, [], ◌∷◌, ◌++◌, if◌then◌else◌, find, filter, count_by, Option, Some, None}
use Rattle.std.specs.Option.{option_map}
use Rattle.std.specs.List.{list_any}
use Rattle.bd_base.specs.declared.id.DevId.{DevId}
use Rattle.bd_base.specs.declared.id.HandleId.{HandleId}
use Rattle.bd_base.specs.declared.id.ReqId.{ReqId}
use Rattle.bd_machine.specs.Admission.{has_range}
use Rattle.bd_machine.specs.Walks.{is_reset}
use Rattle.bd_msg.specs.declared.request.Request.{Request}
use Rattle.bd_tables.specs.declared.place.Place.{Place}
use Rattle.bd_tables.specs.declared.place.Place.TheVariants.{Fresh, Away, Pended, Retry, Out, Delayed, ResetQueue, Quality}
use Rattle.bd_tables.specs.declared.row.Row.{Row}
use Rattle.bd_tables.specs.Under.{is_under, set_of}

-- the rows in the order in which their requests came to their places, and how many more have room
pub record Rows : Type 0 where
  pub rows : List Row
  pub room : ℕ

abbrev pub same_place : Place → Place → Bool
same_place Fresh Fresh = true
same_place Away Away = true
same_place Pended Pended = true
same_place Retry Retry = true
same_place Out Out = true
same_place Delayed Delayed = true
same_place ResetQueue ResetQueue = true
same_place (Quality a) (Quality b) = a.0 == b.0
same_place _ _ = false

abbrev pub same_id : ReqId → ReqId → Bool
same_id a b = (a.thread == b.thread) && (a.seq == b.seq)

-- a row stands at a place
abbrev pub is_in : Place → Row → Bool
is_in place r = same_place r.place place

-- a row keeps the request of this id
abbrev pub keeps : ReqId → Row → Bool
keeps id r = same_id r.request.id id && not (is_in Away r)

-- a row remembers the request of this id, which was handed out
abbrev pub is_out : ReqId → Row → Bool
is_out id r = same_id r.request.id id && is_in Away r

-- the rows without the first that passes a test
abbrev pub without_first : {X : Type 0} → (X → Bool) → List X → List X
without_first p [] = []
without_first p (x ∷ xs) = if p x then xs else x ∷ without_first p xs

-- the request of this id, if a row keeps it
abbrev pub request_of : ReqId → List Row → Option Request
request_of id rows = option_map (λ r. r.request) (find (keeps id) rows)

-- some row keeps the request of this id
abbrev pub is_kept : ReqId → List Row → Bool
is_kept id rows = list_any (keeps id) rows

-- some row remembers the request of this id, which was handed out
abbrev pub is_remembered : ReqId → List Row → Bool
is_remembered id rows = list_any (is_out id) rows

-- a row comes to a place, as the last one there
abbrev pub joined : Place → List Row → Option Row → List Row
joined place rows None = rows
joined place rows (Some r) = rows ++ record r { place = place } ∷ []

-- the rows after the request of this id came to another place
abbrev pub moved : ReqId → Place → List Row → List Row
moved id place rows = joined place (without_first (keeps id) rows) (find (keeps id) rows)

-- the rows after a request came back to a place, or came there for the first time
abbrev pub parked : Request → Place → List DevId → List Row → List Row
parked request place under rows = without_first (is_out request.id) rows ++ record { request = request; place = place; under = set_of under } ∷ []

-- the request that came to a place first
abbrev pub first_at : Place → List Row → Option ReqId
first_at place rows = option_map (λ r. r.request.id) (find (is_in place) rows)

abbrev pub is_on : HandleId → Row → Bool
is_on handle r = r.request.handle.0 == handle.0

-- how many open requests a handle has, those that were handed out too
abbrev pub open_requests : HandleId → List Row → ℕ
open_requests handle rows = count_by (is_on handle) rows

-- ---- By device

-- the row's request stands over the device
abbrev pub stands_over : DevId → Row → Bool
stands_over dev r = is_under dev r.under

-- a request waits here at each place but these
abbrev pub waits_at : Place → Bool
waits_at Away = false
waits_at Out = false
waits_at ResetQueue = false
waits_at _ = true

-- it waits here for anything, and may be stopped: resets and aborts may not
abbrev pub is_waiting : Row → Bool
is_waiting r = has_range r.request.op && waits_at r.place

abbrev pub waits_over : DevId → Row → Bool
waits_over dev r = stands_over dev r && is_waiting r

-- a drain of the device waits for its request, wherever it is
abbrev pub holds_up : DevId → Row → Bool
holds_up dev r = stands_over dev r && not (is_reset r.request.op)

abbrev pub holds_up_of : DevId → ℕ → Row → Bool
holds_up_of dev thread r = holds_up dev r && (r.request.id.thread == thread)

-- the rows of the requests that stand over the device
abbrev pub under_of : DevId → List Row → List Row
under_of dev rows = filter (stands_over dev) rows

-- those of them that wait here
abbrev pub waits_under : DevId → List Row → List Row
waits_under dev rows = filter (waits_over dev) rows

-- those of a thread's that a drain of the device waits for
abbrev pub counted_under : DevId → ℕ → List Row → List Row
counted_under dev thread rows = filter (holds_up_of dev thread) rows

abbrev pub row_id : Row → ReqId
row_id r = r.request.id

-- the request of the first of these rows
abbrev pub first_id : List Row → Option ReqId
first_id [] = None
first_id (r ∷ rs) = Some (row_id r)
