-- Which request may be aborted, what an abort stops, and what a completion leaves of it: pieces of the request that are still to be put.
use Rattle.std.specs.Prelude.{ℕ, ◌-◌, Bool, false, cond, not, ◌&&◌, List, [], ◌∷◌, ◌++◌, filter, length, map, Option, Some, None, is_none}
use Rattle.bd_base.specs.declared.act.Token.{Token}
use Rattle.bd_base.specs.declared.act.Token.TheVariants as tokens
use Rattle.bd_base.specs.declared.id.DevId.{DevId}
use Rattle.bd_base.specs.declared.id.ReqId.{ReqId}
use Rattle.bd_base.specs.declared.request.AbortCause.{AbortCause}
use Rattle.bd_base.specs.declared.request.Status.{Status}
use Rattle.bd_base.specs.declared.setup.Setup.{Setup}
use Rattle.bd_machine.specs.declared.state.Id.{Id}
use Rattle.bd_machine.specs.declared.state.Id.TheVariants as ids
use Rattle.bd_machine.specs.declared.state.Kept.{Kept}
use Rattle.bd_machine.specs.declared.state.OpenRequest.{OpenRequest}
use Rattle.bd_machine.specs.declared.state.Limited.{Limited}
use Rattle.bd_machine.specs.declared.state.Open.{Open}
use Rattle.bd_machine.specs.declared.state.Part.{Part}
use Rattle.bd_machine.specs.declared.state.Trip.{Trip}
use Rattle.bd_machine.specs.declared.state.Trip.TheVariants as trips
use Rattle.bd_machine.specs.Aborts.{guards_abort}
use Rattle.bd_machine.specs.BlockMap.{base_of}
use Rattle.bd_machine.specs.Completion.{is_success, waits_unsent}
use Rattle.bd_machine.specs.Kept.{as_piece, as_request, request_here}
use Rattle.bd_machine.specs.Same.{same_request}
use Rattle.bd_machine.specs.Step.{first_failing}
use Rattle.bd_machine.specs.View.{View}
use Rattle.bd_machine.specs.Walks.{is_kept_waiting}
use Rattle.bd_retries.specs.Channels.{Channel, changed_if_any, dropped}

-- the rules let the thread abort the request for this cause
abbrev pub may_stop : Setup → ℕ → View → ReqId → AbortCause → Bool
may_stop setup me v req cause = is_none (first_failing (guards_abort setup me v req cause))

-- the request, where it is here and may be aborted
abbrev pub abortable : Setup → ℕ → View → ReqId → AbortCause → Option OpenRequest
abortable setup me v req cause = cond (may_stop setup me v req cause) (request_here v req) None

-- it is a piece of this request that is here, without an end and not out
abbrev pub is_unsent : ReqId → (Id → Option Kept) → Token → Bool
is_unsent req here (tokens.Piece of k) = same_request of req && waits_unsent (as_piece (here (ids.Piece of k)))
is_unsent req here _ = false

-- what is still to be put, without the request's pieces that wait unsent
abbrev pub without_unsent : ReqId → (Id → Option Kept) → List (ℕ × Token) → List (ℕ × Token)
without_unsent req here outbox = filter (λ x. not (is_unsent req here x.1)) outbox

-- it is this request itself
abbrev pub is_request : ReqId → Token → Bool
is_request req (tokens.Request of) = same_request of req
is_request req _ = false

-- what is still to be put once the request is aborted: from its own thread it no longer goes to a limited device's home, and from where it waits there it goes back, after all else
abbrev pub turned_back : ReqId → Trip → List (ℕ × Token) → List (ℕ × Token)
turned_back req trips.Own outbox = filter (λ x. not (is_request req x.1)) outbox
turned_back req trips.Out outbox = outbox ++ (req.thread, tokens.Request req) ∷ []
turned_back req trips.Passed outbox = outbox

-- what is still to be put once the request completed with this status: where it succeeded none of its pieces waited, else those that did are no longer to be put
abbrev pub left_by : ReqId → Status → (Id → Option Kept) → List (ℕ × Token) → List (ℕ × Token)
left_by req status here outbox = cond (is_success status) outbox (without_unsent req here outbox)

-- ---- the channel of the request's base device

-- the base device under a request's device
abbrev pub base_under : Setup → Option OpenRequest → Option DevId
base_under setup None = None
base_under setup (Some r) = Some (base_of setup r.dev)

-- n pieces that were never sent are no longer in flight to this base device, and no piece of the request waits to be sent again
abbrev pub channels_at : Option DevId → ReqId → ℕ → List Channel → List Channel
channels_at None req n channels = channels
channels_at (Some base) req n channels = changed_if_any base (dropped req n) channels

-- the request's pieces that wait unsent are neither in flight nor to be sent again
abbrev pub channels_without : Setup → ReqId → (Id → Option Kept) → List (ℕ × Token) → List Channel → List Channel
channels_without setup req here outbox channels = channels_at (base_under setup (as_request (here (ids.Request req)))) req (length outbox - length (without_unsent req here outbox)) channels

-- the same once the request completed with this status, but for success
abbrev pub channels_left : Setup → ReqId → Status → (Id → Option Kept) → List (ℕ × Token) → List Channel → List Channel
channels_left setup req status here outbox channels = cond (is_success status) channels (channels_without setup req here outbox channels)

-- ---- what a mark may stop here

-- the requests that wait in these lines, one line after another
abbrev pub in_lines : List Limited → List ReqId
in_lines [] = []
in_lines (l ∷ ls) = l.waiting ++ in_lines ls

-- the ids of the open requests that have the device below and are no resets, in order of acceptance
abbrev pub open_over : Setup → DevId → List Open → List ReqId
open_over setup dev requests = map (λ (o : Open). o.id) (filter (is_kept_waiting setup dev) requests)

-- the thread's own open requests that have the device below and are no resets, and then those that wait at its limited devices
abbrev pub stoppable : Setup → DevId → Part → List ReqId
stoppable setup dev part = open_over setup dev part.requests ++ in_lines part.limited
