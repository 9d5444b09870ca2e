-- What an open request that is here may do next, by the machine's rules, with the cause, the status or the device that goes with it.
use Rattle.std.specs.Prelude.{ℕ, Bool, cond, ◌&&◌, [], ◌∷◌, find, Option, Some, None, is_none, option_map, slice_get}
use Rattle.bd_base.specs.declared.id.DevId.{DevId}
use Rattle.bd_base.specs.declared.id.ReqId.{ReqId}
use Rattle.bd_base.specs.declared.request.AbortCause.{AbortCause}
use Rattle.bd_base.specs.declared.request.AbortCause.TheVariants.{Frozen, Removed}
use Rattle.bd_base.specs.declared.request.Status.{Status}
use Rattle.bd_base.specs.declared.request.Status.TheVariants.{Success, Failed, Aborted}
use Rattle.bd_base.specs.declared.setup.Setup.{Setup}
use Rattle.bd_machine.specs.declared.state.OpenRequest.{OpenRequest}
use Rattle.bd_machine.specs.declared.state.Part.{Part}
use Rattle.bd_machine.specs.Aborts.{is_cause_if_any, may_abort}
use Rattle.bd_machine.specs.BlockMap.{below, home}
use Rattle.bd_machine.specs.Delays.{last_moment, may_hold}
use Rattle.bd_machine.specs.Injections.{asks_injection, errors_below}
use Rattle.bd_machine.specs.Kept.{is_own_trip}
use Rattle.bd_machine.specs.Limits.{next_limited}
use Rattle.bd_machine.specs.Marks.{is_removed, stops_here}
use Rattle.bd_machine.specs.Messages.{may_request_here_go}
use Rattle.bd_machine.specs.Requests.{is_status_due, may_complete}
use Rattle.bd_machine.specs.View.{View}

-- what there is, where it passes the test
abbrev pub where_holds : {X : Type 0} → (X → Bool) → Option X → Option X
where_holds is None = None
where_holds is (Some x) = cond (is x) (Some x) None

-- ---- an abort by a mark

-- the mark of a device as the cause of an abort; that of a removal where both stand
abbrev pub cause_at : Part → DevId → AbortCause
cause_at part dev = cond (is_removed part dev) (Removed dev) (Frozen dev)

-- the cause that the first device gives whose mark stops the request, from the top down
abbrev pub mark_below : Setup → Part → OpenRequest → Option AbortCause
mark_below setup part r = option_map (cause_at part) (find (stops_here part r.late) (below setup r.dev))

-- the rules let the request be aborted for this cause
abbrev pub may_stop : Setup → ℕ → View → ReqId → Option OpenRequest → AbortCause → Bool
may_stop setup t v req here cause = may_abort v req here && is_cause_if_any setup t v req cause here

-- the mark by which a request that isn't cut is aborted
abbrev pub abort_due : Setup → ℕ → View → ReqId → OpenRequest → Option AbortCause
abort_due setup t v req r = cond (is_none r.pieces) (where_holds (may_stop setup t v req (Some r)) (mark_below setup v.part r)) None

-- ---- its completion

-- the rules let the request complete with this status
abbrev pub may_end : Setup → ℕ → View → ReqId → Option OpenRequest → Status → Bool
may_end setup t v req here status = may_complete t v req here && is_status_due setup v req status here

-- the status with which it completes
abbrev pub end_due : Setup → ℕ → View → ReqId → OpenRequest → Option Status
end_due setup t v req r = find (may_end setup t v req (Some r)) (Failed ∷ Aborted ∷ Success ∷ [])

-- ---- a hold

-- the rules let it be held, until a moment that is late enough
abbrev pub may_be_held : Setup → ℕ → View → ReqId → Option OpenRequest → Bool
may_be_held setup t v req here = may_hold setup t v req last_moment here

-- ---- limits and decisions

-- the rules let it go from its own thread to the home of this device
abbrev pub may_go_to : Setup → ℕ → ReqId → OpenRequest → DevId → Bool
may_go_to setup t req r dev = is_own_trip r.trip && may_request_here_go setup t req (Some r) (home setup dev)

-- the next device whose limits count it, where it may go there
abbrev pub limit_due : Setup → ℕ → ReqId → OpenRequest → Option DevId
limit_due setup t req r = where_holds (may_go_to setup t req r) (next_limited setup r)

-- the rules let it ask this error device for a decision
abbrev pub may_ask : Setup → ℕ → View → ReqId → OpenRequest → DevId → Bool
may_ask setup t v req r dev = asks_injection setup t v dev req r.op (Some r)

-- the next error device, where it may ask that
abbrev pub decision_due : Setup → ℕ → View → ReqId → OpenRequest → Option DevId
decision_due setup t v req r = where_holds (may_ask setup t v req r) (slice_get (errors_below setup r.dev) r.injected.count)
