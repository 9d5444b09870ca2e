-- When a thread has nothing under way.
use Rattle.std.specs.Prelude.{ℕ, ◌-◌, ◌%◌, ◌≡◌, Bool, true, false, cond, ◌&&◌, ◌||◌, ◌==◌, ◌^◌, nat_lt, not, List, length, Option, Some, None, is_none}
use Rattle.std.specs.List.{list_all, list_any, range_with_len, AllByRecursion}
use Rattle.bd_base.specs.declared.act.Act.TheVariants as acts
use Rattle.bd_base.specs.declared.id.HandleId.{HandleId}
use Rattle.bd_base.specs.declared.id.ReqId.{ReqId}
use Rattle.bd_held.specs.Holds.{has_hold, HoldKey}
use Rattle.bd_machine.specs.declared.state.Hold.{Hold}
use Rattle.bd_machine.specs.declared.state.Hold.TheVariants as holds
use Rattle.bd_machine.specs.declared.state.Id.TheVariants as ids
use Rattle.bd_machine.specs.declared.state.Limited.{Limited}
use Rattle.bd_machine.specs.declared.state.Open.{Open}
use Rattle.bd_machine.specs.declared.state.OpenRequest.{OpenRequest}
use Rattle.bd_machine.specs.Kept.{as_request, is_at_own}
use Rattle.bd_machine.specs.Asked.{is_script_blocked}
use Rattle.bd_machine.specs.Marks.{is_marked}
use Rattle.bd_machine.specs.Walks.{is_reset}
use Rattle.bd_turns.specs.declared.queue.Message.{Message}
use Rattle.bd_steps.specs.Resetting.{reset_event}
use Rattle.bd_steps.specs.Resting.{is_done_with}
use Rattle.bd_steps.specs.Resting.{is_settled as settles}
use Rattle.bd_links.specs.Entries.{longer}
use Rattle.bd_retries.specs.Channels.{is_idle}
use Rattle.bd_tokens.specs.Pended.{are_own_pended}
use Rattle.bd_tokens.specs.Tokens.{here_in}
use Rattle.bd_touched.specs.Rests.{rests as may_wait}
use Rattle.bd_thread.specs.declared.links.Links.{Links}
use Rattle.bd_thread.specs.declared.thread.Thread.{Thread}
use Rattle.bd_thread.specs.Looking.{sight, KeepsOwn}
use Rattle.bd_thread.specs.Seen.{view_of}

-- the handle is a base handle, or isn't open on this thread
abbrev pub is_settled : Thread → Links → HandleId → Bool
is_settled t links id = settles t.setup.now (view_of t links) id

-- nothing is still to be sent, put or done, its last entry asks for none directly after it, of tokens there are only its own requests that are pended, and each handle whose remove event it took is closed, but for base handles
abbrev pub rests : Thread → Links → Bool
rests t links =
    (length t.outbox.items == 0) && (length t.part.due == 0) && (length t.part.owed == 0) && is_none t.part.prior && are_own_pended t.setup.now t.part t.me t.held.items && list_all (is_settled t links) t.part.gone

-- no token is on the thread, nothing is still to be put or done, and its last entry asks for none directly after it
abbrev pub is_done : Thread → Bool
is_done t = (length t.held.items == 0) && (length t.part.due == 0) && (length t.part.owed == 0) && is_none t.part.prior

abbrev pub is_own : Thread → ReqId → Option OpenRequest → Bool
is_own t req None = false
is_own t req (Some r) = is_at_own t.me req r

-- it is a reset that asks the registry for nothing: a walk of it is under way, or it waits for the resets before it
abbrev pub is_under_way : Thread → ReqId → Option OpenRequest → Bool
is_under_way t req None = false
is_under_way t req (Some r) = is_reset r.op && is_none (reset_event t.part req (Some r))

-- it is kept without an answer, wasn't aborted, and no mark stops it here: a soft one may yet
abbrev pub is_kept : Thread → Option OpenRequest → Bool
is_kept t None = false
is_kept t (Some r) = r.pended && is_none r.aborted && not (is_marked t.setup.now t.part r)

-- the open request is here on its own thread, isn't kept so, and is no reset that is under way
abbrev pub is_moving : Thread → ReqId → Bool
is_moving t req =
    is_own t req (as_request (here_in t.held.items (ids.Request req))) && not (is_kept t (as_request (here_in t.held.items (ids.Request req)))) && not (is_under_way t req (as_request (here_in t.held.items (ids.Request req))))

-- it is held, and its hold is one of these
abbrev pub is_among : List HoldKey → ReqId → Hold → Bool
is_among keys req (holds.Until moment marked) = has_hold keys req moment
is_among keys req _ = false

abbrev pub is_held : Thread → ReqId → Option OpenRequest → Bool
is_held t req None = false
is_held t req (Some r) = is_among t.holds req r.hold

-- it is moving, and the thread doesn't hold it
abbrev pub goes_on : Thread → ReqId → Bool
goes_on t req = is_moving t req && not (is_held t req (as_request (here_in t.held.items (ids.Request req))))

-- no request is open, or no token is on the thread
abbrev pub is_bare : Thread → Bool
is_bare t = (length t.part.requests == 0) || (length t.held.items == 0)

-- of the open requests that the thread has to look at, one goes on: of all, or of those that are named
abbrev pub has_going : Thread → Bool
has_going t = cond t.touched.all (list_any (λ (o : Open). goes_on t o.id) t.part.requests) (list_any (goes_on t) t.touched.reqs)

-- nothing is still to be put or done, no piece is in flight or waits to be sent again, and of the open requests that it has to look at each is held, pended, away at the home of a limited device, or a reset under way; all others rest (`EachRests`)
abbrev pub rests_but_for_time : Thread → Links → Bool
rests_but_for_time t links =
    (length t.outbox.items == 0) && (length t.part.due == 0) && (length t.part.owed == 0) && is_none t.part.prior && list_all is_idle t.retries && (is_bare t || not (has_going t)) && list_all (is_settled t links) t.part.gone

-- it can do nothing until an act reaches it or its hold ends, or it doesn't go on
abbrev pub is_at_rest : Thread → Open → Bool
is_at_rest t o = may_wait t.setup.now t.me (sight t) t.touched.holds o || not (goes_on t o.id)

-- where a thread that looks at each request which doesn't rest has nothing under way but for time, each of its open requests is at rest
abbrev pub EachRests : Type 0
EachRests = (t : Thread) (links : Links) → KeepsOwn t → rests_but_for_time t links ≡ true → AllByRecursion (λ (o : Open). is_at_rest t o ≡ true) t.part.requests

-- ---- the lines of limited devices

abbrev pub is_line_empty : Limited → Bool
is_line_empty l = length l.waiting == 0

-- how long the timeslice lasts from the turn's moment on, where a request waits in a line here
abbrev pub limited_for : Thread → Option ℕ
limited_for t = cond (list_all is_line_empty t.part.limited) None (Some (1000 - (t.time.moment - t.time.start) % 1000))

-- its script is at its end, or the next line waits
abbrev pub is_blocked : Thread → Links → Bool
is_blocked t links = is_script_blocked t.setup.now t.me (view_of t links)

-- the thread destructed each device whose home it is
abbrev pub has_destructed_all : Thread → Bool
has_destructed_all t = nat_lt (length t.setup.now.devices) (2 ^ 32) && list_all (is_done_with t.setup.now t.me t.part.destructed) (range_with_len 0 (length t.setup.now.devices))

abbrev pub is_empty : List Message → Bool
is_empty messages = length messages == 0

-- no message is on its way
abbrev pub are_empty : List (List Message) → Bool
are_empty queues = list_all is_empty queues

-- the Shutdown came, and the entry of thread 0 says so
abbrev pub shut_down : Links → Links
shut_down links = record links { entries = longer 0 links.entries acts.Shutdown; shut = true }
