-- What a thread does for the requests that wait here for its limited devices, and what that leaves; and when a request goes to such a device's home.
use Rattle.std.specs.Prelude.{◌≡◌, ℕ, ◌-◌, ◌<◌, Bool, true, false, cond, ◌&&◌, ◌==◌, List, [], ◌∷◌, ◌++◌, length, Option, Some, None, is_none, slice_get}
use Rattle.bd_base.specs.declared.act.Act.TheVariants as acts
use Rattle.bd_base.specs.declared.act.Token.{Token}
use Rattle.bd_base.specs.declared.act.Token.TheVariants as tokens
use Rattle.bd_base.specs.declared.id.DevId.{DevId}
use Rattle.bd_base.specs.declared.id.ReqId.{ReqId}
use Rattle.bd_base.specs.declared.request.AbortCause.{AbortCause}
use Rattle.bd_base.specs.declared.setup.Setup.{Setup}
use Rattle.bd_flight.specs.declared.next.Step.{Step}
use Rattle.bd_flight.specs.declared.next.Step.TheVariants as steps
use Rattle.bd_flight.specs.Next.{next_step}
use Rattle.bd_machine.specs.declared.state.Id.TheVariants as ids
use Rattle.bd_machine.specs.declared.state.Kept.TheVariants as keeps
use Rattle.bd_machine.specs.declared.state.Limited.{Limited}
use Rattle.bd_machine.specs.declared.state.OpenRequest.{OpenRequest}
use Rattle.bd_machine.specs.declared.state.Part.{Part}
use Rattle.bd_machine.specs.BlockMap.{home}
use Rattle.bd_machine.specs.Budget.{slices_passed}
use Rattle.bd_machine.specs.Kept.{request_here}
use Rattle.bd_machine.specs.Limits.{bytes_if_any, charged_by_way, guards_let, guards_tick, is_limit, left_by, limited_here, passed, seen, ticked, waiting_for, way_if_any}
use Rattle.bd_machine.specs.Step.{first_failing}
use Rattle.bd_machine.specs.Table.{change_first}
use Rattle.bd_links.specs.Entries.{longer}
use Rattle.bd_tokens.specs.Tokens.{Sets}
use Rattle.bd_thread.specs.declared.links.Links.{Links}
use Rattle.bd_thread.specs.declared.thread.Thread.{Thread}
use Rattle.bd_thread.specs.Seen.{untaken, view_of}
use Rattle.bd_thread.specs.Sent.{may_send}

-- ---- the first in a line, which a mark aborts

abbrev pub head_of : List ReqId → Option ReqId
head_of [] = None
head_of (req ∷ waiting) = Some req

abbrev pub stop_by : ReqId → Step → Option (ReqId × AbortCause)
stop_by req (steps.Abort cause) = Some (req, cause)
stop_by req _ = None

abbrev pub head_stop_of : Thread → Links → Option ReqId → Option (ReqId × AbortCause)
head_stop_of t links None = None
head_stop_of t links (Some req) = stop_by req (next_step t.setup.now t.me (view_of t links) req)

-- the first in the device's line, where a mark here aborts it, and that mark
abbrev pub head_stop : Thread → Links → DevId → Option (ReqId × AbortCause)
head_stop t links dev = head_stop_of t links (head_of (waiting_for t.part dev))

-- ---- timeslices

-- those that passed by the turn's moment since the first turn, beside those that were told before
abbrev pub slices_now : Thread → Limited → ℕ
slices_now t l = slices_passed t.time.start t.time.moment - l.slices

-- the rules let them be told at the turn's moment
abbrev pub may_tick : Thread → Links → DevId → ℕ → Bool
may_tick t links dev slices = is_none (first_failing (guards_tick t.setup.now t.me (view_of t links) dev t.time.moment slices))

abbrev pub tick_due_of : Thread → Links → DevId → Option Limited → Option ℕ
tick_due_of t links dev None = None
tick_due_of t links dev (Some l) = cond (may_tick t links dev (slices_now t l)) (Some (slices_now t l)) None

-- how many are to be told of the device: some passed, and a request waits
abbrev pub tick_due : Thread → Links → DevId → Option ℕ
tick_due t links dev = tick_due_of t links dev (limited_here t.part dev)

-- the part where they brought their quotas
abbrev pub ticked_part : Thread → DevId → ℕ → Part
ticked_part t dev slices = untaken (record t.part { limited = change_first (is_limit dev) (ticked t.setup.now t.part.moments t.time.moment slices) t.part.limited; moments = seen t.time.moment t.part.moments })

-- one Tick, which names the turn's moment
pub record IsTicked (dev : DevId) (slices : ℕ) (old : Thread) (before : Links) (new : Thread) (after : Links) : Type 0 where
  pub thread : new ≡ record old { part = ticked_part old dev slices }
  pub links : after ≡ record before { entries = longer old.me before.entries (acts.Tick dev old.time.moment slices) }

abbrev pub TicksBy : DevId → Thread → Links → Thread → Links → Bool → Option ℕ → Type 0
TicksBy dev old before new after done None = (done ≡ false) × (new ≡ old) × (after ≡ before)
TicksBy dev old before new after done (Some slices) = (done ≡ true) × IsTicked dev slices old before new after

-- where timeslices are to be told, they are; else nothing changes
abbrev pub Ticks : DevId → Thread → Links → Thread → Links → Bool → Type 0
Ticks dev old before new after done = TicksBy dev old before new after done (tick_due old before dev)

-- ---- a request that passes

-- the rules let the request pass the device's limits at the turn's moment
abbrev pub may_let : Thread → Links → ReqId → DevId → Bool
may_let t links req dev = is_none (first_failing (guards_let t.setup.now t.me (view_of t links) req dev t.time.moment))

abbrev pub with_id : ReqId → Option OpenRequest → Option (ReqId × OpenRequest)
with_id req None = None
with_id req (Some r) = Some (req, r)

abbrev pub let_due_of : Thread → Links → DevId → Option ReqId → Option (ReqId × OpenRequest)
let_due_of t links dev None = None
let_due_of t links dev (Some req) = cond (may_let t links req dev) (with_id req (request_here (view_of t links) req)) None

-- the first in the device's line, where it may pass
abbrev pub let_due : Thread → Links → DevId → Option (ReqId × OpenRequest)
let_due t links dev = let_due_of t links dev (head_of (waiting_for t.part dev))

-- the part where it is charged to each limit that counts it, and waits no longer
abbrev pub let_part : Thread → DevId → ReqId → OpenRequest → Part
let_part t dev req r = untaken (record t.part { limited = change_first (is_limit dev) (λ l. left_by req (charged_by_way t.setup.now dev (bytes_if_any t.setup.now (Some r)) (way_if_any (Some r)) l)) t.part.limited; moments = seen t.time.moment t.part.moments })

-- one Let, which names the turn's moment: the request has one Let more, and is to be put back to its own thread, after all else
pub record IsLet (dev : DevId) (req : ReqId) (r : OpenRequest) (old : Thread) (before : Links) (new : Thread) (after : Links) : Type 0 where
  pub thread : new ≡ record old { part = let_part old dev req r; held = new.held; outbox = new.outbox }
  pub held : Sets old.held.items new.held.items (ids.Request req) (Some (keeps.Request (passed r)))
  pub outbox : new.outbox.items ≡ old.outbox.items ++ (req.thread, tokens.Request req) ∷ []
  pub links : after ≡ record before { entries = longer old.me before.entries (acts.Let req dev old.time.moment) }

abbrev pub LetsBy : DevId → Thread → Links → Thread → Links → Bool → Option (ReqId × OpenRequest) → Type 0
LetsBy dev old before new after done None = (done ≡ false) × (new ≡ old) × (after ≡ before)
LetsBy dev old before new after done (Some due) = (done ≡ true) × IsLet dev due.0 due.1 old before new after

-- where the first in line may pass, it does; else nothing changes
abbrev pub Lets : DevId → Thread → Links → Thread → Links → Bool → Type 0
Lets dev old before new after done = LetsBy dev old before new after done (let_due old before dev)

-- ---- what a thread waits for with its lines

-- no mark here aborts the first in the device's line
abbrev pub NoMarkedHead : DevId → Thread → Links → Type 0
NoMarkedHead dev t links = head_stop t links dev ≡ None

-- nor are timeslices to be told, nor may it pass
pub record NoLimitOn (dev : DevId) (t : Thread) (links : Links) : Type 0 where
  pub head : NoMarkedHead dev t links
  pub tick : tick_due t links dev ≡ None
  pub pass : let_due t links dev ≡ None

abbrev pub line_on : Option Limited → Option DevId
line_on None = None
line_on (Some l) = cond (length l.waiting == 0) None (Some l.dev)

-- the thread's limited device at this place, if a request waits in its line
abbrev pub line_at : ℕ → Thread → Option DevId
line_at place t = line_on (slice_get t.part.limited place)

-- the same of that device
abbrev pub NoLimitAt : ℕ → Thread → Links → Type 0
NoLimitAt place t links = (dev : DevId) → line_at place t ≡ Some dev → NoLimitOn dev t links

-- and of the first n limited devices of the thread
abbrev pub NoLimitBelow : ℕ → Thread → Links → Type 0
NoLimitBelow n t links = (place : ℕ) → place < n → NoLimitAt place t links

-- and of all
abbrev pub NoLimit : Thread → Links → Type 0
NoLimit t links = (i : ℕ) (l : Limited) → slice_get t.part.limited i ≡ Some l → NoLimitOn l.dev t links

-- ---- a request that goes to a limited device's home

-- where a request goes whose next step this is: to the home of the device whose limits count it
abbrev pub way_by : Setup → ReqId → Step → List (ℕ × Token)
way_by setup req (steps.Limit dev) = (home setup dev, tokens.Request req) ∷ []
way_by setup req _ = []

-- something else is still to be put, or it may not go there, or there is no room
abbrev pub NoWayOut : ReqId → Step → Thread → Links → Type 0
NoWayOut req step t links = (length t.outbox.items == 0) && may_send t links (way_by t.setup.now req step) ≡ false
