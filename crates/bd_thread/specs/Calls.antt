-- What open requests ask of the registry: decisions of error devices, and what resets ask.
use Rattle.std.specs.Prelude.{◌≡◌, ℕ, ◌<◌, Bool, true, false, ◌||◌, ◌++◌, List, Option, Some, None, is_none, slice_get}
use Rattle.bd_base.specs.declared.event.RegEvent.{RegEvent}
use Rattle.bd_base.specs.declared.id.ReqId.{ReqId}
use Rattle.bd_machine.specs.declared.state.Open.{Open}
use Rattle.bd_machine.specs.Kept.{request_here}
use Rattle.bd_steps.specs.Resetting.{asking, reset_event}
use Rattle.bd_thread.specs.declared.links.Links.{Links}
use Rattle.bd_thread.specs.declared.thread.Thread.{Thread}
use Rattle.bd_thread.specs.Injections.{asks_decision, NoDecisionOf}
use Rattle.bd_thread.specs.Lines.{if_asked, may_ask_after, AsksBy}
use Rattle.bd_thread.specs.Seen.{view_of}

-- ---- what a reset asks

-- what the request asks next, where it is a reset and is here
abbrev pub event_due : Thread → Links → ReqId → Option RegEvent
event_due t links req = reset_event t.part req (request_here (view_of t links) req)

-- the same, where the thread may ask it
abbrev pub reset_asked : Thread → Links → ReqId → Option RegEvent
reset_asked t links req = if_asked t links (event_due t links req)

abbrev pub may_ask_freely : Thread → Links → Option RegEvent → Bool
may_ask_freely t links None = false
may_ask_freely t links (Some event) = may_ask_after t links None event

-- the request is a reset that may ask the registry, where nothing has to follow there
abbrev pub asks_reset : Thread → Links → ReqId → Bool
asks_reset t links req = may_ask_freely t links (event_due t links req)

-- where a reset may ask, it does, and the registry answered; else nothing changes
abbrev pub AsksReset : ReqId → Thread → Links → Thread → Links → Bool → Type 0
AsksReset req old before new after asked = AsksBy old before new after asked (reset_asked old before req)

-- of this reset nothing can be asked
abbrev pub NoResetOf : ReqId → Thread → Links → Type 0
NoResetOf req t links = reset_asked t links req ≡ None

-- those of the thread's resets that ask the registry for something next are noted, and nothing else changed
pub record NotesResets (old new : Thread) : Type 0 where
  pub thread : new ≡ record old { calls = new.calls }
  pub calls : new.calls.items ≡ old.calls.items ++ asking old.part.resets

-- ---- what open requests ask

-- of this one nothing can be asked
pub record NoCallOf (req : ReqId) (t : Thread) (links : Links) : Type 0 where
  pub decision : NoDecisionOf req t links
  pub reset : NoResetOf req t links

-- it waits for the decision of an error device, or is a reset that asks the registry
abbrev pub asks_next : Thread → Links → ReqId → Bool
asks_next t links req = asks_decision t links req || asks_reset t links req

-- none of the first n of these requests does
abbrev pub NoneAsksAmong : List ReqId → ℕ → Thread → Links → Type 0
NoneAsksAmong reqs n t links = (i : ℕ) (req : ReqId) → i < n → slice_get reqs i ≡ Some req → asks_next t links req ≡ false

-- none of these does
abbrev pub NoneAsksNamed : List ReqId → Thread → Links → Type 0
NoneAsksNamed reqs t links = (i : ℕ) (req : ReqId) → slice_get reqs i ≡ Some req → asks_next t links req ≡ false

-- no open request does
abbrev pub NoneAsks : Thread → Links → Type 0
NoneAsks t links = (i : ℕ) (o : Open) → slice_get t.part.requests i ≡ Some o → asks_next t links o.id ≡ false

-- where nothing has to follow at the registry, none does
abbrev pub NoCall : Thread → Links → Type 0
NoCall t links = is_none links.registry.state.between ≡ true → NoneAsks t links

-- the first that was found, or else this one, where it asks
abbrev pub next_found : Bool → ReqId → Option ReqId → Option ReqId
next_found asks req (Some x) = Some x
next_found true req None = Some req
next_found false req None = None

-- it is found: one of the first n of these requests that asks, if there is one
abbrev pub FindsAmong : List ReqId → ℕ → Option ReqId → Thread → Links → Type 0
FindsAmong reqs n None t links = NoneAsksAmong reqs n t links
FindsAmong reqs n (Some req) t links = asks_next t links req ≡ true

-- one of these that asks, if there is one
abbrev pub FindsNamed : List ReqId → Option ReqId → Thread → Links → Type 0
FindsNamed reqs None t links = NoneAsksNamed reqs t links
FindsNamed reqs (Some req) t links = asks_next t links req ≡ true

-- an open request that asks, if there is one
abbrev pub Finds : Option ReqId → Thread → Links → Type 0
Finds None t links = NoneAsks t links
Finds (Some req) t links = asks_next t links req ≡ true

-- where there is such a request, nothing can be asked of it
abbrev pub StandsAsked : Option ReqId → Thread → Links → Type 0
StandsAsked None t links = Unit {0}
StandsAsked (Some req) t links = NoCallOf req t links
