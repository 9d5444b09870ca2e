-- What open requests ask of the registry, and what can't be asked.
use Rattle.std.proofs.Common.{◌≡◌, Bool, true, false, cond, ◌||◌, Option, Some, None, is_none, IfSome, refl, subst}
use Rattle.std.proofs.lemmas.Option.{same_Some}
use Rattle.bd_base.specs.declared.event.RegEvent.{RegEvent}
use Rattle.bd_base.specs.declared.id.DevId.{DevId}
use Rattle.bd_base.specs.declared.id.ReqId.{ReqId}
use Rattle.bd_machine.specs.declared.state.Between.{Between}
use Rattle.bd_machine.specs.declared.state.OpenRequest.{OpenRequest}
use Rattle.bd_machine.specs.declared.state.Part.{Part}
use Rattle.bd_machine.specs.declared.state.Resetting.{Resetting}
use Rattle.bd_machine.specs.declared.state.Stage.{Stage}
use Rattle.bd_machine.specs.declared.state.Stage.TheVariants as stages
use Rattle.bd_machine.specs.Kept.{request_here}
use Rattle.bd_machine.specs.Walks.{is_reset, reset_of}
use Rattle.bd_steps.specs.Resetting.{event_at, event_of, is_asked_alone, reset_event}
use Rattle.bd_thread.specs.declared.links.Links.{Links}
use Rattle.bd_thread.specs.declared.thread.Thread.{Thread}
use Rattle.bd_thread.specs.Calls.{asks_next, asks_reset, event_due, may_ask_freely, reset_asked, AsksReset, Finds, NoCall, NoCallOf, NoResetOf, StandsAsked}
use Rattle.bd_thread.specs.Injections.{asks_decision}
use Rattle.bd_thread.specs.Lines.{if_asked, may_ask, may_ask_after}
use Rattle.bd_thread.specs.Seen.{view_of}
use Rattle.bd_thread.specs.Waits.{Idles}
use Rattle.bd_thread.proofs.Idle.{asks_idle}
use Rattle.bd_thread.proofs.Injecting.{decision_free}

-- where nothing has to follow at the registry, what asks it next can be asked
pub call_free : (req : ReqId) (t : Thread) (links : Links) → is_none links.registry.state.between ≡ true → asks_next t links req ≡ true → NoCallOf req t links → ⊥
call_free req t links free asks none = go (asks_decision t links req) refl asks
  where
    by : (event : RegEvent) (b : Bool) → b ≡ true → cond b (Some event) None ≡ None → ⊥
    by event true may h = cc
    by event false may h = cc

    none_of : (event : RegEvent) (between : Option Between) → is_none between ≡ true → may_ask_after t links None event ≡ true → cond (may_ask_after t links between event) (Some event) None ≡ None → ⊥
    none_of event None free may h = by event (may_ask_after t links None event) may h
    none_of event (Some x) free may h = cc

    of_reset : (event : Option RegEvent) → may_ask_freely t links event ≡ true → if_asked t links event ≡ None → ⊥
    of_reset None may h = cc
    of_reset (Some event) may h = none_of event links.registry.state.between free may h

    go : (b : Bool) → asks_decision t links req ≡ b → b || asks_reset t links req ≡ true → ⊥
    go true is h = decision_free req t links free is none.decision
    go false is h = of_reset (event_due t links req) h none.reset

-- what was found and can't be asked
pub stands_uncalled : (found : Option ReqId) (t : Thread) (links : Links) → Finds found t links → StandsAsked found t links → NoCall t links
stands_uncalled None t links finds stands = λ free. finds
stands_uncalled (Some req) t links finds stands = λ free. absurd (call_free req t links free finds stands)

pub resets_idle : (req : ReqId) (old : Thread) (before : Links) (new : Thread) (after : Links) (asked : Bool) → AsksReset req old before new after asked → Idles (NoResetOf req) old before new after
resets_idle req old before new after asked h = asks_idle old before new after asked (reset_asked old before req) (λ e. e) h

-- what a reset asks is asked alone
event_alone : (part : Part) (req : ReqId) (here : Option OpenRequest) → IfSome (reset_event part req here) (λ event. is_asked_alone event ≡ true)
event_alone part req None = tt
event_alone part req (Some r) = go (is_reset r.op) (reset_of part req)
  where
    at : (dev : DevId) (stage : Stage) → IfSome (event_at dev stage) (λ event. is_asked_alone event ≡ true)
    at dev stages.Queued = tt
    at dev stages.Freezing = tt
    at dev stages.Draining = tt
    at dev stages.Drained = refl
    at dev stages.Thawing = tt
    at dev stages.Thawed = refl
    at dev stages.Finished = tt

    go : (b : Bool) (o : Option Resetting) → IfSome (cond b (event_of r.dev req o) None) (λ event. is_asked_alone event ≡ true)
    go false o = tt
    go true None = refl
    go true (Some reset) = at reset.dev reset.stage

-- where a reset asks this, it may
pub reset_may : (t : Thread) (links : Links) (req : ReqId) (event : RegEvent) → reset_asked t links req ≡ Some event → (is_asked_alone event ≡ true) × (may_ask t links event ≡ true)
reset_may t links req event due = go (event_due t links req) (event_alone t.part req (request_here (view_of t links) req)) due
  where
    by : (x : RegEvent) (b : Bool) → may_ask t links x ≡ b → is_asked_alone x ≡ true → cond b (Some x) None ≡ Some event → (is_asked_alone event ≡ true) × (may_ask t links event ≡ true)
    by x true may alone h =
        let same : x ≡ event = same_Some x event h in
        (subst (λ (y : RegEvent). is_asked_alone y ≡ true) same alone, subst (λ (y : RegEvent). may_ask t links y ≡ true) same may)
    by x false may alone h = cc

    go : (o : Option RegEvent) → IfSome o (λ x. is_asked_alone x ≡ true) → if_asked t links o ≡ Some event → (is_asked_alone event ≡ true) × (may_ask t links event ≡ true)
    go None alone h = cc
    go (Some x) alone h = by x (may_ask t links x) refl alone h
