-- The next step of an open request, where the rules let a thread take it by itself.
use Rattle.std.proofs.Common.{◌≡◌, Bool, true, false, cond, ◌&&◌, is_some, is_none, Option, Some, None, refl, ◌∙◌, ap}
use Rattle.std.proofs.lemmas.Bool.{and_parts}
use Rattle.bd_base.specs.declared.id.ReqId.{ReqId}
use Rattle.bd_base.specs.declared.request.AbortCause.{AbortCause}
use Rattle.bd_flight.specs.declared.next.Step.{Step}
use Rattle.bd_flight.specs.declared.next.Step.TheVariants as steps
use Rattle.bd_flight.specs.Due.{may_stop}
use Rattle.bd_flight.specs.Next.{is_mark, may_take, may_take_of}
use Rattle.bd_machine.specs.declared.state.OpenRequest.{OpenRequest}
use Rattle.bd_machine.specs.Aborts.{is_cause_if_any, may_abort}
use Rattle.bd_machine.specs.declared.guard.TheConstants.{ABORT_CAUSE, MAY_ABORT}
use Rattle.bd_machine.specs.Kept.{request_here}
use Rattle.bd_machine.specs.Requests.{may_cut}
use Rattle.bd_thread.specs.declared.links.Links.{Links}
use Rattle.bd_thread.specs.declared.thread.Thread.{Thread}
use Rattle.bd_thread.specs.Injections.{is_inject}
use Rattle.bd_thread.specs.Waits.{is_taken_alone}
use Rattle.bd_thread.specs.Aborts.{abort_due}
use Rattle.bd_thread.specs.Cuts.{may_cut_now}
use Rattle.bd_thread.specs.Seen.{view_of}

-- ---- the next step

-- where the rules let a mark abort the request, it is due to be aborted
pub abort_is_due : (req : ReqId) (cause : AbortCause) (t : Thread) (links : Links) → may_take t.setup.now t.me (view_of t links) req (steps.Abort cause) ≡ true → is_some (abort_due t links req cause) ≡ true
abort_is_due req cause t links may = go (request_here (view_of t links) req) refl may
  where
    passed : (a b : Bool) (o : Option OpenRequest) → a ≡ true → b ≡ true → is_some o ≡ true → is_some (cond (is_none (cond a (cond b None (Some ABORT_CAUSE)) (Some MAY_ABORT))) o None) ≡ true
    passed true true o e f h = h
    passed true false o e f h = cc
    passed false b o e f h = cc

    go : (o : Option OpenRequest) → request_here (view_of t links) req ≡ o → may_take_of t.setup.now t.me (view_of t links) req (steps.Abort cause) o ≡ true → is_some (abort_due t links req cause) ≡ true
    go None is h = cc
    go (Some r) is h =
        let stop = (and_parts (is_mark cause && is_none r.pieces) (may_stop t.setup.now t.me (view_of t links) req (Some r) cause) h).1 in
        let both = and_parts (may_abort (view_of t links) req (Some r)) (is_cause_if_any t.setup.now t.me (view_of t links) req cause (Some r)) stop in
        let first : may_abort (view_of t links) req (request_here (view_of t links) req) ≡ true = ap (may_abort (view_of t links) req) is ∙ both.0 in
        let second : is_cause_if_any t.setup.now t.me (view_of t links) req cause (request_here (view_of t links) req) ≡ true = ap (is_cause_if_any t.setup.now t.me (view_of t links) req cause) is ∙ both.1 in
        passed (may_abort (view_of t links) req (request_here (view_of t links) req)) (is_cause_if_any t.setup.now t.me (view_of t links) req cause (request_here (view_of t links) req)) (request_here (view_of t links) req) first second (ap is_some is)

-- where the rules let the request be cut, it may be cut now
pub cut_is_due : (req : ReqId) (t : Thread) (links : Links) → may_take t.setup.now t.me (view_of t links) req steps.Cut ≡ true → may_cut_now req t links ≡ true
cut_is_due req t links may = go (request_here (view_of t links) req) refl may
  where
    go : (o : Option OpenRequest) → request_here (view_of t links) req ≡ o → may_take_of t.setup.now t.me (view_of t links) req steps.Cut o ≡ true → may_cut_now req t links ≡ true
    go None is h = cc
    go (Some r) is h = ap (may_cut t.setup.now t.me (view_of t links) req) is ∙ h

-- it is no step that a thread takes by itself, beside the completion
pub other_step : (step : Step) → (step ≡ steps.Cut → ⊥) → (step ≡ steps.Pend → ⊥) → ((cause : AbortCause) → step ≡ steps.Abort cause → ⊥) → is_taken_alone step ≡ false
other_step (steps.Abort cause) uncut unpended unaborted = absurd (unaborted cause refl)
other_step steps.Cut uncut unpended unaborted = absurd (uncut refl)
other_step steps.Pend uncut unpended unaborted = absurd (unpended refl)
other_step (steps.Limit dev) uncut unpended unaborted = refl
other_step (steps.Inject dev) uncut unpended unaborted = refl
other_step steps.Hold uncut unpended unaborted = refl
other_step (steps.Complete status) uncut unpended unaborted = refl
other_step steps.Wait uncut unpended unaborted = refl

-- a step that a thread takes by itself asks for no decision
pub taken_asks_none : (step : Step) (may : Bool) → is_taken_alone step ≡ true → is_inject step && may ≡ false
taken_asks_none (steps.Abort cause) may h = refl
taken_asks_none steps.Cut may h = refl
taken_asks_none steps.Pend may h = refl
taken_asks_none (steps.Limit dev) may h = refl
taken_asks_none (steps.Inject dev) may h = cc
taken_asks_none steps.Hold may h = refl
taken_asks_none (steps.Complete status) may h = refl
taken_asks_none steps.Wait may h = refl
