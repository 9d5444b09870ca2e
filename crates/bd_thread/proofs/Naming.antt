-- What an abort stops that names a request, and that it completes then.
use Rattle.std.proofs.Common.{◌≡◌, ℕ, Bool, true, false, cond, ◌&&◌, is_some, Option, Some, None, refl, sym, subst}
use Rattle.std.proofs.lemmas.Bool.{and_parts}
use Rattle.std.proofs.lemmas.Option.{same_Some}
use Rattle.bd_base.specs.declared.id.ReqId.{ReqId}
use Rattle.bd_base.specs.declared.request.AbortCause.TheVariants.{Named}
use Rattle.bd_machine.specs.declared.state.OpenRequest.{OpenRequest}
use Rattle.bd_machine.specs.Kept.{request_here}
use Rattle.bd_steps.specs.Naming.{has_own_trip, named_in, number_in, numbered}
use Rattle.bd_steps.specs.Stopping.{may_stop}
use Rattle.bd_thread.specs.declared.links.Links.{Links}
use Rattle.bd_thread.specs.declared.thread.Thread.{Thread}
use Rattle.bd_thread.specs.Aborts.{abort_due, named_due, NoneNamed, Stops, StopsNamed, StopsNamedBy}
use Rattle.bd_thread.specs.Completions.{MayComplete}
use Rattle.bd_thread.specs.Seen.{view_of}
use Rattle.bd_thread.specs.Waits.{Idles, IsIdle}
use Rattle.bd_thread.specs.Work.{AsksNothing}
use Rattle.bd_thread.proofs.Alone.{alone_same, alone_then, completes_alone, stops_alone}
use Rattle.bd_thread.proofs.Idle.{stops_more}

-- what an abort names may be aborted
pub named_is_due : (by req : ReqId) (t : Thread) (links : Links) → named_due t links by ≡ Some req → is_some (abort_due t links req (Named by)) ≡ true
named_is_due by req t links due = go (number_in (request_here (view_of t links) by)) due
  where
    is_here : (o : Option OpenRequest) → has_own_trip o ≡ true → is_some o ≡ true
    is_here None h = cc
    is_here (Some r) h = refl

    passed : (b : Bool) (o : Option OpenRequest) → b ≡ true → is_some o ≡ true → is_some (cond b o None) ≡ true
    passed true o e h = h
    passed false o e h = cc

    by_tests : (q : ReqId) (b : Bool) → has_own_trip (request_here (view_of t links) q) && may_stop t.setup.now t.me (view_of t links) q (Named by) ≡ b → cond b (Some q) None ≡ Some req → is_some (abort_due t links req (Named by)) ≡ true
    by_tests q false e k = cc
    by_tests q true e k =
        let both = and_parts (has_own_trip (request_here (view_of t links) q)) (may_stop t.setup.now t.me (view_of t links) q (Named by)) e in
        subst (λ (i : ReqId). is_some (abort_due t links i (Named by)) ≡ true) (same_Some q req k)
        (passed (may_stop t.setup.now t.me (view_of t links) q (Named by)) (request_here (view_of t links) q) both.1 (is_here (request_here (view_of t links) q) both.0))

    go : (o : Option ℕ) → named_in t.setup.now t.me (view_of t links) by o ≡ Some req → is_some (abort_due t links req (Named by)) ≡ true
    go None k = cc
    go (Some seq) k = by_tests (numbered t.me seq) (has_own_trip (request_here (view_of t links) (numbered t.me seq)) && may_stop t.setup.now t.me (view_of t links) (numbered t.me seq) (Named by)) refl k

-- where it names nothing that may be stopped, nothing changes
pub stops_none_named : (by : ReqId) (old : Thread) (before : Links) → named_due old before by ≡ None → StopsNamed by old before old before
stops_none_named by old before none = subst (StopsNamedBy by old before old before) (sym none) (refl, refl)

-- where it does, that is stopped
pub stops_named_so : (by req : ReqId) (old : Thread) (before : Links) (new : Thread) (after : Links) → named_due old before by ≡ Some req → Stops req (Named by) old before new after → StopsNamed by old before new after
stops_named_so by req old before new after due stops = subst (StopsNamedBy by old before new after) (sym due) stops

-- what adds no entry changes nothing
pub stops_named_idle : (by : ReqId) (old : Thread) (before : Links) (new : Thread) (after : Links) → StopsNamed by old before new after → Idles (NoneNamed by) old before new after
stops_named_idle by old before new after h few = go (named_due old before by) refl h
  where
    go : (o : Option ReqId) → named_due old before by ≡ o → StopsNamedBy by old before new after o → IsIdle (NoneNamed by) old before new after
    go None e k = record { thread = k.0; links = k.1; waits = e }
    go (Some req) e k = absurd (stops_more req (Named by) old before new after (named_is_due by req old before e) k few)

-- nothing of it asks the registry
pub stops_named_alone : (by : ReqId) (old : Thread) (before : Links) (new : Thread) (after : Links) → StopsNamed by old before new after → AsksNothing before after
stops_named_alone by old before new after h = go (named_due old before by) h
  where
    go : (o : Option ReqId) → StopsNamedBy by old before new after o → AsksNothing before after
    go None k = alone_same before after k.1
    go (Some req) k = stops_alone req (Named by) old before new after k

pub ends_abort_alone : (by : ReqId) (old : Thread) (before : Links) (middle : Thread) (shared : Links) (new : Thread) (after : Links) → StopsNamed by old before middle shared → MayComplete by middle shared new after → AsksNothing before after
ends_abort_alone by old before middle shared new after stops completes =
    alone_then before shared after (stops_named_alone by old before middle shared stops) (completes_alone by middle shared new after completes)
