-- What is noted to be asked of the registry: what steps leave it, and how those that are noted are called.
use Rattle.std.proofs.Common.{◌≡◌, ℕ, Bool, true, false, nat_lt, List, [], ◌∷◌, length, Option, Some, None, refl, sym, ◌∙◌, ap, subst, eq-eqb}
use Rattle.bd_base.specs.declared.event.RegEvent.{RegEvent}
use Rattle.bd_base.specs.declared.id.DevId.{DevId}
use Rattle.bd_base.specs.declared.id.ReqId.{ReqId}
use Rattle.bd_base.specs.declared.id.WalkId.{WalkId}
use Rattle.bd_base.specs.declared.event.Answer.{Answer}
use Rattle.bd_base.specs.declared.event.Answer.TheVariants as answers
use Rattle.bd_base.specs.declared.request.AbortCause.{AbortCause}
use Rattle.bd_base.specs.declared.request.AbortCause.TheVariants.{Named}
use Rattle.bd_flight.specs.declared.next.Step.{Step}
use Rattle.bd_flight.specs.declared.next.Step.TheVariants as steps
use Rattle.bd_flight.specs.Next.{next_step}
use Rattle.bd_machine.specs.declared.state.OpenRequest.{OpenRequest}
use Rattle.bd_machine.specs.declared.state.OpenWalk.{OpenWalk}
use Rattle.bd_machine.specs.Kept.{request_here}
use Rattle.bd_machine.specs.View.{View}
use Rattle.bd_steps.specs.declared.completion.Ending.{Ending}
use Rattle.bd_steps.specs.Completions.{ending_of}
use Rattle.bd_thread.specs.declared.links.Links.{Links}
use Rattle.bd_thread.specs.declared.thread.Thread.{Thread}
use Rattle.bd_thread.specs.declared.turn.Turned.{Turned}
use Rattle.bd_thread.specs.declared.turn.Turned.TheVariants.{Moved, Quiet}
use Rattle.bd_thread.specs.Aborts.{abort_due, named_due, Stops, StopsBy, StopsNamed, StopsNamedBy}
use Rattle.bd_thread.specs.Acted.{Acted}
use Rattle.bd_thread.specs.Begins.{SetsOut, SetsOutBy}
use Rattle.bd_thread.specs.Calls.{reset_asked, AsksReset, NoCallOf, NotesResets}
use Rattle.bd_thread.specs.Completions.{CompletesBy, MayComplete}
use Rattle.bd_thread.specs.Cuts.{may_cut_now, Cuts, CutsBy}
use Rattle.bd_thread.specs.Delays.{hold_due, release_due, EndsHold, EndsHoldBy, HoldsOrCompletes, HoldsOrCompletesBy}
use Rattle.bd_thread.specs.Injections.{decision_asked, pend_due, DecidedBy, Decides, DecidesBy, Pends, PendsBy, TakesDecision}
use Rattle.bd_thread.specs.Lines.{AsksBy}
use Rattle.bd_thread.specs.Limits.{head_of}
use Rattle.bd_thread.specs.Noted.{CallsAll, CallsEach, CallsFirst, CallsFirstIf, CallsIfAny, Forgets, IsCalled, IsUncalled}
use Rattle.bd_thread.specs.Seen.{view_of}
use Rattle.bd_thread.specs.Waits.{Idles}
use Rattle.bd_thread.specs.Walking.{visit_due, Visits, VisitsBy, Walks, WalksBy}
use Rattle.bd_thread.specs.Work.{has_calls}
use Rattle.bd_thread.proofs.Going.{acted_none, acted_then}
use Rattle.bd_thread.proofs.Waiting.{acted_noted}

-- ---- steps leave what is noted as it was

same_calls : (o n : Thread) → n ≡ o → n.calls ≡ o.calls
same_calls o n is = ap (λ (t : Thread). t.calls) is

pub completes_noted : (req : ReqId) (o : Thread) (a : Links) (n : Thread) (c : Links) → MayComplete req o a n c → n.calls ≡ o.calls
completes_noted req o a n c h = go (ending_of o.setup.now o.me (view_of o a) req) h.completes
  where
    go : (e : Option Ending) → CompletesBy req o a n c h.done e → n.calls ≡ o.calls
    go None k = same_calls o n k.1
    go (Some e) k = ap (λ (t : Thread). t.calls) k.1.thread

pub stops_noted : (req : ReqId) (cause : AbortCause) (o : Thread) (a : Links) (n : Thread) (c : Links) → Stops req cause o a n c → n.calls ≡ o.calls
stops_noted req cause o a n c h = go (abort_due o a req cause) h
  where
    go : (r : Option OpenRequest) → StopsBy req cause o a n c r → n.calls ≡ o.calls
    go None k = same_calls o n k.0
    go (Some r) k = completes_noted req k.middle k.shared n c k.second ∙ ap (λ (t : Thread). t.calls) k.first.thread

pub stops_named_noted : (by : ReqId) (o : Thread) (a : Links) (n : Thread) (c : Links) → StopsNamed by o a n c → n.calls ≡ o.calls
stops_named_noted by o a n c h = go (named_due o a by) h
  where
    go : (q : Option ReqId) → StopsNamedBy by o a n c q → n.calls ≡ o.calls
    go None k = same_calls o n k.0
    go (Some req) k = stops_noted req (Named by) o a n c k

pub cuts_noted : (req : ReqId) (o : Thread) (a : Links) (n : Thread) (c : Links) (count : ℕ) → Cuts req o a n c count → n.calls ≡ o.calls
cuts_noted req o a n c count h = go (may_cut_now req o a) (request_here (view_of o a) req) h
  where
    go : (may : Bool) (r : Option OpenRequest) → CutsBy req count o a n c may r → n.calls ≡ o.calls
    go true (Some r) k = ap (λ (t : Thread). t.calls) k.thread
    go true None k = same_calls o n k.1
    go false (Some r) k = same_calls o n k.1
    go false None k = same_calls o n k.1

pub pends_noted : (req : ReqId) (o : Thread) (a : Links) (n : Thread) (c : Links) (done : Bool) → Pends req o a n c done → n.calls ≡ o.calls
pends_noted req o a n c done h = go (pend_due o a req) h
  where
    go : (r : Option OpenRequest) → PendsBy req o a n c done r → n.calls ≡ o.calls
    go None k = same_calls o n k.1
    go (Some r) k = ap (λ (t : Thread). t.calls) k.1.thread

pub ends_hold_noted : (req : ReqId) (o : Thread) (a : Links) (n : Thread) (c : Links) (done : Bool) → EndsHold req o a n c done → n.calls ≡ o.calls
ends_hold_noted req o a n c done h = go (release_due o a req) h
  where
    go : (r : Option OpenRequest) → EndsHoldBy req o a n c done r → n.calls ≡ o.calls
    go None k = same_calls o n k.1
    go (Some r) k = completes_noted req k.1.middle k.1.shared n c k.1.second ∙ ap (λ (t : Thread). t.calls) k.1.first.thread

pub carried_noted : (req : ReqId) (o : Thread) (a : Links) (n : Thread) (c : Links) → HoldsOrCompletes req o a n c → n.calls ≡ o.calls
carried_noted req o a n c h = go (hold_due o a req) h
  where
    go : (due : Option (OpenRequest × ℕ)) → HoldsOrCompletesBy req o a n c due → n.calls ≡ o.calls
    go None k = completes_noted req o a n c k
    go (Some due) k = ap (λ (t : Thread). t.calls) k.thread

takes_noted : (req : ReqId) (dev : DevId) (r : OpenRequest) (o : Thread) (a : Links) (n : Thread) (c : Links) → TakesDecision req dev r o a n c → n.calls ≡ o.calls
takes_noted req dev r o a n c h = go h.answer h.decided
  where
    go : (answer : Answer) → DecidedBy req dev r o a n c answer → n.calls ≡ o.calls
    go (answers.Injected decision) k = ap (λ (t : Thread). t.calls) k.thread
    go answer k = ap (λ (t : Thread). t.calls) k.thread

pub decides_noted : (req : ReqId) (o : Thread) (a : Links) (n : Thread) (c : Links) (done : Bool) → Decides req o a n c done → n.calls ≡ o.calls
decides_noted req o a n c done h = go (decision_asked o a req) h
  where
    go : (due : Option (DevId × OpenRequest)) → DecidesBy req o a n c done due → n.calls ≡ o.calls
    go None k = same_calls o n k.1
    go (Some due) k = takes_noted req due.0 due.1 o a n c k.1

pub resets_noted : (req : ReqId) (o : Thread) (a : Links) (n : Thread) (c : Links) (asked : Bool) → AsksReset req o a n c asked → n.calls ≡ o.calls
resets_noted req o a n c asked h = go (reset_asked o a req) h
  where
    go : (event : Option RegEvent) → AsksBy o a n c asked event → n.calls ≡ o.calls
    go None k = same_calls o n k.1
    go (Some event) k = ap (λ (t : Thread). t.calls) k.1.thread

-- ---- those that are noted are called

-- the first that was noted is noted no longer, and is called
pub called_first : (req : ReqId) (o : Thread) (a : Links) (u n : Thread) (c : Links) → u ≡ record o { calls = u.calls } → Acted u a n c → Idles (NoCallOf req) u a n c → IsCalled req o a n c
called_first req o a u n c is acted idles = record {
  acted = acted_then o a u a n c (acted_noted o a o a u is (acted_none o a)) acted;
  idles = λ few.
      let i = idles few in
      let none : NoCallOf req (record o { calls = u.calls }) a = subst (λ (t : Thread). NoCallOf req t a) is i.waits in
      record { thread = i.thread ∙ is ∙ ap (λ (t : Thread). record o { calls = t.calls }) (sym i.thread); links = i.links; none = record { decision = none.decision; reset = none.reset } };
}

-- in a turn that added none so far, the first that was noted is called
pub first_so : (entries : ℕ) (req : ReqId) (o : Thread) (a : Links) (n : Thread) (c : Links)
    → entries ≡ length a.entries
    → head_of o.calls.items ≡ Some req
    → Acted o a n c
    → Idles (NoCallOf req) o a n c
    → n.calls ≡ o.calls
    → CallsFirst entries o a n c
first_so entries req o a n c same head acted idles noted =
    subst (λ (b : Bool). CallsFirstIf b o a n c) (sym (eq-eqb entries (length a.entries) same))
    (subst (λ (x : Option ReqId). CallsIfAny x o a n c) (sym head)
    (record { called = called_first req o a o n c refl acted idles; noted = noted }))

pub none_in : (reqs : List ReqId) → length reqs ≡ 0 → reqs ≡ []
none_in [] h = refl
none_in (req ∷ reqs) h = cc

-- none is left that was noted
pub called_all : (o : Thread) (a : Links) (n : Thread) (c : Links)
    → n.calls.items ≡ []
    → ((x : Thread) (links : Links) → CallsEach n.calls.items n c x links → CallsEach o.calls.items o a x links)
    → CallsAll o a n c
called_all o a n c none each = record {
  each = each n c (subst (λ (reqs : List ReqId). CallsEach reqs n c n c) (sym none) (refl, refl));
  none_left = none;
}

-- ---- a request that is set out

-- by each step only what is to be put and what is noted may change
pub sets_only : (req : ReqId) (o : Thread) (a : Links) (u : Thread) (c : Links) (done : Bool) → SetsOut req o a u c done → u ≡ record o { outbox = u.outbox; calls = u.calls }
sets_only req o a u c done h = go (next_step o.setup.now o.me (view_of o a) req) h
  where
    same : u ≡ o → u ≡ record o { outbox = u.outbox; calls = u.calls }
    same is = is ∙ ap (λ (t : Thread). record o { outbox = t.outbox; calls = t.calls }) (sym is)

    go : (s : Step) → SetsOutBy req o a u c done s → u ≡ record o { outbox = u.outbox; calls = u.calls }
    go (steps.Limit dev) k = k.1.thread ∙ ap (λ (t : Thread). record o { outbox = u.outbox; calls = t.calls }) (sym k.1.thread)
    go (steps.Inject dev) k = k.1.thread ∙ ap (λ (t : Thread). record o { outbox = t.outbox; calls = u.calls }) (sym k.1.thread)
    go (steps.Abort cause) k = same k.1
    go (steps.Complete status) k = same k.1
    go steps.Cut k = same k.1
    go steps.Hold k = same k.1
    go steps.Pend k = same k.1
    go steps.Wait k = same k.1

pub sets_so : (req : ReqId) (o : Thread) (a : Links) (u : Thread) (done : Bool) (s : Step) → next_step o.setup.now o.me (view_of o a) req ≡ s → SetsOutBy req o a u a done s → SetsOut req o a u a done
sets_so req o a u done s is h = subst (SetsOutBy req o a u a done) (sym is) h

-- any other step sets nothing out
pub sets_none : (req : ReqId) (o : Thread) (a : Links) (s : Step) → next_step o.setup.now o.me (view_of o a) req ≡ s → ((dev : DevId) → s ≡ steps.Limit dev → ⊥) → ((dev : DevId) → s ≡ steps.Inject dev → ⊥) → SetsOut req o a o a false
sets_none req o a s is limit inject = sets_so req o a o false s is (go s limit inject)
  where
    go : (s : Step) → ((dev : DevId) → s ≡ steps.Limit dev → ⊥) → ((dev : DevId) → s ≡ steps.Inject dev → ⊥) → SetsOutBy req o a o a false s
    go (steps.Limit dev) limit inject = absurd (limit dev refl)
    go (steps.Inject dev) limit inject = absurd (inject dev refl)
    go (steps.Abort cause) limit inject = (refl, refl, refl)
    go (steps.Complete status) limit inject = (refl, refl, refl)
    go steps.Cut limit inject = (refl, refl, refl)
    go steps.Hold limit inject = (refl, refl, refl)
    go steps.Pend limit inject = (refl, refl, refl)
    go steps.Wait limit inject = (refl, refl, refl)

-- ---- after a turn

pub forgets_only : (turned : Turned) (o n : Thread) → Forgets turned o n → n ≡ record o { calls = n.calls }
forgets_only Quiet o n h = h.0
forgets_only (Moved k) o n h = h ∙ ap (λ (t : Thread). record o { calls = t.calls }) (sym h)

pub forgets_all : (turned : Turned) (o n : Thread) → Forgets turned o n → turned ≡ Quiet → has_calls n ≡ false
forgets_all turned o n h quiet =
    let forgets : Forgets Quiet o n = subst (λ (x : Turned). Forgets x o n) quiet h in
    ap (λ (reqs : List ReqId). nat_lt 0 (length reqs)) forgets.1

-- ---- a walk that visits, and then notes

pub walks_so : (walk : WalkId) (o : Thread) (a : Links) (m : Thread) (b : Links) (n : Thread) → Visits walk o a m b true → NotesResets m n → Walks walk o a n b
walks_so walk o a m b n visits notes = go (visit_due o a walk) refl visits
  where
    go : (w : Option OpenWalk) → visit_due o a walk ≡ w → VisitsBy walk o a m b true w → WalksBy walk o a n b w
    go None is k = cc
    go (Some w) is k = record { middle = m; shared = b; first = visits; second = (notes, refl) }

pub walks_none : (walk : WalkId) (o : Thread) (a : Links) (n : Thread) (c : Links) → Visits walk o a n c false → Walks walk o a n c
walks_none walk o a n c visits = go (visit_due o a walk) visits
  where
    go : (w : Option OpenWalk) → VisitsBy walk o a n c false w → WalksBy walk o a n c w
    go None k = (k.1, k.2)
    go (Some w) k = cc
