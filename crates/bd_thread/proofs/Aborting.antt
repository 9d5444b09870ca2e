-- Abort, by the local rules; and what a mark stops.
use Rattle.std.proofs.Common.{◌≡◌, ℕ, ◌+◌, Bool, true, false, cond, List, length, Option, Some, None, refl, sym, ◌∙◌, ap, ap₂, subst}
use Rattle.bd_base.specs.declared.act.Act.TheVariants as acts
use Rattle.bd_base.specs.declared.id.DevId.{DevId}
use Rattle.bd_base.specs.declared.id.ReqId.{ReqId}
use Rattle.bd_base.specs.declared.request.AbortCause.{AbortCause}
use Rattle.bd_base.specs.declared.setup.Setup.{Setup}
use Rattle.bd_machine.specs.declared.state.Id.{Id}
use Rattle.bd_machine.specs.declared.state.Id.TheVariants as ids
use Rattle.bd_machine.specs.declared.state.Kept.{Kept}
use Rattle.bd_machine.specs.declared.state.Kept.TheVariants as keeps
use Rattle.bd_machine.specs.declared.state.OpenRequest.{OpenRequest}
use Rattle.bd_machine.specs.declared.state.Part.{Part}
use Rattle.bd_machine.specs.declared.state.Registry.{Registry}
use Rattle.bd_machine.specs.Aborts.{aborted, guards_abort, stopped}
use Rattle.bd_machine.specs.Alone.{held_after}
use Rattle.bd_machine.specs.Kept.{as_request, edited, request_here}
use Rattle.bd_machine.specs.Limits.{departed, waits_at}
use Rattle.bd_machine.specs.Same.{same_id}
use Rattle.bd_machine.specs.Step.{first_failing}
use Rattle.bd_turns.specs.declared.queue.Message.{Message}
use Rattle.bd_turns.specs.Local.{Local}
use Rattle.bd_links.specs.Queues.{queues_of}
use Rattle.bd_tokens.specs.Tokens.{here_in}
use Rattle.bd_thread.specs.declared.links.Links.{Links}
use Rattle.bd_thread.specs.declared.thread.Thread.{Thread}
use Rattle.bd_thread.specs.Aborts.{abort_due, may_abort, Aborts, AbortsBy, IsAborted, Stops, StopsBy}
use Rattle.bd_thread.specs.Acted.{Acted}
use Rattle.bd_thread.specs.Completions.{MayComplete}
use Rattle.bd_thread.specs.Requests.{KeepsTickets}
use Rattle.bd_thread.specs.Seen.{local_at, untaken, view_of}
use Rattle.bd_thread.proofs.Going.{Steps, steps, still_shut}
use Rattle.bd_thread.proofs.Submissions.{acted_into}
use Rattle.bd_thread.proofs.Tickets.{same_tickets}
use Rattle.bd_thread.proofs.Walking.{hold_all, none_is}
use Rattle.bd_thread.proofs.Timing.{untimed}

-- ---- the request that may be aborted

-- it is here, and no guard fails
pub record MayBe (t : Thread) (links : Links) (req : ReqId) (cause : AbortCause) (r : OpenRequest) : Type 0 where
  pub here : request_here (view_of t links) req ≡ Some r
  pub passes : first_failing (guards_abort t.setup.now t.me (view_of t links) req cause) ≡ None

abort_may : (t : Thread) (links : Links) (req : ReqId) (cause : AbortCause) (r : OpenRequest) → abort_due t links req cause ≡ Some r → MayBe t links req cause r
abort_may t links req cause r due = go (may_abort t links req cause) refl due
  where
    go : (b : Bool) → may_abort t links req cause ≡ b → cond b (request_here (view_of t links) req) None ≡ Some r → MayBe t links req cause r
    go false m k = cc
    go true m k = record { here = k; passes = none_is _ m }

-- ---- the abort

module _ (setup : Setup) (me : ℕ) (part : Part) (here : Id → Option Kept) (registry : Registry) (shut : Bool) (stamp : ℕ) (queues : ℕ → List Message) where
  abbrev old : Local
  old = local_at me part here registry shut stamp queues

  abort_steps : (req : ReqId) (cause : AbortCause) (r : OpenRequest)
      → as_request (here (ids.Request req)) ≡ Some r
      → first_failing (guards_abort setup me old.view req cause) ≡ None
      → Steps setup me old (acts.Abort req cause)
      (local_at me (untaken (stopped setup part req (Some r))) (λ j. cond (same_id (ids.Request req) j) (Some (keeps.Request (aborted cause r))) (here j)) registry shut (stamp + 1) queues)
  abort_steps req cause r is passes =
      let after : Bool → Option OpenRequest → Local = λ b o. local_at me (untaken (stopped setup part req o)) (held_after (edited req (aborted cause) o) here) registry b (stamp + 1) queues in
      steps setup me old (after shut (Some r)) (acts.Abort req cause) refl refl
      (hold_all (guards_abort setup me old.view req cause) passes)
      (ap₂ after (still_shut shut) is)

pub aborted_acted : (old : Thread) (before : Links) (new : Thread) (after : Links) (req : ReqId) (cause : AbortCause) (r : OpenRequest)
    → abort_due old before req cause ≡ Some r
    → IsAborted req cause r old before new after
    → Acted old before new after
aborted_acted old before new after req cause r due is =
    let may = abort_may old before req cause r due in
    acted_into old before new after (acts.Abort req cause) (untaken (stopped old.setup.now old.part req (Some r))) _
    (ap (λ (t : Thread). t.me) is.thread) (ap (λ (t : Thread). t.setup) is.thread) (ap (λ (t : Thread). t.part) is.thread) is.held is.links
    (abort_steps old.setup.now old.me old.part (here_in old.held.items) before.registry.state before.shut (length before.entries) (queues_of before.queues.items) req cause r may.here may.passes) refl
    (untimed (acts.Abort req cause) old new refl (ap (λ (t : Thread). t.time) is.thread))

-- its open requests and their tickets stay
departed_requests : (part : Part) (req : ReqId) (o : Option DevId) → (departed part req o).requests ≡ part.requests
departed_requests part req None = refl
departed_requests part req (Some dev) = refl

departed_next : (part : Part) (req : ReqId) (o : Option DevId) → (departed part req o).next_request ≡ part.next_request
departed_next part req None = refl
departed_next part req (Some dev) = refl

pub aborted_tickets : (old : Thread) (before : Links) (new : Thread) (after : Links) (req : ReqId) (cause : AbortCause) (r : OpenRequest)
    → IsAborted req cause r old before new after
    → KeepsTickets old
    → KeepsTickets new
aborted_tickets old before new after req cause r is keeps =
    same_tickets old new (ap (λ (t : Thread). t.purse.ids) is.thread)
    (ap (λ (t : Thread). t.part.requests) is.thread ∙ departed_requests old.part req (waits_at old.setup.now r))
    (ap (λ (t : Thread). t.part.next_request) is.thread ∙ departed_next old.part req (waits_at old.setup.now r)) keeps

-- where it may not be aborted, nothing changes
pub stays_open : (old : Thread) (before : Links) (req : ReqId) (cause : AbortCause) → abort_due old before req cause ≡ None → Aborts req cause old before old before false
stays_open old before req cause none = subst (AbortsBy req cause old before old before false) (sym none) (refl, refl, refl)

-- where it may, it is
pub aborts_so : (old : Thread) (before : Links) (new : Thread) (after : Links) (req : ReqId) (cause : AbortCause) (r : OpenRequest)
    → abort_due old before req cause ≡ Some r
    → IsAborted req cause r old before new after
    → Aborts req cause old before new after true
aborts_so old before new after req cause r due is = subst (AbortsBy req cause old before new after true) (sym due) (refl, is)

-- ---- what a mark stops

-- it was aborted, and then it may complete
pub stops_so : (old : Thread) (before : Links) (middle : Thread) (shared : Links) (new : Thread) (after : Links) (req : ReqId) (cause : AbortCause)
    → Aborts req cause old before middle shared true
    → MayComplete req middle shared new after
    → Stops req cause old before new after
stops_so old before middle shared new after req cause aborts may = go (abort_due old before req cause) aborts
  where
    go : (o : Option OpenRequest) → AbortsBy req cause old before middle shared true o → StopsBy req cause old before new after o
    go None k = absurd (not_false k.0)
      where
        not_false : true ≡ false → ⊥
        not_false e = cc
    go (Some r) k = record { middle = middle; shared = shared; first = k.1; second = may }

-- it may not be aborted
pub stops_none : (old : Thread) (before : Links) (new : Thread) (after : Links) (req : ReqId) (cause : AbortCause)
    → Aborts req cause old before new after false
    → Stops req cause old before new after
stops_none old before new after req cause aborts = go (abort_due old before req cause) aborts
  where
    go : (o : Option OpenRequest) → AbortsBy req cause old before new after false o → StopsBy req cause old before new after o
    go None k = (k.1, k.2)
    go (Some r) k = absurd (not_true k.0)
      where
        not_true : false ≡ true → ⊥
        not_true e = cc
