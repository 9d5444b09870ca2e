-- Decisions of error devices and what is kept without an answer, by the local rules.
use Rattle.std.proofs.Common.{◌≡◌, ℕ, ◌+◌, ◌≤◌, Bool, true, false, cond, ◌&&◌, List, ◌∷◌, length, is_none, is_some, Option, Some, None, refl, sym, ◌∙◌, ap, ap₂, subst, eq-eqb, arith}
use Rattle.std.proofs.lemmas.Bool.{and_from}
use Rattle.std.proofs.lemmas.Option.{same_Some}
use mathlib.Core.Path.{fun_ext}
use Rattle.bd_base.specs.declared.act.Act.{Act}
use Rattle.bd_base.specs.declared.act.Act.TheVariants as acts
use Rattle.bd_base.specs.declared.event.Answer.{Answer}
use Rattle.bd_base.specs.declared.event.Answer.TheVariants as answers
use Rattle.bd_base.specs.declared.event.RegEvent.{RegEvent}
use Rattle.bd_base.specs.declared.id.DevId.{DevId}
use Rattle.bd_base.specs.declared.id.ReqId.{ReqId}
use Rattle.bd_base.specs.declared.request.Decision.{Decision}
use Rattle.bd_base.specs.declared.setup.Setup.{Setup}
use Rattle.bd_flight.specs.declared.next.Step.{Step}
use Rattle.bd_flight.specs.declared.next.Step.TheVariants as steps_of
use Rattle.bd_flight.specs.Next.{may_take, may_take_of, next_step}
use Rattle.bd_machine.specs.declared.state.Prior.TheVariants.{Injection}
use Rattle.bd_machine.specs.declared.state.Between.{Between}
use Rattle.bd_machine.specs.declared.state.Id.{Id}
use Rattle.bd_machine.specs.declared.state.Id.TheVariants as ids
use Rattle.bd_machine.specs.declared.state.Kept.{Kept}
use Rattle.bd_machine.specs.declared.state.Kept.TheVariants as keeps
use Rattle.bd_machine.specs.declared.state.OpenRequest.{OpenRequest}
use Rattle.bd_machine.specs.declared.state.Part.{Part}
use Rattle.bd_machine.specs.declared.state.Registry.{Registry}
use Rattle.bd_machine.specs.declared.state.TakenInjection.{TakenInjection}
use Rattle.bd_machine.specs.Alone.{held_after}
use Rattle.bd_machine.specs.Asked.{asks_event}
use Rattle.bd_machine.specs.Changes.{registry_after}
use Rattle.bd_machine.specs.Injections.{asked_once_more, asks_injection, guards_pend, injected, is_taken, may_pend, pended}
use Rattle.bd_machine.specs.Kept.{as_request, edited, request_here}
use Rattle.bd_machine.specs.Registry.{answer_to}
use Rattle.bd_machine.specs.Same.{same_answer, same_decision, same_dev, same_id, same_request}
use Rattle.bd_machine.specs.Step.{first_failing}
use Rattle.bd_machine.specs.View.{View}
use Rattle.bd_machine.proofs.Tables.{request_same}
use Rattle.bd_rule_view.specs.Came.{came_between}
use Rattle.bd_turns.specs.declared.queue.Message.{Message}
use Rattle.bd_turns.specs.Local.{Local}
use Rattle.bd_links.specs.Queues.{queues_of}
use Rattle.bd_tokens.specs.Tokens.{here_in}
use Rattle.bd_thread.specs.declared.links.Links.{Links}
use Rattle.bd_thread.specs.declared.thread.Thread.{Thread}
use Rattle.bd_thread.specs.Acted.{Acted}
use Rattle.bd_thread.specs.Injections.{asked_of, asks_decision, decided_registry, decision_asked, decision_of, is_inject, may_pend_now, pend_due, DecidedBy, Decides, DecidesBy, IsDecided, IsPended, IsUndecided, NoDecisionOf, Pends, PendsBy, TakesDecision}
use Rattle.bd_thread.specs.Lines.{may_ask, may_ask_after}
use Rattle.bd_thread.specs.Requests.{KeepsTickets}
use Rattle.bd_thread.specs.Seen.{local, local_at, untaken, view_of}
use Rattle.bd_thread.specs.Waits.{Idles, IsIdle}
use Rattle.bd_thread.specs.Work.{AsksNothing}
use Rattle.bd_links.proofs.Longer.{length-longer}
use Rattle.bd_thread.proofs.Alone.{alone_by, alone_same}
use Rattle.bd_thread.proofs.Going.{Steps, acted_step, acted_then, channels_own, handles_own, local_eq, steps, still_shut}
use Rattle.bd_thread.proofs.Idle.{more}
use Rattle.bd_thread.proofs.Registering.{answer_self, asked_local}
use Rattle.bd_thread.proofs.Submissions.{acted_into}
use Rattle.bd_thread.proofs.Tickets.{same_tickets}
use Rattle.bd_thread.proofs.Walking.{hold_all, none_is}
use Rattle.bd_thread.proofs.Timing.{untimed}

-- ---- the local rules

abbrev taken : ReqId → DevId → Decision → TakenInjection
taken req dev decision = record { req = req; dev = dev; decision = decision }

dev_self : (d : DevId) → same_dev d d ≡ true
dev_self d = eq-eqb d.0 d.0 refl

decision_self : (d : Decision) → same_decision d d ≡ true
decision_self d = answer_self (answers.Injected d)

taken_self : (req : ReqId) (dev : DevId) (decision : Decision) → is_taken req dev decision (Some (Injection (taken req dev decision))) ≡ true
taken_self req dev decision =
    and_from (same_request req req && same_dev dev dev) (same_decision decision decision)
    (and_from (same_request req req) (same_dev dev dev) (request_same.same_self req) (dev_self dev)) (decision_self decision)

module _ (setup : Setup) (me : ℕ) (part : Part) (here : Id → Option Kept) (registry : Registry) (shut : Bool) (stamp : ℕ) (queues : ℕ → List Message) where
  abbrev old : Local
  old = local_at me part here registry shut stamp queues

  abbrev with_request : ReqId → OpenRequest → Id → Option Kept
  with_request req r j = cond (same_id (ids.Request req) j) (Some (keeps.Request r)) (here j)

  abbrev answered_by : RegEvent → Answer → Registry
  answered_by event answer = registry_after setup registry me (Some (record { event = event; answer = answer }))

  -- the registry tells a decision
  pub told_steps : (req : ReqId) (dev : DevId) (r : OpenRequest) (decision : Decision)
      → as_request (here (ids.Request req)) ≡ Some r
      → answer_to setup registry me (asked_of req dev r) ≡ answers.Injected decision
      → asks_event setup me old.view (came_between registry.between shut) (asked_of req dev r) ≡ true
      → Steps setup me old (acts.Reg (asked_of req dev r) (answers.Injected decision))
      (local_at me (record part { prior = Some (Injection (taken req dev decision)) }) (with_request req (asked_once_more r)) (answered_by (asked_of req dev r) (answers.Injected decision)) shut (stamp + 1) queues)
  told_steps req dev r decision is given asks =
      let event : RegEvent = asked_of req dev r in
      let answer : Answer = answers.Injected decision in
      steps setup me old
      (local_at me (record part { prior = Some (Injection (taken req dev decision)) }) (with_request req (asked_once_more r)) (answered_by event answer) shut (stamp + 1) queues)
      (acts.Reg event answer) refl refl
      (ap (λ (a : Answer). same_answer answer a) given ∙ answer_self answer, (asked_local setup me old event answer asks, tt))
      (local_eq _ _ refl
      (ap (λ o. held_after (edited req asked_once_more o) here) is)
      (sym (handles_own me registry.handles event answer))
      (sym (channels_own setup me registry (Some (record { event = event; answer = answer }))))
      refl (still_shut shut) refl refl)

  -- the request has the decision that the entry before told
  pub inject_steps : (req : ReqId) (dev : DevId) (decision : Decision) (r : OpenRequest)
      → as_request (here (ids.Request req)) ≡ Some r
      → part.prior ≡ Some (Injection (taken req dev decision))
      → Steps setup me old (acts.Inject req dev decision) (local_at me (untaken part) (with_request req (injected decision r)) registry shut (stamp + 1) queues)
  inject_steps req dev decision r is told =
      let after : Bool → Option OpenRequest → Local = λ b o. local_at me (untaken part) (held_after (edited req (injected decision) o) here) registry b (stamp + 1) queues in
      steps setup me old (after shut (Some r)) (acts.Inject req dev decision) refl refl
      (ap (is_taken req dev decision) told ∙ taken_self req dev decision, tt)
      (ap₂ after (still_shut shut) is)

  -- the registry's answer is no decision
  pub refused_steps : (req : ReqId) (dev : DevId) (r : OpenRequest) (answer : Answer)
      → ((decision : Decision) → answer ≡ answers.Injected decision → ⊥)
      → answer_to setup registry me (asked_of req dev r) ≡ answer
      → asks_event setup me old.view (came_between registry.between shut) (asked_of req dev r) ≡ true
      → Steps setup me old (acts.Reg (asked_of req dev r) answer) (local_at me (untaken part) here (answered_by (asked_of req dev r) answer) shut (stamp + 1) queues)
  refused_steps req dev r (answers.Injected decision) other given asks = absurd (other decision refl)
  refused_steps req dev r answer other given asks =
      let event : RegEvent = asked_of req dev r in
      steps setup me old (local_at me (untaken part) here (answered_by event answer) shut (stamp + 1) queues)
      (acts.Reg event answer) refl refl
      (ap (λ (a : Answer). same_answer answer a) given ∙ answer_self answer, (asked_local setup me old event answer asks, tt))
      (local_eq _ _ refl refl
      (sym (handles_own me registry.handles event answer))
      (sym (channels_own setup me registry (Some (record { event = event; answer = answer }))))
      refl (still_shut shut) refl refl)

  pub pend_steps : (req : ReqId) (r : OpenRequest)
      → as_request (here (ids.Request req)) ≡ Some r
      → first_failing (guards_pend me old.view req) ≡ None
      → Steps setup me old (acts.Pend req) (local_at me (untaken part) (with_request req (pended r)) registry shut (stamp + 1) queues)
  pend_steps req r is passes =
      let after : Bool → Option OpenRequest → Local = λ b o. local_at me (untaken part) (held_after (edited req pended o) here) registry b (stamp + 1) queues in
      steps setup me old (after shut (Some r)) (acts.Pend req) refl refl
      (hold_all (guards_pend me old.view req) passes)
      (ap₂ after (still_shut shut) is)

-- ---- a decision

-- an entry that asks the registry, after which the thread has this part and this is here
asked_into : (t : Thread) (before : Links) (new : Thread) (after : Links) (req : ReqId) (dev : DevId) (r : OpenRequest) (answer : Answer)
    → new.me ≡ t.me
    → new.setup ≡ t.setup
    → after ≡ decided_registry t before req dev r answer
    → new.time ≡ t.time
    → Steps t.setup.now t.me (local t before) (acts.Reg (asked_of req dev r) answer)
    (local_at t.me new.part (here_in new.held.items) (registry_after t.setup.now before.registry.state t.me (Some (record { event = asked_of req dev r; answer = answer }))) before.shut (length before.entries + 1) (queues_of before.queues.items))
    → Acted t before new after
asked_into t before new after req dev r answer me setup links time stepped =
    let act : Act = acts.Reg (asked_of req dev r) answer in
    let q : Links = decided_registry t before req dev r answer in
    let at : ℕ → ℕ → Local = λ n m. local_at m new.part (here_in new.held.items) q.registry.state before.shut n (queues_of before.queues.items) in
    let ends : at (length before.entries + 1) t.me ≡ local new q = ap (λ n. at n t.me) (sym (length-longer t.me before.entries act)) ∙ ap (at (length q.entries)) (sym me) in
    subst (λ (l : Links). Acted t before new l) (sym links)
    (acted_step t before new q act me setup refl refl refl (subst (Steps t.setup.now t.me (local t before) act) ends stepped) refl (untimed act t new refl time))

-- what is written twice at an id is what was written last
abbrev written : Id → Option Kept → (Id → Option Kept) → Id → Option Kept
written id kept here j = cond (same_id id j) kept (here j)

twice : (id : Id) (first second : Option Kept) (here : Id → Option Kept) → written id second (written id first here) ≡ written id second here
twice id first second here = fun_ext (λ j. go (same_id id j) (here j))
  where
    go : (b : Bool) (x : Option Kept) → cond b second (cond b first x) ≡ cond b second x
    go true x = refl
    go false x = refl

pub decided_acted : (old : Thread) (before : Links) (new : Thread) (after : Links) (req : ReqId) (dev : DevId) (r : OpenRequest) (decision : Decision)
    → request_here (view_of old before) req ≡ Some r
    → may_ask old before (asked_of req dev r) ≡ true
    → answer_to old.setup.now before.registry.state old.me (asked_of req dev r) ≡ answers.Injected decision
    → IsDecided req dev r decision old before new after
    → Acted old before new after
decided_acted old before new after req dev r decision here asks given is =
    let here_is = here_in old.held.items in
    let queues = queues_of before.queues.items in
    let answer : Answer = answers.Injected decision in
    let asked : OpenRequest = asked_once_more r in
    let middle : Thread = record old { part = record old.part { prior = Some (Injection (taken req dev decision)) }; held = record { items = (ids.Request req, keeps.Request asked) ∷ old.held.items; room = 0 } } in
    let shared : Links = decided_registry old before req dev r answer in
    let first : Acted old before middle shared =
    asked_into old before middle shared req dev r answer refl refl refl refl
    (told_steps old.setup.now old.me old.part here_is before.registry.state before.shut (length before.entries) queues req dev r decision here given asks) in
    let second : Acted middle shared new after =
    acted_into middle shared new after (acts.Inject req dev decision) (untaken middle.part) _
    (ap (λ (t : Thread). t.me) is.thread) (ap (λ (t : Thread). t.setup) is.thread) (ap (λ (t : Thread). t.part) is.thread)
    (is.held ∙ sym (twice (ids.Request req) (Some (keeps.Request asked)) (Some (keeps.Request (injected decision asked))) here_is))
    is.links
    (inject_steps middle.setup.now middle.me middle.part (here_in middle.held.items) shared.registry.state shared.shut (length shared.entries) queues req dev decision asked
    (found req asked here_is) refl) refl
    (untimed (acts.Inject req dev decision) middle new refl (ap (λ (t : Thread). t.time) is.thread)) in
    acted_then old before middle shared new after first second
  where
    found : (req : ReqId) (x : OpenRequest) (here : Id → Option Kept) → as_request (cond (same_id (ids.Request req) (ids.Request req)) (Some (keeps.Request x)) (here (ids.Request req))) ≡ Some x
    found req x here = ap (λ b. as_request (cond b (Some (keeps.Request x)) (here (ids.Request req)))) (request_same.same_self req)

pub undecided_acted : (old : Thread) (before : Links) (new : Thread) (after : Links) (req : ReqId) (dev : DevId) (r : OpenRequest) (answer : Answer)
    → ((decision : Decision) → answer ≡ answers.Injected decision → ⊥)
    → may_ask old before (asked_of req dev r) ≡ true
    → answer_to old.setup.now before.registry.state old.me (asked_of req dev r) ≡ answer
    → IsUndecided req dev r answer old before new after
    → Acted old before new after
undecided_acted old before new after req dev r answer other asks given is =
    let p : Thread = record old { part = untaken old.part } in
    subst (λ (t : Thread). Acted old before t after) (sym is.thread)
    (asked_into old before p after req dev r answer refl refl is.links refl
    (refused_steps old.setup.now old.me old.part (here_in old.held.items) before.registry.state before.shut (length before.entries) (queues_of before.queues.items) req dev r answer other given asks))

pub decided_tickets : (old : Thread) (before : Links) (new : Thread) (after : Links) (req : ReqId) (dev : DevId) (r : OpenRequest) (decision : Decision)
    → IsDecided req dev r decision old before new after
    → KeepsTickets old
    → KeepsTickets new
decided_tickets old before new after req dev r decision is keeps =
    same_tickets old new (ap (λ (t : Thread). t.purse.ids) is.thread) (ap (λ (t : Thread). t.part.requests) is.thread) (ap (λ (t : Thread). t.part.next_request) is.thread) keeps

pub undecided_tickets : (old : Thread) (before : Links) (new : Thread) (after : Links) (req : ReqId) (dev : DevId) (r : OpenRequest) (answer : Answer)
    → IsUndecided req dev r answer old before new after
    → KeepsTickets old
    → KeepsTickets new
undecided_tickets old before new after req dev r answer is keeps =
    same_tickets old new (ap (λ (t : Thread). t.purse.ids) is.thread) (ap (λ (t : Thread). t.part.requests) is.thread) (ap (λ (t : Thread). t.part.next_request) is.thread) keeps

abbrev is_decision : Answer → Bool
is_decision (answers.Injected decision) = true
is_decision answer = false

-- what an answer that is no decision leaves
decided_none : (req : ReqId) (dev : DevId) (r : OpenRequest) (old : Thread) (before : Links) (new : Thread) (after : Links) (answer : Answer) → is_decision answer ≡ false → DecidedBy req dev r old before new after answer → IsUndecided req dev r answer old before new after
decided_none req dev r old before new after (answers.Injected decision) none is = cc
decided_none req dev r old before new after answer none is = is

-- what was answered, and how the thread went on by it
pub takes_acted : (old : Thread) (before : Links) (new : Thread) (after : Links) (req : ReqId) (dev : DevId) (r : OpenRequest)
    → request_here (view_of old before) req ≡ Some r
    → may_ask old before (asked_of req dev r) ≡ true
    → TakesDecision req dev r old before new after
    → Acted old before new after
takes_acted old before new after req dev r here asks takes = go takes.answer takes.given takes.decided
  where
    none_other : (answer : Answer) → is_decision answer ≡ false → (decision : Decision) → answer ≡ answers.Injected decision → ⊥
    none_other answer none decision is = let one : is_decision answer ≡ true = ap is_decision is in let clash = sym none ∙ one in cc

    other : (answer : Answer) → is_decision answer ≡ false → answer_to old.setup.now before.registry.state old.me (asked_of req dev r) ≡ answer → DecidedBy req dev r old before new after answer → Acted old before new after
    other answer none given is = undecided_acted old before new after req dev r answer (none_other answer none) asks given (decided_none req dev r old before new after answer none is)

    go : (answer : Answer) → answer_to old.setup.now before.registry.state old.me (asked_of req dev r) ≡ answer → DecidedBy req dev r old before new after answer → Acted old before new after
    go (answers.Injected decision) given is = decided_acted old before new after req dev r decision here asks given is
    go (answers.Opened h d n) given is = other (answers.Opened h d n) refl given is
    go (answers.Closed d) given is = other (answers.Closed d) refl given is
    go answers.Claimed given is = other answers.Claimed refl given is
    go (answers.Got f ds) given is = other (answers.Got f ds) refl given is
    go (answers.PutDown n) given is = other (answers.PutDown n) refl given is
    go (answers.Dropped w z d) given is = other (answers.Dropped w z d) refl given is
    go (answers.Removing v ts hs d) given is = other (answers.Removing v ts hs d) refl given is
    go (answers.ResetStarted ts) given is = other (answers.ResetStarted ts) refl given is
    go answers.ResetQueued given is = other answers.ResetQueued refl given is
    go (answers.ResetEnded ts) given is = other (answers.ResetEnded ts) refl given is
    go (answers.ResetFinished n) given is = other (answers.ResetFinished n) refl given is
    go (answers.Freed h) given is = other (answers.Freed h) refl given is
    go (answers.Resizing d t) given is = other (answers.Resizing d t) refl given is
    go (answers.Resized hs n d) given is = other (answers.Resized hs n d) refl given is
    go (answers.Refused e) given is = other (answers.Refused e) refl given is

pub takes_tickets : (old : Thread) (before : Links) (new : Thread) (after : Links) (req : ReqId) (dev : DevId) (r : OpenRequest)
    → TakesDecision req dev r old before new after
    → KeepsTickets old
    → KeepsTickets new
takes_tickets old before new after req dev r takes keeps = go takes.answer takes.decided
  where
    go : (answer : Answer) → DecidedBy req dev r old before new after answer → KeepsTickets new
    go (answers.Injected decision) is = decided_tickets old before new after req dev r decision is keeps
    go answer is = undecided_tickets old before new after req dev r answer is keeps

-- it is here, and may be asked
pub record MayDecide (t : Thread) (links : Links) (req : ReqId) (dev : DevId) (r : OpenRequest) : Type 0 where
  pub here : request_here (view_of t links) req ≡ Some r
  pub asks : may_ask t links (asked_of req dev r) ≡ true

abbrev decision_on : DevId → OpenRequest → Option (DevId × OpenRequest)
decision_on dev r = Some (dev, r)

pub decision_may : (t : Thread) (links : Links) (req : ReqId) (dev : DevId) (r : OpenRequest) → decision_asked t links req ≡ Some (dev, r) → MayDecide t links req dev r
decision_may t links req dev r due = go (next_step t.setup.now t.me (view_of t links) req) (request_here (view_of t links) req) refl due
  where
    same : (d : DevId) (x : OpenRequest) → decision_on d x ≡ decision_on dev r → (d ≡ dev) × (x ≡ r)
    same d x e =
        let found : DevId × OpenRequest = (d, x) in
        let wanted : DevId × OpenRequest = (dev, r) in
        let pairs : found ≡ wanted = same_Some found wanted e in
        (ap (λ (p : DevId × OpenRequest). p.0) pairs, ap (λ (p : DevId × OpenRequest). p.1) pairs)

    by : (d : DevId) (x : OpenRequest) → request_here (view_of t links) req ≡ Some x → (b : Bool) → may_ask t links (asked_of req d x) ≡ b → cond b (decision_on d x) None ≡ decision_on dev r → MayDecide t links req dev r
    by d x is false m k = cc
    by d x is true m k =
        let e = same d x k in
        record { here = is ∙ ap Some e.1; asks = subst (λ (y : OpenRequest). may_ask t links (asked_of req dev y) ≡ true) e.1 (subst (λ (y : DevId). may_ask t links (asked_of req y x) ≡ true) e.0 m) }

    go : (s : Step) (o : Option OpenRequest) → request_here (view_of t links) req ≡ o → decision_of t links req s o ≡ decision_on dev r → MayDecide t links req dev r
    go (steps_of.Inject d) (Some x) is k = by d x is (may_ask t links (asked_of req d x)) refl k
    go (steps_of.Inject d) None is k = cc
    go (steps_of.Abort cause) o is k = cc
    go (steps_of.Complete status) o is k = cc
    go steps_of.Cut o is k = cc
    go steps_of.Hold o is k = cc
    go (steps_of.Limit d) o is k = cc
    go steps_of.Pend o is k = cc
    go steps_of.Wait o is k = cc

-- whether it is asked, by the rules
pub decision_by : (t : Thread) (links : Links) (req : ReqId) (dev : DevId) (r : OpenRequest) (b : Bool)
    → next_step t.setup.now t.me (view_of t links) req ≡ steps_of.Inject dev
    → request_here (view_of t links) req ≡ Some r
    → may_ask t links (asked_of req dev r) ≡ b
    → cond b (decision_on dev r) None ≡ decision_asked t links req
decision_by t links req dev r b step here may = sym (ap₂ (decision_of t links req) step here ∙ ap (λ x. cond x (decision_on dev r) None) may)

-- where the next step is none, none is asked
pub decision_none : (t : Thread) (links : Links) (req : ReqId) (step : Step)
    → step ≡ next_step t.setup.now t.me (view_of t links) req
    → ((dev : DevId) → step ≡ steps_of.Inject dev → ⊥)
    → None ≡ decision_asked t links req
decision_none t links req step is other = sym (ap (λ (s : Step). decision_of t links req s (request_here (view_of t links) req)) (sym is) ∙ go step (request_here (view_of t links) req) other)
  where
    go : (s : Step) (o : Option OpenRequest) → ((dev : DevId) → s ≡ steps_of.Inject dev → ⊥) → decision_of t links req s o ≡ None
    go (steps_of.Inject d) o never = absurd (never d refl)
    go (steps_of.Abort cause) o never = refl
    go (steps_of.Complete status) o never = refl
    go steps_of.Cut o never = refl
    go steps_of.Hold o never = refl
    go (steps_of.Limit d) o never = refl
    go steps_of.Pend o never = refl
    go steps_of.Wait o never = refl

pub not_decided : (old : Thread) (before : Links) (req : ReqId) → decision_asked old before req ≡ None → Decides req old before old before false
not_decided old before req none = subst (DecidesBy req old before old before false) (sym none) (refl, refl, refl)

pub decides_so : (old : Thread) (before : Links) (new : Thread) (after : Links) (req : ReqId) (dev : DevId) (r : OpenRequest)
    → decision_asked old before req ≡ Some (dev, r)
    → TakesDecision req dev r old before new after
    → Decides req old before new after true
decides_so old before new after req dev r due takes = subst (DecidesBy req old before new after true) (sym due) (refl, takes)

-- two entries or one were added
taken_more : (req : ReqId) (dev : DevId) (r : OpenRequest) (old : Thread) (before : Links) (new : Thread) (after : Links) (answer : Answer) → DecidedBy req dev r old before new after answer → length after.entries ≤ length before.entries → ⊥
taken_more req dev r old before new after (answers.Injected decision) is few =
    let told : Act = acts.Reg (asked_of req dev r) (answers.Injected decision) in
    let shared : Links = decided_registry old before req dev r (answers.Injected decision) in
    omega (arith, few, ap (λ (l : Links). length l.entries) is.links, length-longer old.me shared.entries (acts.Inject req dev decision), length-longer old.me before.entries told)
taken_more req dev r old before new after answer is few = more old.me before after (acts.Reg (asked_of req dev r) answer) (ap (λ (l : Links). l.entries) is.links) few

pub decides_idle : (req : ReqId) (old : Thread) (before : Links) (new : Thread) (after : Links) (done : Bool) → Decides req old before new after done → Idles (NoDecisionOf req) old before new after
decides_idle req old before new after done h few = go (decision_asked old before req) refl h
  where
    go : (o : Option (DevId × OpenRequest)) → decision_asked old before req ≡ o → DecidesBy req old before new after done o → IsIdle (NoDecisionOf req) old before new after
    go None e k = record { thread = k.1; links = k.2; waits = e }
    go (Some due) e k = absurd (taken_more req due.0 due.1 old before new after k.1.answer k.1.decided few)

-- ---- what is kept without an answer

pub record MayPend (t : Thread) (links : Links) (req : ReqId) (r : OpenRequest) : Type 0 where
  pub here : request_here (view_of t links) req ≡ Some r
  pub passes : first_failing (guards_pend t.me (view_of t links) req) ≡ None

pub pend_may : (t : Thread) (links : Links) (req : ReqId) (r : OpenRequest) → pend_due t links req ≡ Some r → MayPend t links req r
pend_may t links req r due = go (may_pend_now t links req) refl due
  where
    go : (b : Bool) → may_pend_now t links req ≡ b → cond b (request_here (view_of t links) req) None ≡ Some r → MayPend t links req r
    go false m k = cc
    go true m k = record { here = k; passes = none_is _ m }

-- whether it is due, by the guard
pub pend_by : (t : Thread) (links : Links) (req : ReqId) (failing : Option ℕ)
    → failing ≡ first_failing (guards_pend t.me (view_of t links) req)
    → cond (is_none failing) (request_here (view_of t links) req) None ≡ pend_due t links req
pend_by t links req failing is = ap (λ o. cond (is_none o) (request_here (view_of t links) req) None) is

pub pended_acted : (old : Thread) (before : Links) (new : Thread) (after : Links) (req : ReqId) (r : OpenRequest)
    → pend_due old before req ≡ Some r
    → IsPended req r old before new after
    → Acted old before new after
pended_acted old before new after req r due is =
    let may = pend_may old before req r due in
    acted_into old before new after (acts.Pend req) _ _
    (ap (λ (t : Thread). t.me) is.thread) (ap (λ (t : Thread). t.setup) is.thread) (ap (λ (t : Thread). t.part) is.thread) is.held is.links
    (pend_steps old.setup.now old.me old.part (here_in old.held.items) before.registry.state before.shut (length before.entries) (queues_of before.queues.items) req r may.here may.passes) refl
    (untimed (acts.Pend req) old new refl (ap (λ (t : Thread). t.time) is.thread))

pub pended_tickets : (old : Thread) (before : Links) (new : Thread) (after : Links) (req : ReqId) (r : OpenRequest)
    → IsPended req r old before new after
    → KeepsTickets old
    → KeepsTickets new
pended_tickets old before new after req r is keeps =
    same_tickets old new (ap (λ (t : Thread). t.purse.ids) is.thread) (ap (λ (t : Thread). t.part.requests) is.thread) (ap (λ (t : Thread). t.part.next_request) is.thread) keeps

pub not_pended : (old : Thread) (before : Links) (req : ReqId) → pend_due old before req ≡ None → Pends req old before old before false
not_pended old before req none = subst (PendsBy req old before old before false) (sym none) (refl, refl, refl)

pub pends_so : (old : Thread) (before : Links) (new : Thread) (after : Links) (req : ReqId) (r : OpenRequest)
    → pend_due old before req ≡ Some r
    → IsPended req r old before new after
    → Pends req old before new after true
pends_so old before new after req r due is = subst (PendsBy req old before new after true) (sym due) (refl, is)

pub pends_alone : (req : ReqId) (o : Thread) (a : Links) (n : Thread) (c : Links) (done : Bool) → Pends req o a n c done → AsksNothing a c
pends_alone req o a n c done h = go (pend_due o a req) h
  where
    go : (r : Option OpenRequest) → PendsBy req o a n c done r → AsksNothing a c
    go None k = alone_same a c k.2
    go (Some r) k = alone_by o.me a c (acts.Pend req) refl k.1.links

-- where the rules let the request be kept so, that is due
pub pend_is_due : (req : ReqId) (t : Thread) (links : Links) → may_take t.setup.now t.me (view_of t links) req steps_of.Pend ≡ true → is_some (pend_due t links req) ≡ true
pend_is_due req t links may = go (request_here (view_of t links) req) refl may
  where
    passed : (b : Bool) (guard : ℕ) (o : Option OpenRequest) → b ≡ true → is_some o ≡ true → is_some (cond (is_none (cond b None (Some guard))) o None) ≡ true
    passed true guard o e h = h
    passed false guard o e h = cc

    go : (o : Option OpenRequest) → request_here (view_of t links) req ≡ o → may_take_of t.setup.now t.me (view_of t links) req steps_of.Pend o ≡ true → is_some (pend_due t links req) ≡ true
    go None is h = cc
    go (Some r) is h = passed _ _ (request_here (view_of t links) req) (ap (λ (o : Option OpenRequest). may_pend t.me req o) is ∙ h) (ap is_some is)

pub pends_more : (req : ReqId) (old : Thread) (before : Links) (new : Thread) (after : Links) (done : Bool) → is_some (pend_due old before req) ≡ true → Pends req old before new after done → length after.entries ≤ length before.entries → ⊥
pends_more req old before new after done due h few = go (pend_due old before req) due h
  where
    go : (o : Option OpenRequest) → is_some o ≡ true → PendsBy req old before new after done o → ⊥
    go None d k = cc
    go (Some r) d k = more old.me before after (acts.Pend req) (ap (λ (l : Links). l.entries) k.1.links) few

-- ---- what waits for a decision

-- where nothing has to follow at the registry, a decision that is the next step can be taken
pub decision_free : (req : ReqId) (t : Thread) (links : Links) → is_none links.registry.state.between ≡ true → asks_decision t links req ≡ true → decision_asked t links req ≡ None → ⊥
decision_free req t links free asks none = go (next_step t.setup.now t.me (view_of t links) req) (request_here (view_of t links) req) refl asks none
  where
    v : View
    v = view_of t links

    by : (dev : DevId) (r : OpenRequest) (b : Bool) → b ≡ true → cond b (decision_on dev r) None ≡ None → ⊥
    by dev r true e k = cc
    by dev r false e k = cc

    asked : (dev : DevId) (r : OpenRequest) (between : Option Between) → is_none between ≡ true → request_here v req ≡ Some r → may_take_of t.setup.now t.me v req (steps_of.Inject dev) (Some r) ≡ true
        → may_ask_after t links between (asked_of req dev r) ≡ true
    asked dev r None e is may = ap (λ (o : Option OpenRequest). asks_injection t.setup.now t.me v dev req r.op o) is ∙ may
    asked dev r (Some between) e is may = cc

    go : (s : Step) (o : Option OpenRequest) → request_here v req ≡ o → is_inject s && may_take_of t.setup.now t.me v req s (request_here v req) ≡ true → decision_of t links req s o ≡ None → ⊥
    go (steps_of.Inject dev) (Some r) is h k =
        by dev r (may_ask t links (asked_of req dev r)) (asked dev r links.registry.state.between free is (sym (ap (may_take_of t.setup.now t.me v req (steps_of.Inject dev)) is) ∙ h)) k
    go (steps_of.Inject dev) None is h k = let clash = sym (ap (may_take_of t.setup.now t.me v req (steps_of.Inject dev)) is) ∙ h in cc
    go (steps_of.Abort cause) o is h k = cc
    go (steps_of.Complete status) o is h k = cc
    go steps_of.Cut o is h k = cc
    go steps_of.Hold o is h k = cc
    go (steps_of.Limit d) o is h k = cc
    go steps_of.Pend o is h k = cc
    go steps_of.Wait o is h k = cc
