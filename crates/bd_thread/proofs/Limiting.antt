-- Tick and Let, by the local rules; and what a thread waits for with the lines of its limited devices.
use Rattle.std.proofs.Common.{◌≡◌, ◌⊎◌, inl, inr, ℕ, ◌+◌, ◌<◌, ◌≤◌, Bool, true, false, cond, not, ◌&&◌, ◌||◌, ◌==◌, nat_lt, vec_len, List, [], ◌∷◌, length, is_none, is_some, Option, Some, None, refl, sym, ◌∙◌, ap, ap₂, subst, eqb-true, ltb-true, nat_le, arith}
use Rattle.std.proofs.lemmas.Bool.{and_parts, cases_lt}
use Rattle.std.proofs.lemmas.Option.{same_Some, slice_get_within}
use Rattle.bd_base.specs.declared.act.Act.TheVariants as acts
use Rattle.bd_base.specs.declared.act.Token.{Token}
use Rattle.bd_base.specs.declared.act.Token.TheVariants as tokens
use Rattle.bd_base.specs.declared.id.DevId.{DevId}
use Rattle.bd_base.specs.declared.id.ReqId.{ReqId}
use Rattle.bd_base.specs.declared.request.AbortCause.{AbortCause}
use Rattle.bd_base.specs.declared.setup.Setup.{Setup}
use Rattle.bd_flight.specs.declared.next.Step.{Step}
use Rattle.bd_flight.specs.declared.next.Step.TheVariants as steps
use Rattle.bd_flight.specs.Next.{may_take, next_step, step_of}
use Rattle.bd_machine.specs.declared.state.Id.{Id}
use Rattle.bd_machine.specs.declared.state.Id.TheVariants as ids
use Rattle.bd_machine.specs.declared.state.Kept.{Kept}
use Rattle.bd_machine.specs.declared.state.Kept.TheVariants as keeps
use Rattle.bd_machine.specs.declared.state.Limited.{Limited}
use Rattle.bd_machine.specs.declared.state.OpenRequest.{OpenRequest}
use Rattle.bd_machine.specs.declared.state.Part.{Part}
use Rattle.bd_machine.specs.declared.state.Registry.{Registry}
use Rattle.bd_machine.specs.Alone.{held_after}
use Rattle.bd_machine.specs.BlockMap.{home}
use Rattle.bd_machine.specs.Budget.{may_have_passed}
use Rattle.bd_machine.proofs.Acts.{passed as passed_guards}
use Rattle.bd_machine.specs.Messages.{may_go}
use Rattle.bd_machine.specs.Kept.{as_request, edited, request_here}
use Rattle.bd_machine.specs.Limits.{bytes_if_any, charged_by_way, guards_let, guards_tick, is_limit, is_tick_due, left_by, limited_here, passed, seen, starts_left, ticked, waiting_for, way_if_any}
use Rattle.bd_machine.specs.Same.{same_id}
use Rattle.bd_machine.specs.Step.{first_failing}
use Rattle.bd_machine.specs.Table.{change_first}
use Rattle.bd_turns.specs.declared.queue.Message.{Message}
use Rattle.bd_turns.specs.Local.{Local}
use Rattle.bd_links.specs.Queues.{is_full, queues_of}
use Rattle.bd_tokens.specs.Tokens.{here_in}
use Rattle.bd_thread.specs.declared.links.Links.{Links}
use Rattle.bd_thread.specs.declared.thread.Thread.{Thread}
use Rattle.bd_thread.specs.Aborts.{abort_due, Stops}
use Rattle.bd_thread.specs.Acted.{Acted}
use Rattle.bd_steps.specs.Completions.{ending_in}
use Rattle.bd_steps.specs.Naming.{named_in, number_in}
use Rattle.bd_thread.specs.Delays.{hold_due_of, may_release_now, NoFirstRelease}
use Rattle.bd_steps.specs.Resetting.{reset_event}
use Rattle.bd_thread.specs.Calls.{asks_reset, may_ask_freely}
use Rattle.bd_thread.specs.Grace.{NoDue}
use Rattle.bd_thread.specs.Injections.{is_inject}
use Rattle.bd_thread.specs.Walking.{NoVisit}
use Rattle.bd_thread.specs.Limits.{head_of, head_stop, head_stop_of, stop_by, let_due, let_due_of, may_let, may_tick, slices_now, tick_due, tick_due_of, with_id, IsLet, IsTicked, Lets, LetsBy, NoLimit, NoWayOut, Ticks, TicksBy, way_by}
use Rattle.bd_thread.specs.Requests.{KeepsTickets}
use Rattle.bd_thread.specs.Seen.{local, local_at, untaken, view_of}
use Rattle.bd_thread.specs.Sent.{may_put, may_send}
use Rattle.bd_thread.specs.Waits.{is_taken_alone, Idles, IsIdle, NoPiece, NothingToServe, Progresses, StandsBut, StandsOf}
use Rattle.bd_thread.specs.Work.{AsksNothing}
use Rattle.bd_thread.proofs.Alone.{alone_by, alone_same}
use Rattle.bd_thread.proofs.Going.{Steps, steps, acted_still, acted_then, still_shut}
use Rattle.bd_thread.proofs.Idle.{grown, idle_then, more, stops_more}
use Rattle.bd_thread.proofs.Submissions.{acted_into}
use Rattle.bd_thread.proofs.Tickets.{same_tickets}
use Rattle.bd_thread.proofs.Walking.{hold_all, none_is}
use Rattle.bd_thread.proofs.Timing.{tick_fits, time_stays}

-- ---- the first in a line, which a mark aborts

-- what is to be done of it, by its next step
pub head_stop_by : (t : Thread) (links : Links) (dev : DevId) (req : ReqId) (step : Step)
    → head_of (waiting_for t.part dev) ≡ Some req
    → next_step t.setup.now t.me (view_of t links) req ≡ step
    → stop_by req step ≡ head_stop t links dev
head_stop_by t links dev req step head is = ap (stop_by req) (sym is) ∙ sym (ap (head_stop_of t links) head)

-- a step that is no abort stops nothing
pub other_none : (req : ReqId) (step : Step) → ((cause : AbortCause) → step ≡ steps.Abort cause → ⊥) → None ≡ stop_by req step
other_none req (steps.Abort cause) none = absurd (none cause refl)
other_none req (steps.Limit dev) none = refl
other_none req (steps.Inject dev) none = refl
other_none req steps.Pend none = refl
other_none req steps.Cut none = refl
other_none req steps.Hold none = refl
other_none req (steps.Complete status) none = refl
other_none req steps.Wait none = refl

-- it was stopped, so there are more entries
pub stops_progress : (req : ReqId) (cause : AbortCause) (old : Thread) (before : Links) (new : Thread) (after : Links)
    → is_some (abort_due old before req cause) ≡ true
    → Stops req cause old before new after
    → length before.entries < length after.entries
stops_progress req cause old before new after due stops = go (cases_lt (length before.entries) (length after.entries))
  where
    go : (length before.entries < length after.entries) ⊎ (length after.entries ≤ length before.entries) → length before.entries < length after.entries
    go (inl h) = h
    go (inr h) = absurd (stops_more req cause old before new after due stops h)

-- ---- timeslices

-- no guard fails
pub tick_may : (t : Thread) (links : Links) (dev : DevId) (slices : ℕ) → tick_due t links dev ≡ Some slices → first_failing (guards_tick t.setup.now t.me (view_of t links) dev t.time.moment slices) ≡ None
tick_may t links dev slices due = go (limited_here t.part dev) due
  where
    by : (b : Bool) (n : ℕ) → may_tick t links dev n ≡ b → cond b (Some n) None ≡ Some slices → first_failing (guards_tick t.setup.now t.me (view_of t links) dev t.time.moment slices) ≡ None
    by true n m k = subst (λ (s : ℕ). first_failing (guards_tick t.setup.now t.me (view_of t links) dev t.time.moment s) ≡ None) (same_Some n slices k) (none_is _ m)
    by false n m k = cc

    go : (o : Option Limited) → tick_due_of t links dev o ≡ Some slices → first_failing (guards_tick t.setup.now t.me (view_of t links) dev t.time.moment slices) ≡ None
    go None k = cc
    go (Some l) k = by (may_tick t links dev (slices_now t l)) (slices_now t l) refl k

-- whether they are due, by the guard
pub tick_by : (t : Thread) (links : Links) (dev : DevId) (l : Limited) (slices : ℕ) (failing : Option ℕ)
    → limited_here t.part dev ≡ Some l
    → slices ≡ slices_now t l
    → failing ≡ first_failing (guards_tick t.setup.now t.me (view_of t links) dev t.time.moment slices)
    → cond (is_none failing) (Some slices) None ≡ tick_due t links dev
tick_by t links dev l slices failing here is fails =
    ap (λ (o : Option ℕ). cond (is_none o) (Some slices) None) fails
    ∙ ap (λ (n : ℕ). cond (may_tick t links dev n) (Some n) None) is
    ∙ sym (ap (tick_due_of t links dev) here)

module _ (setup : Setup) (me : ℕ) (part : Part) (here : Id → Option Kept) (registry : Registry) (shut : Bool) (stamp : ℕ) (queues : ℕ → List Message) where
  abbrev old : Local
  old = local_at me part here registry shut stamp queues

  tick_steps : (dev : DevId) (now slices : ℕ)
      → first_failing (guards_tick setup me old.view dev now slices) ≡ None
      → Steps setup me old (acts.Tick dev now slices)
      (local_at me (untaken (record part { limited = change_first (is_limit dev) (ticked setup part.moments now slices) part.limited; moments = seen now part.moments })) here registry shut (stamp + 1) queues)
  tick_steps dev now slices passes =
      let after : Bool → Local = λ b. local_at me (untaken (record part { limited = change_first (is_limit dev) (ticked setup part.moments now slices) part.limited; moments = seen now part.moments })) here registry b (stamp + 1) queues in
      steps setup me old (after shut) (acts.Tick dev now slices) refl refl
      (hold_all (guards_tick setup me old.view dev now slices) passes)
      (ap after (still_shut shut))

  let_steps : (req : ReqId) (dev : DevId) (now : ℕ) (r : OpenRequest)
      → as_request (here (ids.Request req)) ≡ Some r
      → first_failing (guards_let setup me old.view req dev now) ≡ None
      → Steps setup me old (acts.Let req dev now)
      (local_at me (untaken (record part { limited = change_first (is_limit dev) (λ l. left_by req (charged_by_way setup dev (bytes_if_any setup (Some r)) (way_if_any (Some r)) l)) part.limited; moments = seen now part.moments }))
      (λ j. cond (same_id (ids.Request req) j) (Some (keeps.Request (passed r))) (here j)) registry shut (stamp + 1) queues)
  let_steps req dev now r is passes =
      let after : Bool → Option OpenRequest → Local = λ b o. local_at me (untaken (record part { limited = change_first (is_limit dev) (λ l. left_by req (charged_by_way setup dev (bytes_if_any setup o) (way_if_any o) l)) part.limited; moments = seen now part.moments }))
      (held_after (edited req passed o) here) registry b (stamp + 1) queues in
      steps setup me old (after shut (Some r)) (acts.Let req dev now) refl refl
      (hold_all (guards_let setup me old.view req dev now) passes)
      (ap₂ after (still_shut shut) is)

-- some passed that weren't told, of a device that is limited here
record TicksSome (t : Thread) (dev : DevId) (slices : ℕ) : Type 0 where
  row : Limited
  here : limited_here t.part dev ≡ Some row
  is : slices ≡ slices_now t row
  some : 0 < slices

ticks_some : (t : Thread) (links : Links) (dev : DevId) (slices : ℕ) → tick_due t links dev ≡ Some slices → TicksSome t dev slices
ticks_some t links dev slices due =
    let g = (passed_guards (guards_tick t.setup.now t.me (view_of t links) dev t.time.moment slices) (tick_may t links dev slices due)).0 in
    go (limited_here t.part dev) refl due (and_parts ((home t.setup.now dev == t.me) && nat_le t.part.moments.last t.time.moment) (is_tick_due t.part.moments t.time.moment slices (limited_here t.part dev)) g).1
  where
    by : (l : Limited) (b : Bool) → cond b (Some (slices_now t l)) None ≡ Some slices → slices ≡ slices_now t l
    by l true k = sym (same_Some (slices_now t l) slices k)
    by l false k = cc

    go : (o : Option Limited) → limited_here t.part dev ≡ o → tick_due_of t links dev o ≡ Some slices → is_tick_due t.part.moments t.time.moment slices o ≡ true → TicksSome t dev slices
    go None here k m = cc
    go (Some l) here k m =
        let some = (and_parts (nat_lt 0 slices && nat_lt 0 (length l.waiting)) (may_have_passed t.time.moment (l.slices + slices) (starts_left t.part.moments t.time.moment l.starts)) m).0 in
        record { row = l; here = here; is = by l (may_tick t links dev (slices_now t l)) k; some = ltb-true 0 slices (and_parts (nat_lt 0 slices) (nat_lt 0 (length l.waiting)) some).0 }

pub ticked_acted : (old : Thread) (before : Links) (new : Thread) (after : Links) (dev : DevId) (slices : ℕ)
    → tick_due old before dev ≡ Some slices
    → IsTicked dev slices old before new after
    → Acted old before new after
ticked_acted old before new after dev slices due is =
    let told = ticks_some old before dev slices due in
    acted_into old before new after (acts.Tick dev old.time.moment slices) _ (here_in old.held.items)
    (ap (λ (t : Thread). t.me) is.thread) (ap (λ (t : Thread). t.setup) is.thread) (ap (λ (t : Thread). t.part) is.thread) (ap (λ (t : Thread). here_in t.held.items) is.thread) is.links
    (tick_steps old.setup.now old.me old.part (here_in old.held.items) before.registry.state before.shut (length before.entries) (queues_of before.queues.items) dev old.time.moment slices (tick_may old before dev slices due)) refl
    (record { time = time_stays old.time new.time (ap (λ (t : Thread). t.time) is.thread); named = refl; held = tt; fits = tick_fits old dev slices told.row told.here told.is told.some })

pub ticked_tickets : (old : Thread) (before : Links) (new : Thread) (after : Links) (dev : DevId) (slices : ℕ)
    → IsTicked dev slices old before new after
    → KeepsTickets old
    → KeepsTickets new
ticked_tickets old before new after dev slices is keeps =
    same_tickets old new (ap (λ (t : Thread). t.purse.ids) is.thread) (ap (λ (t : Thread). t.part.requests) is.thread) (ap (λ (t : Thread). t.part.next_request) is.thread) keeps

-- where none are to be told, nothing changes
pub not_ticked : (old : Thread) (before : Links) (dev : DevId) → tick_due old before dev ≡ None → Ticks dev old before old before false
not_ticked old before dev none = subst (TicksBy dev old before old before false) (sym none) (refl, refl, refl)

-- where some are, they are told
pub ticks_so : (old : Thread) (before : Links) (new : Thread) (after : Links) (dev : DevId) (slices : ℕ)
    → tick_due old before dev ≡ Some slices
    → IsTicked dev slices old before new after
    → Ticks dev old before new after true
ticks_so old before new after dev slices due is = subst (TicksBy dev old before new after true) (sym due) (refl, is)

-- ---- a request that passes

-- it is the first in line, here, and no guard fails
pub record MayPass (t : Thread) (links : Links) (dev : DevId) (req : ReqId) (r : OpenRequest) : Type 0 where
  pub here : request_here (view_of t links) req ≡ Some r
  pub passes : first_failing (guards_let t.setup.now t.me (view_of t links) req dev t.time.moment) ≡ None

abbrev pass_of : ReqId → OpenRequest → Option (ReqId × OpenRequest)
pass_of req r = Some (req, r)

pub let_may : (t : Thread) (links : Links) (dev : DevId) (req : ReqId) (r : OpenRequest) → let_due t links dev ≡ Some (req, r) → MayPass t links dev req r
let_may t links dev req r due = go (head_of (waiting_for t.part dev)) due
  where
    same : (q : ReqId) (x : OpenRequest) → pass_of q x ≡ pass_of req r → (q ≡ req) × (x ≡ r)
    same q x e =
        let given : ReqId × OpenRequest = (q, x) in
        let wanted : ReqId × OpenRequest = (req, r) in
        let pairs : given ≡ wanted = same_Some given wanted e in
        (ap (λ (p : ReqId × OpenRequest). p.0) pairs, ap (λ (p : ReqId × OpenRequest). p.1) pairs)

    found : (q : ReqId) (o : Option OpenRequest) → request_here (view_of t links) q ≡ o → may_let t links q dev ≡ true → with_id q o ≡ pass_of req r → MayPass t links dev req r
    found q None is m k = cc
    found q (Some x) is m k =
        let both = same q x k in
        record {
          here = subst (λ (i : ReqId). request_here (view_of t links) i ≡ Some r) both.0 (is ∙ ap Some both.1);
          passes = subst (λ (i : ReqId). first_failing (guards_let t.setup.now t.me (view_of t links) i dev t.time.moment) ≡ None) both.0 (none_is _ m);
        }

    by : (q : ReqId) (b : Bool) → may_let t links q dev ≡ b → cond b (with_id q (request_here (view_of t links) q)) None ≡ pass_of req r → MayPass t links dev req r
    by q true m k = found q (request_here (view_of t links) q) refl m k
    by q false m k = cc

    go : (o : Option ReqId) → let_due_of t links dev o ≡ pass_of req r → MayPass t links dev req r
    go None k = cc
    go (Some q) k = by q (may_let t links q dev) refl k

-- whether it may pass, by the guard
pub let_by : (t : Thread) (links : Links) (dev : DevId) (req : ReqId) (o : Option OpenRequest) (failing : Option ℕ)
    → head_of (waiting_for t.part dev) ≡ Some req
    → request_here (view_of t links) req ≡ o
    → failing ≡ first_failing (guards_let t.setup.now t.me (view_of t links) req dev t.time.moment)
    → cond (is_none failing) (with_id req o) None ≡ let_due t links dev
let_by t links dev req o failing head here fails =
    ap (λ (f : Option ℕ). cond (is_none f) (with_id req o) None) fails
    ∙ ap (λ (r : Option OpenRequest). cond (may_let t links req dev) (with_id req r) None) (sym here)
    ∙ sym (ap (let_due_of t links dev) head)

pub let_acted : (old : Thread) (before : Links) (new : Thread) (after : Links) (dev : DevId) (req : ReqId) (r : OpenRequest)
    → let_due old before dev ≡ Some (req, r)
    → IsLet dev req r old before new after
    → Acted old before new after
let_acted old before new after dev req r due is =
    let may = let_may old before dev req r due in
    acted_into old before new after (acts.Let req dev old.time.moment) _ _
    (ap (λ (t : Thread). t.me) is.thread) (ap (λ (t : Thread). t.setup) is.thread) (ap (λ (t : Thread). t.part) is.thread) is.held is.links
    (let_steps old.setup.now old.me old.part (here_in old.held.items) before.registry.state before.shut (length before.entries) (queues_of before.queues.items) req dev old.time.moment r may.here may.passes) refl
    (record { time = time_stays old.time new.time (ap (λ (t : Thread). t.time) is.thread); named = refl; held = tt; fits = λ dev. tt })

pub let_tickets : (old : Thread) (before : Links) (new : Thread) (after : Links) (dev : DevId) (req : ReqId) (r : OpenRequest)
    → IsLet dev req r old before new after
    → KeepsTickets old
    → KeepsTickets new
let_tickets old before new after dev req r is keeps =
    same_tickets old new (ap (λ (t : Thread). t.purse.ids) is.thread) (ap (λ (t : Thread). t.part.requests) is.thread) (ap (λ (t : Thread). t.part.next_request) is.thread) keeps

-- where the first in line may not pass, nothing changes
pub not_let : (old : Thread) (before : Links) (dev : DevId) → let_due old before dev ≡ None → Lets dev old before old before false
not_let old before dev none = subst (LetsBy dev old before old before false) (sym none) (refl, refl, refl)

-- where it may, it does
pub lets_so : (old : Thread) (before : Links) (new : Thread) (after : Links) (dev : DevId) (req : ReqId) (r : OpenRequest)
    → let_due old before dev ≡ Some (req, r)
    → IsLet dev req r old before new after
    → Lets dev old before new after true
lets_so old before new after dev req r due is = subst (LetsBy dev old before new after true) (sym due) (refl, is)

-- ---- what adds no entry

true_false : {Q : Type 0} → true ≡ false → Q
true_false e = cc

pub ticks_idle : (dev : DevId) (old : Thread) (before : Links) (new : Thread) (after : Links) (done : Bool) → Ticks dev old before new after done → Idles (λ t links. tick_due t links dev ≡ None) old before new after
ticks_idle dev old before new after done h few = go (tick_due old before dev) refl h
  where
    go : (o : Option ℕ) → tick_due old before dev ≡ o → TicksBy dev old before new after done o → IsIdle (λ t links. tick_due t links dev ≡ None) old before new after
    go None e k = record { thread = k.1; links = k.2; waits = e }
    go (Some slices) e k = absurd (more old.me before after (acts.Tick dev old.time.moment slices) (ap (λ (l : Links). l.entries) k.1.links) few)

pub lets_idle : (dev : DevId) (old : Thread) (before : Links) (new : Thread) (after : Links) (done : Bool) → Lets dev old before new after done → Idles (λ t links. let_due t links dev ≡ None) old before new after
lets_idle dev old before new after done h few = go (let_due old before dev) refl h
  where
    go : (o : Option (ReqId × OpenRequest)) → let_due old before dev ≡ o → LetsBy dev old before new after done o → IsIdle (λ t links. let_due t links dev ≡ None) old before new after
    go None e k = record { thread = k.1; links = k.2; waits = e }
    go (Some due) e k = absurd (more old.me before after (acts.Let due.0 dev old.time.moment) (ap (λ (l : Links). l.entries) k.1.links) few)

-- timeslices were told, so there is one entry more
pub ticks_more : (dev : DevId) (old : Thread) (before : Links) (new : Thread) (after : Links) → Ticks dev old before new after true → length after.entries ≤ length before.entries → ⊥
ticks_more dev old before new after h few = go (tick_due old before dev) h
  where
    go : (o : Option ℕ) → TicksBy dev old before new after true o → ⊥
    go None k = true_false k.0
    go (Some slices) k = more old.me before after (acts.Tick dev old.time.moment slices) (ap (λ (l : Links). l.entries) k.1.links) few

-- something was added before, and then timeslices were told
pub tick_then : (dev : DevId) (o : Thread) (a : Links) (m : Thread) (b : Links) (n : Thread) (c : Links) → Acted o a m b → Ticks dev m b n c true → length c.entries ≤ length a.entries → ⊥
tick_then dev o a m b n c acted h few = ticks_more dev m b n c h (omega (arith, few, grown o a m b acted))

pub ticks_alone : (dev : DevId) (o : Thread) (a : Links) (n : Thread) (c : Links) (done : Bool) → Ticks dev o a n c done → AsksNothing a c
ticks_alone dev o a n c done h = go (tick_due o a dev) h
  where
    go : (due : Option ℕ) → TicksBy dev o a n c done due → AsksNothing a c
    go None k = alone_same a c k.2
    go (Some slices) k = alone_by o.me a c (acts.Tick dev o.time.moment slices) refl k.1.links

pub lets_alone : (dev : DevId) (o : Thread) (a : Links) (n : Thread) (c : Links) (done : Bool) → Lets dev o a n c done → AsksNothing a c
lets_alone dev o a n c done h = go (let_due o a dev) h
  where
    go : (due : Option (ReqId × OpenRequest)) → LetsBy dev o a n c done due → AsksNothing a c
    go None k = alone_same a c k.2
    go (Some due) k = alone_by o.me a c (acts.Let due.0 dev o.time.moment) refl k.1.links

-- what progressed, or where nothing changed and the thread waits
pub progress_idle : {P : Thread → Links → Type 0} (old : Thread) (before : Links) (new : Thread) (after : Links) (made : Bool) → Progresses P old before new after made → Idles P old before new after
progress_idle old before new after true h few = absurd (omega (arith, h, few))
progress_idle old before new after false h few = h

pub progress_more : (P : Thread → Links → Type 0) (old : Thread) (before : Links) (new : Thread) (after : Links) → Progresses P old before new after true → length after.entries ≤ length before.entries → ⊥
progress_more P old before new after h few = omega (arith, h, few)

-- ---- the lines of a thread

-- after the pieces of its stores a thread makes marks hard, serves its lines, releases what it holds, and then tries the walks that are here
pub then_served : (o : Thread) (a : Links) (h : Thread) (f : Links) (m : Thread) (b : Links) (p : Thread) (d : Links) (q : Thread) (e : Links) (n : Thread) (c : Links)
    → Acted o a h f
    → Acted h f m b
    → Acted m b p d
    → Acted p d q e
    → Acted q e n c
    → Idles NoPiece o a h f
    → Idles NoDue h f m b
    → Idles NoLimit m b p d
    → Idles NoFirstRelease p d q e
    → Idles NoVisit q e n c
    → Idles NothingToServe o a n c
then_served o a h f m b p d q e n c begun first next after last piece mark limit release walk =
    let served = acted_then o a h f m b begun first in
    let both = acted_then o a m b p d served next in
    let hardened : Idles (λ t links. NoPiece t links × NoDue t links) o a m b =
    idle_then {P = NoPiece} {Q = NoDue} {R = λ t links. NoPiece t links × NoDue t links} o a h f m b begun first (λ none none_due. (none, none_due)) piece mark in
    let limited : Idles (λ t links. NoPiece t links × NoDue t links × NoLimit t links) o a p d =
    idle_then {P = λ t links. NoPiece t links × NoDue t links} {Q = NoLimit} {R = λ t links. NoPiece t links × NoDue t links × NoLimit t links} o a m b p d served next
    (λ none none_on. (none.0, none.1, none_on)) hardened limit in
    let released : Idles (λ t links. NoPiece t links × NoDue t links × NoLimit t links) o a q e =
    idle_then {P = λ t links. NoPiece t links × NoDue t links × NoLimit t links} {Q = NoFirstRelease} {R = λ t links. NoPiece t links × NoDue t links × NoLimit t links} o a p d q e both after
    (λ none none_first. none) limited release in
    idle_then {P = λ t links. NoPiece t links × NoDue t links × NoLimit t links} {Q = NoVisit} {R = NothingToServe} o a q e n c (acted_then o a p d q e both after) last
    (λ none none_visits. record { piece = none.0; mark = none.1; limit = none.2; walk = none_visits }) released walk

-- ---- a request that goes to a limited device's home

and_false : (b : Bool) → b && false ≡ false
and_false true = refl
and_false false = refl

-- a step that goes to none has no way there
pub no_way : (req : ReqId) (step : Step) (t : Thread) (links : Links) → ((dev : DevId) → step ≡ steps.Limit dev → ⊥) → NoWayOut req step t links
no_way req (steps.Limit dev) t links none = absurd (none dev refl)
no_way req (steps.Inject dev) t links none = and_false (length t.outbox.items == 0)
no_way req steps.Pend t links none = and_false (length t.outbox.items == 0)
no_way req steps.Cut t links none = and_false (length t.outbox.items == 0)
no_way req steps.Hold t links none = and_false (length t.outbox.items == 0)
no_way req (steps.Abort cause) t links none = and_false (length t.outbox.items == 0)
no_way req (steps.Complete status) t links none = and_false (length t.outbox.items == 0)
no_way req steps.Wait t links none = and_false (length t.outbox.items == 0)

-- something else is still to be put
pub full_way : (req : ReqId) (step : Step) (t : Thread) (links : Links) → (length t.outbox.items == 0) ≡ false → NoWayOut req step t links
full_way req step t links some = ap (λ b. b && may_send t links (way_by t.setup.now req step)) some

-- it may not go there, or there is no room
pub stays_way : (req : ReqId) (dev : DevId) (to : ℕ) (t : Thread) (links : Links)
    → to ≡ home t.setup.now dev
    → may_send t links ((to, tokens.Request req) ∷ []) ≡ false
    → NoWayOut req (steps.Limit dev) t links
stays_way req dev to t links is stays =
    let none : may_send t links ((home t.setup.now dev, tokens.Request req) ∷ []) ≡ false = subst (λ (n : ℕ). may_send t links ((n, tokens.Request req) ∷ []) ≡ false) is stays in
    ap (λ b. (length t.outbox.items == 0) && b) none ∙ and_false (length t.outbox.items == 0)

-- what may be sent may be put
pub put_way : (t : Thread) (links : Links) (to : ℕ) (what : Token) → may_send t links ((to, what) ∷ []) ≡ true → may_put t links to what ≡ true
put_way t links to what may = go (nat_lt to (vec_len links.queues)) (not (is_full links.queues.items to)) (may_go t.setup.now t.me (local t links).view to what) may
  where
    go : (a b c : Bool) → (a && b) && c ≡ true → a && c ≡ true
    go true true c h = h
    go true false c h = cc
    go false b c h = cc

-- a request that was set out: only what is to be put and what is noted changed
pub set_out_acted : (o : Thread) (a : Links) (u : Thread) → u ≡ record o { outbox = u.outbox; calls = u.calls } → Acted o a u a
set_out_acted o a u is = subst (λ (t : Thread). Acted o a t a) (sym is) (acted_still o a (record o { outbox = u.outbox; calls = u.calls }) a refl refl refl refl refl refl refl)

pub set_out_tickets : (o : Thread) (u : Thread) → u ≡ record o { outbox = u.outbox; calls = u.calls } → KeepsTickets o → KeepsTickets u
set_out_tickets o u is keeps = same_tickets o u (ap (λ (t : Thread). t.purse.ids) is) (ap (λ (t : Thread). t.part.requests) is) (ap (λ (t : Thread). t.part.next_request) is) keeps

-- ---- a request that isn't here

-- it can't be carried on, and asks nothing
pub no_request : (req : ReqId) (t : Thread) (links : Links) → request_here (view_of t links) req ≡ None → StandsOf false req t links
no_request req t links none =
    let step-is : next_step t.setup.now t.me (view_of t links) req ≡ steps.Wait = ap (step_of t.setup.now t.me (view_of t links) req) none in
    record {
      none = record {
        step = ap is_taken_alone step-is;
        named = ap (λ (o : Option OpenRequest). named_in t.setup.now t.me (view_of t links) req (number_in o)) none;
        still = record {
          release = ap (λ (o : Option OpenRequest). cond (may_release_now t links req) o None) none ∙ neither (may_release_now t links req);
          hold = ap (hold_due_of t links req) none;
          completion = ap (ending_in t.setup.now t.me (view_of t links) req) none;
        };
        out = subst (λ (s : Step). NoWayOut req s t links) (sym step-is) (and_false (length t.outbox.items == 0));
      };
      asks_is = sym (ap (λ (s : Step). (is_inject s && may_take t.setup.now t.me (view_of t links) req s) || asks_reset t links req) step-is ∙ ap (λ (o : Option OpenRequest). may_ask_freely t links (reset_event t.part req o)) none);
    }
  where
    neither : (b : Bool) → cond b (let o : Option OpenRequest = None in o) None ≡ None
    neither true = refl
    neither false = refl

-- nor where no token of it is here
pub not_here : (req : ReqId) (t : Thread) (links : Links) → is_some (here_in t.held.items (ids.Request req)) ≡ false → StandsOf false req t links
not_here req t links away = no_request req t links (ap as_request (none_some (here_in t.held.items (ids.Request req)) away))
  where
    none_some : {X : Type 0} (o : Option X) → is_some o ≡ false → o ≡ None
    none_some None h = refl
    none_some (Some x) h = cc

-- where no token is here, no request is
none_here : {Where : Thread → Type 0} (t : Thread) (links : Links) → length t.held.items ≡ 0 → StandsBut Where None t links
none_here t links empty = record {
  none = λ looked i o at. (not_here o.id t links (nothing t.held.items (ids.Request o.id) empty)).none;
  finds = λ looked i o at. sym (not_here o.id t links (nothing t.held.items (ids.Request o.id) empty)).asks_is;
}
  where
    nothing : (items : List (Id × Kept)) (id : Id) → length items ≡ 0 → is_some (here_in items id) ≡ false
    nothing [] id e = refl
    nothing (x ∷ xs) id e = absurd (omega (arith, e))

-- where no request is open, none can be carried on
none_open : {Where : Thread → Type 0} (t : Thread) (links : Links) → length t.part.requests ≡ 0 → StandsBut Where None t links
none_open t links empty = record {
  none = λ looked i o at. absurd (omega (arith, empty, slice_get_within t.part.requests i o at));
  finds = λ looked i o at. absurd (omega (arith, empty, slice_get_within t.part.requests i o at));
}

-- the same where one of both is so
pub bare_stands : {Where : Thread → Type 0} (t : Thread) (links : Links) → (length t.part.requests == 0) || (length t.held.items == 0) ≡ true → StandsBut Where None t links
bare_stands {Where} t links bare = go (length t.part.requests == 0) refl bare
  where
    go : (b : Bool) → (length t.part.requests == 0) ≡ b → b || (length t.held.items == 0) ≡ true → StandsBut Where None t links
    go true is h = none_open t links (eqb-true (length t.part.requests) 0 is)
    go false is h = none_here t links (eqb-true (length t.held.items) 0 h)
