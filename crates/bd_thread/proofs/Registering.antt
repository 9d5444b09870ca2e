-- An event of the registry, by the local rules.
use Rattle.std.proofs.Common.{◌≡◌, ℕ, ◌+◌, Bool, true, false, cond, ◌&&◌, ◌==◌, nat_eq, List, [], ◌∷◌, length, Option, Some, None, IfSome, refl, sym, ◌∙◌, ap, subst, eq-eqb}
use Rattle.std.specs.Bool.{beq}
use Rattle.std.specs.Cmp.Lexicographic.{pointwise}
use Rattle.std.proofs.lemmas.Bool.{and_from, and_parts}
use Rattle.bd_base.specs.Errno.{number_of}
use Rattle.bd_base.specs.Name.{same_name}
use Rattle.bd_base.specs.declared.act.Act.{Act}
use Rattle.bd_base.specs.declared.act.Act.TheVariants as acts
use Rattle.bd_base.specs.declared.event.Answer.{Answer}
use Rattle.bd_base.specs.declared.event.Answer.TheVariants as answers
use Rattle.bd_base.specs.declared.event.ClaimKind.{ClaimKind}
use Rattle.bd_base.specs.declared.event.Dropped.{Dropped}
use Rattle.bd_base.specs.declared.event.Dropped.TheVariants as dropped
use Rattle.bd_base.specs.declared.event.RegEvent.{RegEvent}
use Rattle.bd_base.specs.declared.event.RegEvent.TheVariants as events
use Rattle.bd_base.specs.declared.id.DevId.{DevId}
use Rattle.bd_base.specs.declared.id.HandleId.{HandleId}
use Rattle.bd_base.specs.declared.id.ReqId.{ReqId}
use Rattle.bd_base.specs.declared.id.ThreadId.{ThreadId}
use Rattle.bd_base.specs.declared.job.Job.{Job}
use Rattle.bd_base.specs.declared.job.Job.TheVariants as jobs
use Rattle.bd_base.specs.declared.request.Decision.{Decision}
use Rattle.bd_base.specs.declared.request.Decision.TheVariants as decisions
use Rattle.bd_base.specs.declared.setup.Setup.{Setup}
use Rattle.bd_base.specs.declared.thread_set.ThreadSet.{ThreadSet}
use Rattle.bd_machine.specs.declared.state.Between.{Between}
use Rattle.bd_machine.specs.declared.state.Between.TheVariants.{Opening, Closing}
use Rattle.bd_machine.specs.declared.state.Handle.{Handle}
use Rattle.bd_machine.specs.declared.state.Id.{Id}
use Rattle.bd_machine.specs.declared.state.Kept.{Kept}
use Rattle.bd_machine.specs.declared.state.Part.{Part}
use Rattle.bd_machine.specs.declared.state.Registry.{Registry}
use Rattle.bd_machine.specs.Alone.{held_after}
use Rattle.bd_machine.specs.Asked.{asks_between, asks_event, bound_to}
use Rattle.bd_machine.specs.Changes.{between_after, registry_after}
use Rattle.bd_machine.specs.Events.{change_reg}
use Rattle.bd_machine.specs.Guards.{prior_by}
use Rattle.bd_steps.specs.Resetting.{is_asked_alone}
use Rattle.bd_machine.specs.Registry.{answer_to}
use Rattle.bd_machine.specs.Same.{same_answer, same_dev, same_dropped, same_decision, same_holder, same_if_any, same_next_reset}
use Rattle.bd_machine.specs.View.{Came, Change, Move, View}
use Rattle.bd_machine.proofs.Parts.{Core, reg_grows}
use Rattle.bd_rule_view.specs.Came.{came_between, came_shut}
use Rattle.bd_turns.specs.declared.queue.Message.{Message}
use Rattle.bd_turns.specs.Local.{Local, came_local}
use Rattle.bd_links.specs.Entries.{longer}
use Rattle.bd_links.specs.Queues.{queues_of}
use Rattle.bd_tokens.specs.Tokens.{here_in}
use Rattle.bd_thread.specs.declared.links.Links.{Links}
use Rattle.bd_thread.specs.declared.thread.Thread.{Thread}
use Rattle.bd_thread.specs.Acted.{Acted}
use Rattle.bd_steps.specs.Following.{close_due, get_due}
use Rattle.bd_thread.specs.Lines.{answered, asked_registry, change_by, change_of, claim_if_bound, claim_of, close_asked, close_of, handle_if_any, if_asked, if_closable, job_now, may_ask, may_ask_after, may_close, open_of, AsksBy, IsAnswered, IsFollowed, OpensBy}
use Rattle.bd_thread.specs.Requests.{KeepsTickets}
use Rattle.bd_thread.specs.Seen.{local, local_at, untaken, view_of}
use Rattle.bd_links.proofs.Longer.{length-longer}
use Rattle.bd_thread.proofs.Going.{Steps, channels_own, handles_own, local_eq, not_built, steps, still_shut, acted_step}
use Rattle.bd_thread.proofs.Tickets.{same_tickets}
use Rattle.bd_thread.proofs.Timing.{untimed}

-- ---- an answer is the same as itself

pub name_self : (xs : List ℕ) → same_name xs xs ≡ true
name_self [] = refl
name_self (x ∷ xs) = and_from (nat_eq x x) (pointwise nat_eq xs xs) (eq-eqb x x refl) (name_self xs)

flag_self : (b : Bool) → beq b b ≡ true
flag_self true = refl
flag_self false = refl

if_any_self : {X : Type 0} (same : X → X → Bool) → ((x : X) → same x x ≡ true) → (o : Option X) → same_if_any same o o ≡ true
if_any_self same self None = refl
if_any_self same self (Some x) = self x

all_self : {X : Type 0} (same : X → X → Bool) → ((x : X) → same x x ≡ true) → (xs : List X) → pointwise same xs xs ≡ true
all_self same self [] = refl
all_self same self (x ∷ xs) = and_from (same x x) (pointwise same xs xs) (self x) (all_self same self xs)

dev_self : (d : DevId) → same_dev d d ≡ true
dev_self d = eq-eqb d.0 d.0 refl

holder_self : (x : HandleId × ThreadId) → same_holder x x ≡ true
holder_self x = and_from (x.0.0 == x.0.0) (x.1.0 == x.1.0) (eq-eqb x.0.0 x.0.0 refl) (eq-eqb x.1.0 x.1.0 refl)

next_self : (x : ReqId × ThreadSet) → same_next_reset x x ≡ true
next_self x =
    and_from ((x.0.thread == x.0.thread) && (x.0.seq == x.0.seq)) (x.1.0 == x.1.0)
    (and_from (x.0.thread == x.0.thread) (x.0.seq == x.0.seq) (eq-eqb x.0.thread x.0.thread refl) (eq-eqb x.0.seq x.0.seq refl)) (eq-eqb x.1.0 x.1.0 refl)

dropped_self : (w : Dropped) → same_dropped w w ≡ true
dropped_self dropped.Kept = refl
dropped_self dropped.Gone = refl
dropped_self dropped.Last = refl

decision_self : (d : Decision) → same_decision d d ≡ true
decision_self decisions.Pass = refl
decision_self decisions.Fail = refl
decision_self decisions.Pend = refl
decision_self decisions.Corrupt = refl

pub answer_self : (a : Answer) → same_answer a a ≡ true
answer_self (answers.Opened h d n) =
    and_from ((h.0 == h.0) && (d.0 == d.0)) (n == n) (and_from (h.0 == h.0) (d.0 == d.0) (eq-eqb h.0 h.0 refl) (eq-eqb d.0 d.0 refl)) (eq-eqb n n refl)
answer_self (answers.Closed d) = if_any_self same_dev dev_self d
answer_self answers.Claimed = refl
answer_self (answers.Got f ds) = and_from (beq f f) (pointwise same_dev ds ds) (flag_self f) (all_self same_dev dev_self ds)
answer_self (answers.PutDown n) = eq-eqb n n refl
answer_self (answers.Dropped w z d) =
    and_from (same_dropped w w && same_if_any same_dev z z) (same_if_any same_dev d d)
    (and_from (same_dropped w w) (same_if_any same_dev z z) (dropped_self w) (if_any_self same_dev dev_self z)) (if_any_self same_dev dev_self d)
answer_self (answers.Removing v ts hs d) =
    and_from (same_dev v v && (ts.0 == ts.0) && pointwise same_holder hs hs) (same_if_any same_dev d d)
    (and_from (same_dev v v && (ts.0 == ts.0)) (pointwise same_holder hs hs)
    (and_from (same_dev v v) (ts.0 == ts.0) (dev_self v) (eq-eqb ts.0 ts.0 refl)) (all_self same_holder holder_self hs))
    (if_any_self same_dev dev_self d)
answer_self (answers.ResetStarted ts) = eq-eqb ts.0 ts.0 refl
answer_self answers.ResetQueued = refl
answer_self (answers.ResetEnded ts) = eq-eqb ts.0 ts.0 refl
answer_self (answers.ResetFinished n) = if_any_self same_next_reset next_self n
answer_self (answers.Injected d) = decision_self d
answer_self (answers.Freed h) = if_any_self (λ a b. a.0 == b.0) (λ (x : HandleId). eq-eqb x.0 x.0 refl) h
answer_self (answers.Resizing d t) = and_from (same_dev d d) (t.0 == t.0) (dev_self d) (eq-eqb t.0 t.0 refl)
answer_self (answers.Resized hs n d) =
    and_from (pointwise same_holder hs hs && (n == n)) (same_if_any same_dev d d)
    (and_from (pointwise same_holder hs hs) (n == n) (all_self same_holder holder_self hs) (eq-eqb n n refl)) (if_any_self same_dev dev_self d)
answer_self (answers.Refused e) = eq-eqb (number_of e) (number_of e) refl

-- ---- an event that is asked alone

module _ (setup : Setup) (me : ℕ) where
  -- an event is asked by what has to follow and by the Shutdown alone
  asked_between : (v : View) (registry : Registry) (shut : Bool) (answer : Option Answer) (event : RegEvent) (b : Option Between)
      → asks_between setup me v (came_between registry.between shut) event b ≡ asks_between setup me v (record { message = None; answer = answer; between = registry.between; free = false; shut = shut }) event b
  asked_between v registry shut answer event (Some (Opening u dev)) = refl
  asked_between v registry shut answer (events.PutChannel dev true) None = refl
  asked_between v registry shut answer (events.PutChannel dev false) None = refl
  asked_between v registry shut answer _ None = refl
  asked_between v registry shut answer _ (Some (Closing u dev)) = refl

  pub asked_local : (l : Local) (event : RegEvent) (answer : Answer)
      → asks_event setup me l.view (came_between l.shared.registry.between l.shared.shut) event ≡ true
      → asks_event setup me l.view (came_local setup me l (acts.Reg event answer)) event ≡ true
  asked_local l event answer asks =
      sym (asked_between l.view l.shared.registry l.shared.shut (Some (answer_to setup l.shared.registry me event)) event l.shared.registry.between) ∙ asks

  -- it takes no injection, and asks for nothing directly after it
  untaken_by : (v : View) (event : RegEvent) (answer : Answer) → is_asked_alone event ≡ true → prior_by v (acts.Reg event answer) ≡ None
  untaken_by v (events.Open name write) answer built = refl
  untaken_by v (events.Close id) answer built = refl
  untaken_by v (events.Claim id kind) answer built = refl
  untaken_by v (events.GetChannel dev) answer built = refl
  untaken_by v (events.PutChannel dev closing) answer built = refl
  untaken_by v (events.DropChannel dev) answer built = refl
  untaken_by v (events.BeginRemove name) answer built = refl
  untaken_by v (events.Destructed dev) answer built = refl
  untaken_by v (events.BeginReset dev req) answer built = refl
  untaken_by v (events.EndReset dev) answer built = refl
  untaken_by v (events.FinishReset dev) answer built = refl
  untaken_by v (events.BeginResize name blocks) answer built = refl
  untaken_by v (events.EndResize dev) answer built = refl
  untaken_by v (events.TakeInjection dev req op) answer built = not_built built

  -- of what came, what it changes goes by the Shutdown alone
  change_by_shut : (v : View) (came : Came) (event : RegEvent) (answer : Answer) → is_asked_alone event ≡ true
      → change_reg setup me v came event answer ≡ change_reg setup me v (came_shut came.shut) event answer
  change_by_shut v came (events.Open name write) answer built = refl
  change_by_shut v came (events.Close id) answer built = refl
  change_by_shut v came (events.Claim id kind) answer built = refl
  change_by_shut v came (events.GetChannel dev) answer built = refl
  change_by_shut v came (events.PutChannel dev closing) answer built = refl
  change_by_shut v came (events.DropChannel dev) answer built = refl
  change_by_shut v came (events.BeginRemove name) answer built = refl
  change_by_shut v came (events.Destructed dev) answer built = refl
  change_by_shut v came (events.BeginReset dev req) answer built = refl
  change_by_shut v came (events.EndReset dev) answer built = refl
  change_by_shut v came (events.FinishReset dev) answer built = refl
  change_by_shut v came (events.BeginResize name blocks) answer built = refl
  change_by_shut v came (events.EndResize dev) answer built = refl
  change_by_shut v came (events.TakeInjection dev req op) answer built = not_built built

module _ (setup : Setup) (me : ℕ) (part : Part) (here : Id → Option Kept) (registry : Registry) (shut : Bool) (stamp : ℕ) (queues : ℕ → List Message) where
  abbrev old : Local
  old = local_at me part here registry shut stamp queues

  -- an event with the registry's answer, where it is asked
  pub event_steps : (event : RegEvent) (answer : Answer) (here' : Id → Option Kept)
      → is_asked_alone event ≡ true
      → answer_to setup registry me event ≡ answer
      → asks_event setup me old.view (came_between registry.between shut) event ≡ true
      → here' ≡ held_after (change_reg setup me old.view (came_shut shut) event answer).moves here
      → Steps setup me old (acts.Reg event answer)
      (local_at me (untaken (change_reg setup me old.view (came_shut shut) event answer).part) here' (registry_after setup registry me (Some (record { event = event; answer = answer }))) shut (stamp + 1) queues)
  event_steps event answer here' built given asks held =
      let came : Came = came_local setup me old (acts.Reg event answer) in
      let same : change_reg setup me old.view came event answer ≡ change_reg setup me old.view (came_shut shut) event answer = change_by_shut setup me old.view came event answer built in
      steps setup me old
      (local_at me (untaken (change_reg setup me old.view (came_shut shut) event answer).part) here' (registry_after setup registry me (Some (record { event = event; answer = answer }))) shut (stamp + 1) queues)
      (acts.Reg event answer) refl refl
      (ap (λ (a : Answer). same_answer answer a) given ∙ answer_self answer, (asked_local setup me old event answer asks, tt))
      (local_eq _ _
      (ap (λ o. let p : Part = record (change_reg setup me old.view came event answer).part { prior = o } in p) (untaken_by setup me old.view event answer built) ∙ ap (λ (c : Change). untaken c.part) same)
      (ap (λ (c : Change). held_after c.moves here) same ∙ sym held)
      (sym (handles_own me registry.handles event answer))
      (sym (channels_own setup me registry (Some (record { event = event; answer = answer }))))
      refl (still_shut shut) refl refl)

-- the thread that asked goes on
pub asked_acted : (t : Thread) (before : Links) (new : Thread) (after : Links) (event : RegEvent)
    → is_asked_alone event ≡ true
    → may_ask t before event ≡ true
    → IsAnswered event t before new after
    → Acted t before new after
asked_acted t before new after event built asks is =
    let queues = queues_of before.queues.items in
    let here = here_in t.held.items in
    let act : Act = acts.Reg event is.answer in
    let registry : Registry = registry_after t.setup.now before.registry.state t.me (Some (record { event = event; answer = is.answer })) in
    let p : Thread = record t { part = answered t before event is.answer; held = new.held; outbox = new.outbox } in
    let q : Links = record before { registry = asked_registry t before event is.answer; entries = longer t.me before.entries act } in
    let held : here_in new.held.items ≡ held_after (change_by t before event is.answer).moves here = is.held ∙ ap (λ (ms : List Move). held_after ms here) (sym is.begins) in
    let stepped = event_steps t.setup.now t.me t.part here before.registry.state before.shut (length before.entries) queues event is.answer (here_in new.held.items) built is.given asks held in
    let ends : local_at t.me p.part (here_in new.held.items) registry before.shut (length before.entries + 1) queues ≡ local p q =
    ap (λ (n : ℕ). local_at t.me p.part (here_in new.held.items) registry before.shut n queues) (sym (length-longer t.me before.entries act)) in
    subst (λ (n : Thread). Acted t before n after) (sym is.thread)
    (subst (λ (l : Links). Acted t before p l) (sym is.links)
    (acted_step t before p q act refl refl refl refl refl (subst (Steps t.setup.now t.me (local t before) act) ends stepped) refl (untimed act t p refl refl)))

-- open requests and their tickets stay
pub answered_tickets : (t : Thread) (before : Links) (new : Thread) (event : RegEvent) (answer : Answer)
    → new.purse.ids ≡ t.purse.ids
    → new.part ≡ answered t before event answer
    → KeepsTickets t
    → KeepsTickets new
answered_tickets t before new event answer ids part keeps =
    let rest = (reg_grows t.setup.now t.me (view_of t before) (came_shut before.shut) event answer).rest in
    same_tickets t new ids
    (ap (λ (p : Part). p.requests) part ∙ ap (λ (c : Core). c.requests) rest)
    (ap (λ (p : Part). p.next_request) part ∙ ap (λ (c : Core). c.next_request) rest) keeps

-- ---- the same, said exactly

-- an event that may be asked, and was answered
pub asked_by : (t : Thread) (before : Links) (new : Thread) (after : Links) (event : RegEvent) (o : Option RegEvent)
    → o ≡ Some event
    → may_ask t before event ≡ true
    → IsAnswered event t before new after
    → AsksBy t before new after true (if_asked t before o)
asked_by t before new after event o is may h =
    subst (AsksBy t before new after true) (sym (ap (if_asked t before) is ∙ ap (λ b. cond b (Some event) None) may)) (refl, h)

-- an open that may be asked, and was answered and followed by its channel
pub opened_by : (t : Thread) (before : Links) (new : Thread) (after : Links) (event : RegEvent) (o : Option RegEvent)
    → o ≡ Some event
    → may_ask t before event ≡ true
    → IsFollowed event get_due t before new after
    → OpensBy t before new after true (if_asked t before o)
opened_by t before new after event o is may h =
    subst (OpensBy t before new after true) (sym (ap (if_asked t before) is ∙ ap (λ b. cond b (Some event) None) may)) (refl, h)

unasked_as : (t : Thread) (before : Links) (event : RegEvent) (o : Option RegEvent) → o ≡ Some event → may_ask t before event ≡ false → if_asked t before o ≡ None
unasked_as t before event o is may = ap (if_asked t before) is ∙ ap (λ b. cond b (Some event) None) may

-- an event that may not be asked
pub unasked_by : (t : Thread) (before : Links) (event : RegEvent) (o : Option RegEvent) → o ≡ Some event → may_ask t before event ≡ false → AsksBy t before t before false (if_asked t before o)
unasked_by t before event o is may = subst (AsksBy t before t before false) (sym (unasked_as t before event o is may)) (refl, refl, refl)

pub unopened_by : (t : Thread) (before : Links) (event : RegEvent) (o : Option RegEvent) → o ≡ Some event → may_ask t before event ≡ false → OpensBy t before t before false (if_asked t before o)
unopened_by t before event o is may = subst (OpensBy t before t before false) (sym (unasked_as t before event o is may)) (refl, refl, refl)

-- the open that the line names
pub open_named : (handle dev : List ℕ) (write shut : Bool) (o : Option Job) → shut ≡ false → o ≡ Some (jobs.Open handle dev write) → open_of (cond shut None o) ≡ Some (events.Open dev write)
open_named handle dev write shut o unshut line = ap (λ b. open_of (cond b None o)) unshut ∙ ap open_of line

-- the change of a device that the line names
pub change_named : (event : RegEvent) (shut : Bool) (o : Option Job) → shut ≡ false → change_of o ≡ Some event → change_of (cond shut None o) ≡ Some event
change_named event shut o unshut named = ap (λ b. change_of (cond b None o)) unshut ∙ named

-- the claim that the line names
pub claim_named : (part : Part) (handle : List ℕ) (kind : ClaimKind) (id : HandleId) (shut : Bool) (o : Option Job)
    → shut ≡ false
    → o ≡ Some (jobs.Claim handle kind)
    → bound_to part handle ≡ Some id
    → claim_of part (cond shut None o) ≡ Some (events.Claim id kind)
claim_named part handle kind id shut o unshut line bound = ap (λ b. claim_of part (cond b None o)) unshut ∙ ap (claim_of part) line ∙ ap (claim_if_bound kind) bound

-- ---- what has to follow

-- a channel that has to follow an open may be asked for
pub get_built : (me : ℕ) (between : Option Between) → IfSome (get_due me between) (λ event. is_asked_alone event ≡ true)
get_built me None = tt
get_built me (Some (Closing u dev)) = tt
get_built me (Some (Opening u dev)) = go (u == me)
  where
    go : (b : Bool) → IfSome (cond b (Some (events.GetChannel dev)) None) (λ event. is_asked_alone event ≡ true)
    go true = refl
    go false = tt

pub get_asked : (t : Thread) (links : Links) → IfSome (get_due t.me links.registry.state.between) (λ event. may_ask t links event ≡ true)
get_asked t links = go links.registry.state.between
  where
    go : (between : Option Between) → IfSome (get_due t.me between) (λ event. may_ask_after t links between event ≡ true)
    go None = tt
    go (Some (Closing u dev)) = tt
    go (Some (Opening u dev)) = mine (u == t.me) refl
      where
        mine : (b : Bool) → (u == t.me) ≡ b → IfSome (cond b (Some (events.GetChannel dev)) None) (λ event. may_ask_after t links (Some (Opening u dev)) event ≡ true)
        mine true e = and_from (u == t.me) (same_dev dev dev) e (dev_self dev)
        mine false e = tt

-- a close that has to follow a put may be asked for, where it might after the put
pub close_built : (id : HandleId) (me : ℕ) (between : Option Between) → IfSome (close_due id me between) (λ event. is_asked_alone event ≡ true)
close_built id me None = tt
close_built id me (Some (Opening u dev)) = tt
close_built id me (Some (Closing u dev)) = go (u == me)
  where
    go : (b : Bool) → IfSome (cond b (Some (events.Close id)) None) (λ event. is_asked_alone event ≡ true)
    go true = refl
    go false = tt

pub close_follows : (t : Thread) (before : Links) (new : Thread) (after : Links) (h : Handle)
    → may_close t before h ≡ true
    → IsAnswered (events.PutChannel h.dev true) t before new after
    → IfSome (close_due h.id new.me after.registry.state.between) (λ event. may_ask new after event ≡ true)
close_follows t before new after h may is =
    let p : Thread = record t { part = answered t before (events.PutChannel h.dev true) is.answer; held = new.held; outbox = new.outbox } in
    subst (λ (n : Thread). IfSome (close_due h.id n.me after.registry.state.between) (λ event. may_ask n after event ≡ true)) (sym is.thread)
    (subst (λ (l : Links). IfSome (close_due h.id t.me l.registry.state.between) (λ event. may_ask p l event ≡ true)) (sym is.links)
    (go is.answer))
  where
    go : (answer : Answer) → let n : Thread = record t { part = answered t before (events.PutChannel h.dev true) answer; held = new.held; outbox = new.outbox } in let l : Links = record before {
      registry = asked_registry t before (events.PutChannel h.dev true) answer;
      entries = longer t.me before.entries (acts.Reg (events.PutChannel h.dev true) answer);
    } in IfSome (close_due h.id t.me (between_after t.me (events.PutChannel h.dev true) answer)) (λ event. may_ask n l event ≡ true)
    go (answers.PutDown left) =
        mine (t.me == t.me) (and_parts (may_ask t before (events.PutChannel h.dev true)) (may_ask_after t before (Some (Closing t.me h.dev)) (events.Close h.id)) may).1
      where
        mine : (b : Bool) → may_ask_after t before (Some (Closing t.me h.dev)) (events.Close h.id) ≡ true
            → IfSome (cond b (Some (events.Close h.id)) None) (λ event. may_ask (record t { part = answered t before (events.PutChannel h.dev true) (answers.PutDown left); held = new.held; outbox = new.outbox }) (record before {
              registry = asked_registry t before (events.PutChannel h.dev true) (answers.PutDown left);
              entries = longer t.me before.entries (acts.Reg (events.PutChannel h.dev true) (answers.PutDown left));
            }) event ≡ true)
        mine true e = e
        mine false e = tt
    go _ = tt

-- the handle that the line closes
pub close_named : (part : Part) (handle : List ℕ) (shut : Bool) (o : Option Job) → shut ≡ false → o ≡ Some (jobs.Close handle) → close_of part (cond shut None o) ≡ bound_to part handle
close_named part handle shut o unshut line = ap (λ b. close_of part (cond b None o)) unshut ∙ ap (close_of part) line

-- what the line closes may be closed
pub closing_may : (t : Thread) (links : Links) (h : Handle) → close_asked t links ≡ Some h → may_close t links h ≡ true
closing_may t links h e = go (handle_if_any (view_of t links).handles (close_of t.part (job_now t links))) e
  where
    some_same : {X : Type 0} {x y : X} → Some x ≡ Some y → x ≡ y
    some_same e = cc

    go : (o : Option Handle) → if_closable t links o ≡ Some h → may_close t links h ≡ true
    go None e = cc
    go (Some x) e = may (may_close t links x) refl e
      where
        may : (b : Bool) → may_close t links x ≡ b → cond b (Some x) None ≡ Some h → may_close t links h ≡ true
        may true k e = subst (λ (y : Handle). may_close t links y ≡ true) (some_same e) k
        may false k e = cc
