-- What adds no entry changes nothing.
use Rattle.std.proofs.Common.{◌≡◌, ◌⊎◌, inl, inr, ℕ, ◌+◌, ◌<◌, ◌≤◌, Bool, true, false, List, [], ◌∷◌, length, is_some, Option, Some, None, Result, Ok, Err, OnOk, IfOk, refl, sym, ◌∙◌, ap, subst, arith, find}
use Rattle.std.proofs.lemmas.Bool.{cases_lt}
use Rattle.std.proofs.lemmas.List.{length-append}
use Rattle.bd_base.specs.declared.act.Act.{Act}
use Rattle.bd_base.specs.declared.setup.Setup.{Setup}
use Rattle.bd_base.specs.declared.act.Act.TheVariants as acts
use Rattle.bd_base.specs.declared.act.Outcome.{Outcome}
use Rattle.bd_base.specs.declared.act.Token.{Token}
use Rattle.bd_base.specs.declared.event.RegEvent.{RegEvent}
use Rattle.bd_base.specs.declared.event.RegEvent.TheVariants as events
use Rattle.bd_base.specs.declared.id.DevId.{DevId}
use Rattle.bd_base.specs.declared.id.ReqId.{ReqId}
use Rattle.bd_base.specs.declared.id.WalkId.{WalkId}
use Rattle.bd_base.specs.declared.request.AbortCause.{AbortCause}
use Rattle.bd_base.specs.declared.request.AbortCause.TheVariants.{Frozen, Removed}
use Rattle.bd_base.specs.declared.request.WalkKind.{WalkKind}
use Rattle.bd_base.specs.declared.request.WalkKind.TheVariants as kinds
use Rattle.bd_machine.specs.declared.state.Between.{Between}
use Rattle.bd_machine.specs.declared.state.Handle.{Handle}
use Rattle.bd_machine.specs.declared.state.Id.{Id}
use Rattle.bd_machine.specs.declared.state.OpenRequest.{OpenRequest}
use Rattle.bd_machine.specs.BlockMap.{is_malloc}
use Rattle.bd_machine.specs.Grace.{may_grace}
use Rattle.bd_machine.specs.Homes.{is_base}
use Rattle.bd_machine.specs.Kept.{request_here}
use Rattle.bd_machine.specs.Messages.{count_at}
use Rattle.bd_machine.specs.Requests.{may_cut}
use Rattle.bd_turns.specs.declared.queue.Message.{Message}
use Rattle.bd_links.specs.Entries.{longer}
use Rattle.bd_links.specs.Queues.{queues_of}
use Rattle.bd_steps.specs.declared.completion.Ending.{Ending}
use Rattle.bd_thread.specs.declared.links.Links.{Links}
use Rattle.bd_thread.specs.declared.thread.Thread.{Thread}
use Rattle.bd_steps.specs.Stopping.{stoppable}
use Rattle.bd_thread.specs.Aborts.{abort_due, Stops, StopsAll, StopsBy, StopsEach, Then}
use Rattle.bd_thread.specs.Acted.{Acted, ActedBy}
use Rattle.bd_steps.specs.Completions.{ending_of}
use Rattle.bd_thread.specs.Completions.{Completes, CompletesBy, MayComplete}
use Rattle.bd_thread.specs.Cuts.{may_cut_now, Cuts, CutsBy}
use Rattle.bd_blocks.specs.Digests.{digest_due}
use Rattle.bd_thread.specs.Destructs.{may_device_go, DestructAdded, Destructs}
use Rattle.bd_thread.specs.Duties.{duty_asked, Discharges}
use Rattle.bd_thread.specs.Growing.{growth_due, Grows, GrowsBy, IsGrown}
use Rattle.bd_thread.specs.Endings.{left_on, removal_due, ClosesLeft, RemovesLeft}
use Rattle.bd_steps.specs.Following.{close_due, get_due}
use Rattle.bd_thread.specs.Grace.{grace_until, Graces, GracesBy}
use Rattle.bd_thread.specs.Lines.{change_asked, claim_asked, close_asked, open_asked, outcome_now, AsksBy, ChangesDevice, Claims, Closes, ClosesBy, EndsBy, EndsLine, Follows, IsAnswered, IsFollowed, Opens, OpensBy}
use Rattle.bd_thread.specs.Seen.{view_of}
use Rattle.bd_steps.specs.Sending.{first_brought}
use Rattle.bd_thread.specs.Sent.{may_put, Puts, PutsBy, Takes, TakesBy}
use Rattle.bd_thread.specs.Walking.{StopsFor}
use Rattle.bd_thread.specs.Waits.{Idles, IsIdle, NoDestructOn, NoHandleOn, NoLine, NoMessage, NoRemovalOn, NoSubmission}
use Rattle.bd_links.proofs.Longer.{length-longer}
use Rattle.bd_thread.proofs.Going.{acted_then}

-- ---- entries are only added

pub grown : {may : Setup → Act → Bool} (o : Thread) (a : Links) (n : Thread) (c : Links) → ActedBy may o a n c → length a.entries ≤ length c.entries
grown o a n c h = omega (arith, ap length h.added, length-append a.entries h.entries)

-- one entry was added
pub more : (me : ℕ) (a b : Links) (act : Act) → b.entries ≡ longer me a.entries act → length b.entries ≤ length a.entries → ⊥
more me a b act added few = omega (arith, ap length added, length-longer me a.entries act)

-- one entry was added, and then others maybe
pub more_then : (me : ℕ) (a b : Links) (act : Act) (m : Thread) (n : Thread) (c : Links) → b.entries ≡ longer me a.entries act → Acted m b n c → length c.entries ≤ length a.entries → ⊥
more_then me a b act m n c added h few = omega (arith, ap length added, length-longer me a.entries act, grown m b n c h)

-- ---- steps

pub idle_here : {P : Thread → Links → Type 0} (t : Thread) (a : Links) → P t a → Idles P t a t a
idle_here t a p = λ few. record { thread = refl; links = refl; waits = p }

-- it waits for this, so for that
pub idle_so : {P Q : Thread → Links → Type 0} (o : Thread) (a : Links) (n : Thread) (c : Links) → (P o a → Q o a) → Idles P o a n c → Idles Q o a n c
idle_so o a n c so h = λ few. let i = h few in record { thread = i.thread; links = i.links; waits = so i.waits }

-- one step after the other
pub idle_then : {may : Setup → Act → Bool} {P Q R : Thread → Links → Type 0} (o : Thread) (a : Links) (m : Thread) (b : Links) (n : Thread) (c : Links)
    → ActedBy may o a m b
    → ActedBy may m b n c
    → (P o a → Q o a → R o a)
    → Idles P o a m b
    → Idles Q m b n c
    → Idles R o a n c
idle_then {P = P} {Q = Q} {R = R} o a m b n c g h both f s few =
    let first : IsIdle P o a m b = f (omega (arith, grown m b n c h)) in
    let second : IsIdle Q m b n c = s (omega (arith, grown o a m b g)) in
    record {
      thread = second.thread ∙ first.thread;
      links = second.links ∙ first.links;
      waits = both first.waits (subst (λ (t : Thread). Q t a) first.thread (subst (λ (l : Links). Q m l) first.links second.waits));
    }

-- the last step, which promises something only where nothing was done before
pub idle_last : {may : Setup → Act → Bool} {P Q R : Thread → Links → Type 0} (o : Thread) (a : Links) (m : Thread) (b : Links) (n : Thread) (c : Links)
    → ActedBy may o a m b
    → ActedBy may m b n c
    → (P o a → Q o a → R o a)
    → Idles P o a m b
    → (length a.entries ≡ length b.entries → Idles Q m b n c)
    → Idles R o a n c
idle_last {P = P} {Q = Q} {R = R} o a m b n c g h both f s few =
    idle_then {P = P} {Q = Q} {R = R} o a m b n c g h both f (s (omega (arith, grown o a m b g, grown m b n c h, few))) few

-- one place more than those below it
pub idle_below : {may : Setup → Act → Bool} (P : ℕ → Thread → Links → Type 0) (place : ℕ) (o : Thread) (a : Links) (m : Thread) (b : Links) (n : Thread) (c : Links)
    → ActedBy may o a m b
    → ActedBy may m b n c
    → Idles (λ t links. (k : ℕ) → k < place → P k t links) o a m b
    → Idles (P place) m b n c
    → Idles (λ t links. (k : ℕ) → k < place + 1 → P k t links) o a n c
idle_below P place o a m b n c g h f s =
    idle_then {P = λ t links. (k : ℕ) → k < place → P k t links} {Q = P place} {R = λ t links. (k : ℕ) → k < place + 1 → P k t links} o a m b n c g h (λ below at k less. go below at k less (cases_lt k place)) f s
  where
    go : ((k : ℕ) → k < place → P k o a) → P place o a → (k : ℕ) → k < place + 1 → (k < place) ⊎ (place ≤ k) → P k o a
    go below at k less (inl lower) = below k lower
    go below at k less (inr upper) = let same : place ≡ k = omega (arith, less, upper) in subst (λ (x : ℕ). P x o a) same at

-- ---- the exact clauses of the steps

pub takes_idle : (old : Thread) (before : Links) (new : Thread) (after : Links) (id : Option Id) → Takes old before new after id → Idles NoMessage old before new after
takes_idle old before new after id h few = go (first_brought (queues_of before.queues.items old.me)) refl h
  where
    go : (o : Option Message) → first_brought (queues_of before.queues.items old.me) ≡ o → TakesBy old before new after id o → IsIdle NoMessage old before new after
    go None e k = record { thread = k.1; links = k.2; waits = e }
    go (Some m) e k = absurd (more old.me before after (acts.Took m.sender (count_at old.part.taken m.sender) m.what) (ap (λ (l : Links). l.entries) k.1.links) few)

-- a message was taken, and then what its token brings about
pub received_more : (o : Thread) (a : Links) (m : Thread) (b : Links) (n : Thread) (c : Links) (id : Id) → Takes o a m b (Some id) → Acted m b n c → length c.entries ≤ length a.entries → ⊥
received_more o a m b n c id h acted few = go (first_brought (queues_of a.queues.items o.me)) h
  where
    none_taken : Some id ≡ None → ⊥
    none_taken e = cc

    go : (x : Option Message) → TakesBy o a m b (Some id) x → ⊥
    go None k = none_taken k.0
    go (Some x) k = more_then o.me a b (acts.Took x.sender (count_at o.part.taken x.sender) x.what) m n c (ap (λ (l : Links). l.entries) k.1.links) acted few

-- a request that may be cut is cut
pub cuts_more : (req : ReqId) (old : Thread) (before : Links) (new : Thread) (after : Links) (n : ℕ) → may_cut_now req old before ≡ true → Cuts req old before new after n → length after.entries ≤ length before.entries → ⊥
cuts_more req old before new after n may h few = go (request_here (view_of old before) req) refl (may_cut_now req old before) may h
  where
    none : may_cut_now req old before ≡ true → request_here (view_of old before) req ≡ None → ⊥
    none may is = let uncut = ap (may_cut old.setup.now old.me (view_of old before) req) is in let both = sym may ∙ uncut in cc

    go : (r : Option OpenRequest) → request_here (view_of old before) req ≡ r → (b : Bool) → b ≡ true → CutsBy req n old before new after b r → ⊥
    go (Some r) is true so k = more old.me before after (acts.Cut req n) (ap (λ (l : Links). l.entries) k.links) few
    go None is true so k = none may is
    go (Some r) is false so k = cc
    go None is false so k = cc

pub completion_idle : (req : ReqId) (old : Thread) (before : Links) (new : Thread) (after : Links) (done : Bool) → Completes req old before new after done → Idles (λ t links. ending_of t.setup.now t.me (view_of t links) req ≡ None) old before new after
completion_idle req old before new after done h few = go (ending_of old.setup.now old.me (view_of old before) req) refl h
  where
    go : (o : Option Ending) → ending_of old.setup.now old.me (view_of old before) req ≡ o → CompletesBy req old before new after done o → IsIdle (λ t links. ending_of t.setup.now t.me (view_of t links) req ≡ None) old before new after
    go None e k = record { thread = k.1; links = k.2; waits = e }
    go (Some ending) e k = absurd (more old.me before after (acts.Complete req ending.status k.1.shown) (ap (λ (l : Links). l.entries) k.1.links) few)

pub completes_idle : {P : Thread → Links → Type 0} (req : ReqId) (old : Thread) (before : Links) (new : Thread) (after : Links) (done : Bool) → P old before → Completes req old before new after done → Idles P old before new after
completes_idle {P = P} req old before new after done p h few = go (ending_of old.setup.now old.me (view_of old before) req) h
  where
    go : (o : Option Ending) → CompletesBy req old before new after done o → IsIdle P old before new after
    go None k = record { thread = k.1; links = k.2; waits = p }
    go (Some e) k = absurd (more old.me before after (acts.Complete req e.status k.1.shown) (ap (λ (l : Links). l.entries) k.1.links) few)

-- ---- what a visit stops only adds entries

same_grows : (before after : Links) → after ≡ before → length before.entries ≤ length after.entries
same_grows before after same = omega (arith, ap (λ (l : Links). length l.entries) same)

longer_grows : (me : ℕ) (before after : Links) (act : Act) → after ≡ record before { entries = longer me before.entries act } → length before.entries ≤ length after.entries
longer_grows me before after act is = omega (arith, ap (λ (l : Links). length l.entries) is, length-longer me before.entries act)

pub may_grow : (req : ReqId) (old : Thread) (before : Links) (new : Thread) (after : Links) → MayComplete req old before new after → length before.entries ≤ length after.entries
may_grow req old before new after h = go (ending_of old.setup.now old.me (view_of old before) req) h.completes
  where
    go : (o : Option Ending) → CompletesBy req old before new after h.done o → length before.entries ≤ length after.entries
    go None k = same_grows before after k.2
    go (Some e) k = longer_grows old.me before after (acts.Complete req e.status k.1.shown) k.1.links

stop_grows : (req : ReqId) (cause : AbortCause) (old : Thread) (before : Links) (new : Thread) (after : Links) → Stops req cause old before new after → length before.entries ≤ length after.entries
stop_grows req cause old before new after h = go (abort_due old before req cause) h
  where
    go : (o : Option OpenRequest) → StopsBy req cause old before new after o → length before.entries ≤ length after.entries
    go None k = same_grows before after k.1
    go (Some r) k = omega (arith, longer_grows old.me before k.shared (acts.Abort req cause) k.first.links, may_grow req k.middle k.shared new after k.second)

-- a request that may be aborted is aborted
pub stops_more : (req : ReqId) (cause : AbortCause) (old : Thread) (before : Links) (new : Thread) (after : Links) → is_some (abort_due old before req cause) ≡ true → Stops req cause old before new after → length after.entries ≤ length before.entries → ⊥
stops_more req cause old before new after due h few = go (abort_due old before req cause) due h
  where
    go : (o : Option OpenRequest) → is_some o ≡ true → StopsBy req cause old before new after o → ⊥
    go None d k = cc
    go (Some r) d k = more old.me before k.shared (acts.Abort req cause) (ap (λ (l : Links). l.entries) k.first.links) (omega (arith, few, may_grow req k.middle k.shared new after k.second))

each_grows : (reqs : List ReqId) (cause : AbortCause) (old : Thread) (before : Links) (new : Thread) (after : Links) → StopsEach reqs cause old before new after → length before.entries ≤ length after.entries
each_grows [] cause old before new after h = same_grows before after h.1
each_grows (req ∷ reqs) cause old before new after h = omega (arith, stop_grows req cause old before h.middle h.shared h.first, each_grows reqs cause h.middle h.shared new after h.second)

pub graces_grows : (walk : WalkId) (time : ℕ) (old : Thread) (before : Links) (new : Thread) (after : Links) → Graces walk time old before new after → length before.entries ≤ length after.entries
graces_grows walk time old before new after h = go (may_grace old.part walk (grace_until old time)) h
  where
    go : (b : Bool) → GracesBy walk (grace_until old time) old before new after b → length before.entries ≤ length after.entries
    go false k = same_grows before after k.1
    go true k = longer_grows old.me before after (acts.Grace walk (grace_until old time)) k.links

pub all_grows : (dev : DevId) (cause : AbortCause) (old : Thread) (before : Links) (new : Thread) (after : Links) → StopsAll dev cause old before new after → length before.entries ≤ length after.entries
all_grows dev cause old before new after h = each_grows (stoppable old.setup.now dev old.part) cause old before new after h

pub for_grows : (kind : WalkKind) (dev : DevId) (old : Thread) (before : Links) (new : Thread) (after : Links) → StopsFor kind dev old before new after → length before.entries ≤ length after.entries
for_grows kinds.Removal dev old before new after h = each_grows (stoppable old.setup.now dev old.part) (Removed dev) old before new after h
for_grows kinds.Freeze dev old before new after h = each_grows (stoppable old.setup.now dev old.part) (Frozen dev) old before new after h
for_grows kinds.Drain dev old before new after h = same_grows before after h.1
for_grows kinds.Thaw dev old before new after h = same_grows before after h.1

pub asks_idle : {P : Thread → Links → Type 0} (old : Thread) (before : Links) (new : Thread) (after : Links) (asked : Bool) (o : Option RegEvent) → (o ≡ None → P old before) → AsksBy old before new after asked o → Idles P old before new after
asks_idle old before new after asked None so h few = record { thread = h.1; links = h.2; waits = so refl }
asks_idle old before new after asked (Some event) so h few = absurd (more old.me before after (acts.Reg event h.1.answer) (ap (λ (l : Links). l.entries) h.1.links) few)

-- an event was answered, and then what had to follow
follows_more : (event : RegEvent) (due : ℕ → Option Between → Option RegEvent) (old : Thread) (before : Links) (new : Thread) (after : Links)
    → IsFollowed event due old before new after
    → length after.entries ≤ length before.entries
    → ⊥
follows_more event due old before new after h few = go (due h.middle.me h.shared.registry.state.between) h.followed
  where
    first : h.shared.entries ≡ longer old.me before.entries (acts.Reg event h.answered.answer)
    first = ap (λ (l : Links). l.entries) h.answered.links

    go : (o : Option RegEvent) → Follows h.middle h.shared new after o → ⊥
    go None k = more old.me before after (acts.Reg event h.answered.answer) (ap (λ (l : Links). l.entries) k.1 ∙ first) few
    go (Some next) k =
        let act : Act = acts.Reg event h.answered.answer in
        let then : Act = acts.Reg next k.answer in
        let one = ap length first ∙ length-longer old.me before.entries act in
        let two = ap (λ (l : Links). length l.entries) k.links ∙ length-longer h.middle.me h.shared.entries then in
        omega (arith, one, two)

pub opens_idle : (old : Thread) (before : Links) (new : Thread) (after : Links) (opened : Bool) → Opens old before new after opened → Idles (λ t links. open_asked t links ≡ None) old before new after
opens_idle old before new after opened h few = go (open_asked old before) refl h
  where
    go : (o : Option RegEvent) → open_asked old before ≡ o → OpensBy old before new after opened o → IsIdle (λ t links. open_asked t links ≡ None) old before new after
    go None e k = record { thread = k.1; links = k.2; waits = e }
    go (Some event) e k = absurd (follows_more event get_due old before new after k.1 few)

closes_by_idle : {P : Thread → Links → Type 0} (old : Thread) (before : Links) (new : Thread) (after : Links) (closed : Bool) (o : Option Handle) → (o ≡ None → P old before) → ClosesBy old before new after closed o → Idles P old before new after
closes_by_idle old before new after closed None so h few = record { thread = h.1; links = h.2; waits = so refl }
closes_by_idle old before new after closed (Some x) so h few = absurd (follows_more (events.PutChannel x.dev true) (close_due x.id) old before new after h.1 few)

pub closes_idle : (old : Thread) (before : Links) (new : Thread) (after : Links) (closed : Bool) → Closes old before new after closed → Idles (λ t links. close_asked t links ≡ None) old before new after
closes_idle old before new after closed h = closes_by_idle old before new after closed (close_asked old before) (λ e. e) h

pub claims_idle : (old : Thread) (before : Links) (new : Thread) (after : Links) (claimed : Bool) → Claims old before new after claimed → Idles (λ t links. claim_asked t links ≡ None) old before new after
claims_idle old before new after claimed h = asks_idle old before new after claimed (claim_asked old before) (λ e. e) h

pub changes_idle : (old : Thread) (before : Links) (new : Thread) (after : Links) (changed : Bool) → ChangesDevice old before new after changed → Idles (λ t links. change_asked t links ≡ None) old before new after
changes_idle old before new after changed h = asks_idle old before new after changed (change_asked old before) (λ e. e) h

pub removes_left_idle : (old : Thread) (before : Links) (new : Thread) (after : Links) (dev : DevId) (removed : Bool) → RemovesLeft old before new after dev removed → Idles (NoRemovalOn dev) old before new after
removes_left_idle old before new after dev removed h = asks_idle old before new after removed (removal_due dev old before) (λ e. e) h

pub discharges_idle : (old : Thread) (before : Links) (new : Thread) (after : Links) (asked : Bool) → Discharges old before new after asked → Idles (λ t links. duty_asked t links ≡ None) old before new after
discharges_idle old before new after asked h = asks_idle old before new after asked (duty_asked old before) (λ e. e) h

true_false : true ≡ false → ⊥
true_false e = cc

-- a device grew, and then the end of the resize was answered
grew_more : (dev : DevId) (blocks : ℕ) (old : Thread) (before : Links) (new : Thread) (after : Links)
    → Then (λ t links. IsGrown dev blocks old before t links) (λ t links. IsAnswered (events.EndResize dev) t links new after)
    → length after.entries ≤ length before.entries
    → ⊥
grew_more dev blocks old before new after h few =
    let one = ap (λ (l : Links). length l.entries) h.first.links ∙ length-longer old.me before.entries (acts.Grow dev blocks) in
    let two = ap (λ (l : Links). length l.entries) h.second.links ∙ length-longer h.middle.me h.shared.entries (acts.Reg (events.EndResize dev) h.second.answer) in
    omega (arith, one, two, few)

pub grows_more : (old : Thread) (before : Links) (new : Thread) (after : Links) → Grows old before new after true → length after.entries ≤ length before.entries → ⊥
grows_more old before new after h few = go (growth_due old before) h
  where
    go : (o : Option (DevId × ℕ)) → GrowsBy old before new after true o → ⊥
    go None k = true_false k.0
    go (Some due) k = grew_more due.0 due.1 old before new after k.1 few

pub grows_idle : (old : Thread) (before : Links) (new : Thread) (after : Links) (grew : Bool) → Grows old before new after grew → Idles (λ t links. growth_due t links ≡ None) old before new after
grows_idle old before new after grew h few = go (growth_due old before) refl h
  where
    go : (o : Option (DevId × ℕ)) → growth_due old before ≡ o → GrowsBy old before new after grew o → IsIdle (λ t links. growth_due t links ≡ None) old before new after
    go None e k = record { thread = k.1; links = k.2; waits = e }
    go (Some due) e k = absurd (grew_more due.0 due.1 old before new after k.1 few)

ends_by_idle : {P : Thread → Links → Type 0} (old : Thread) (before : Links) (new : Thread) (after : Links) (ended : Bool) (o : Option Outcome) → (o ≡ None → P old before) → EndsBy old before new after ended o → Idles P old before new after
ends_by_idle old before new after ended None so h few = record { thread = h.1; links = h.2; waits = so refl }
ends_by_idle old before new after ended (Some outcome) so h few = absurd (more old.me before after (acts.Script h.1.line.number outcome) (ap (λ (l : Links). l.entries) h.1.links) few)

pub ends_idle : (old : Thread) (before : Links) (new : Thread) (after : Links) (ended : Bool) → EndsLine old before new after ended → Idles (λ t links. outcome_now t links ≡ None) old before new after
ends_idle old before new after ended h = ends_by_idle old before new after ended (outcome_now old before) (λ e. e) h

-- nothing can be done for the line
pub line_idle : (o : Thread) (a : Links) (p : Thread) (b : Links) (q : Thread) (d : Links) (r : Thread) (e : Links) (u : Thread) (k : Links) (s : Thread) (f : Links) (n : Thread) (g : Links)
    → Acted o a p b
    → Acted p b q d
    → Acted q d r e
    → Acted r e u k
    → Acted u k s f
    → Acted s f n g
    → Idles (λ t links. open_asked t links ≡ None) o a p b
    → Idles (λ t links. close_asked t links ≡ None) p b q d
    → Idles (λ t links. claim_asked t links ≡ None) q d r e
    → Idles (λ t links. change_asked t links ≡ None) r e u k
    → Idles NoSubmission u k s f
    → Idles (λ t links. outcome_now t links ≡ None) s f n g
    → Idles NoLine o a n g
line_idle o a p b q d r e u k s f n g open-acted close-acted claim-acted change-acted submit-acted end-acted opens closes claims changes submits ends =
    let two : Idles (λ t links. (open_asked t links ≡ None) × (close_asked t links ≡ None)) o a q d =
    idle_then o a p b q d open-acted close-acted (λ opening closing. (opening, closing)) opens closes in
    let two-acted = acted_then o a p b q d open-acted close-acted in
    let three : Idles (λ t links. (open_asked t links ≡ None) × (close_asked t links ≡ None) × (claim_asked t links ≡ None)) o a r e =
    idle_then o a q d r e two-acted claim-acted (λ asked claiming. (asked.0, asked.1, claiming)) two claims in
    let three-acted = acted_then o a q d r e two-acted claim-acted in
    let four : Idles (λ t links. (open_asked t links ≡ None) × (close_asked t links ≡ None) × (claim_asked t links ≡ None) × (change_asked t links ≡ None)) o a u k =
    idle_then o a r e u k three-acted change-acted (λ asked changing. (asked.0, asked.1, asked.2, changing)) three changes in
    let four-acted = acted_then o a r e u k three-acted change-acted in
    let five : Idles (λ t links. (open_asked t links ≡ None) × (close_asked t links ≡ None) × (claim_asked t links ≡ None) × (change_asked t links ≡ None) × NoSubmission t links) o a s f =
    idle_then o a u k s f four-acted submit-acted (λ asked submission. (asked.0, asked.1, asked.2, asked.3, submission)) four submits in
    idle_then o a s f n g (acted_then o a u k s f four-acted submit-acted) end-acted
    (λ asked outcome. record { opening = asked.0; closing = asked.1; claiming = asked.2; changing = asked.3; submission = asked.4; outcome = outcome }) five ends

pub leaves_idle : (old : Thread) (before : Links) (new : Thread) (after : Links) (dev : DevId) (closed : Bool) → ClosesLeft old before new after dev closed → Idles (NoHandleOn dev) old before new after
leaves_idle old before new after dev closed h = closes_by_idle old before new after closed (left_on dev old before) (λ e. e) h

pub destructs_idle : (old : Thread) (before : Links) (new : Thread) (after : Links) (dev : DevId) (done : Bool) → Destructs old before new after dev done → Idles (NoDestructOn dev) old before new after
destructs_idle old before new after dev done h few =
    go (may_device_go old before dev) (digest_due (is_malloc old.setup.now dev) (find (is_base dev) old.part.bases)) refl refl h
  where
    go : (may : Bool) (shown : Option (Option (List ℕ)))
        → may_device_go old before dev ≡ may
        → digest_due (is_malloc old.setup.now dev) (find (is_base dev) old.part.bases) ≡ shown
        → DestructAdded old before new after dev done may shown
        → IsIdle (NoDestructOn dev) old before new after
    go true (Some digest) m s k = absurd (more old.me before after (acts.Destruct dev digest) k.1 few)
    go true None m s k = record { thread = k.1.0; links = k.1.1; waits = cc }
    go false (Some digest) m s k = record { thread = k.1.0; links = k.1.1; waits = cc }
    go false None m s k = record { thread = k.1.0; links = k.1.1; waits = cc }

pub puts_idle : {P : Thread → Links → Type 0} (old : Thread) (before : Links) (new : Thread) (after : Links) (to : ℕ) (what : Token) (put : Bool) → (may_put old before to what ≡ false → P old before) → Puts old before new after to what put → Idles P old before new after
puts_idle {P = P} old before new after to what put so h few = go (may_put old before to what) refl h
  where
    go : (may : Bool) → may_put old before to what ≡ may → PutsBy old before new after to what put may → IsIdle P old before new after
    go false e k = record { thread = k.1; links = k.2; waits = so e }
    go true e k = absurd (more old.me before after (acts.Put to (count_at old.part.put to) what) k.1 few)

-- of a last call, whose answer is the function's own
pub both_ok : {T E A Q : Type 0} {P : T → Type 0} (r : Result T E) → (A → (x : T) → P x → Q) → OnOk r A → IfOk r P → OnOk r Q
both_ok (Ok x) f a p = f a x p
both_ok (Err e) f a p = tt

pub all_ok : {T E A B Q : Type 0} (r : Result T E) → (A → B → Q) → OnOk r A → OnOk r B → OnOk r Q
all_ok (Ok x) f a b = f a b
all_ok (Err e) f a b = tt
