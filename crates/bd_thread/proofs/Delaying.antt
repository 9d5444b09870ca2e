-- Hold and Release, by the local rules; and what a request does whose pieces are back.
use Rattle.std.proofs.Common.{◌≡◌, ℕ, ◌+◌, ◌%◌, ◌<◌, ◌≤◌, ◌==◌, Bool, true, false, cond, not, ◌&&◌, List, [], ◌∷◌, length, find, is_none, is_some, max, min, nat_le, unwrap_or, Option, Some, None, refl, sym, ◌∙◌, ap, ap₂, subst, leb-true, arith}
use Rattle.std.proofs.lemmas.List.Sums.{sum_by-le-sum_by}
use Rattle.std.proofs.lemmas.Option.{same_Some}
use Rattle.std.specs.List.{list_all}
use Rattle.bd_base.specs.declared.act.Act.TheVariants as acts
use Rattle.bd_base.specs.declared.device.DevRow.{DevRow}
use Rattle.bd_base.specs.declared.device.Kind.{Kind}
use Rattle.bd_base.specs.declared.device.Kind.TheVariants as kinds
use Rattle.bd_base.specs.declared.id.DevId.{DevId}
use Rattle.bd_base.specs.declared.id.ReqId.{ReqId}
use Rattle.bd_base.specs.declared.request.Way.{Way}
use Rattle.bd_base.specs.declared.request.Way.TheVariants.{Read, Write}
use Rattle.bd_base.specs.declared.request.Status.TheVariants.{Success, Failed, Aborted}
use Rattle.bd_base.specs.declared.setup.Setup.{Setup}
use Rattle.bd_flight.specs.Due.{end_due}
use Rattle.bd_held.specs.declared.held.HeldRequest.{HeldRequest}
use Rattle.bd_held.specs.Holds.{first_hold, HoldKey}
use Rattle.bd_machine.specs.declared.state.Delayed.{Delayed}
use Rattle.bd_machine.specs.declared.state.Id.{Id}
use Rattle.bd_machine.specs.declared.state.Id.TheVariants as ids
use Rattle.bd_machine.specs.declared.state.Kept.{Kept}
use Rattle.bd_machine.specs.declared.state.Kept.TheVariants as keeps
use Rattle.bd_machine.specs.declared.state.OpenRequest.{OpenRequest}
use Rattle.bd_machine.specs.declared.state.Part.{Part}
use Rattle.bd_machine.specs.declared.state.Registry.{Registry}
use Rattle.bd_machine.specs.Alone.{held_after}
use Rattle.bd_machine.specs.declared.guard.TheConstants.{HOLD_OVER, MAY_HOLD}
use Rattle.bd_machine.specs.BlockMap.{below, row_of}
use Rattle.bd_machine.specs.Completion.{is_back, pieces_of}
use Rattle.bd_machine.specs.Delays.{counted, counted_if_any, delayed_of, guards_hold, guards_release, held, is_before, is_delayed, is_hold_over, is_served, last_moment, latency, latency_at, latency_of_kind, latency_of_row, may_hold, may_release, released}
use Rattle.bd_machine.specs.Kept.{as_request, edited, is_at_own, request_here}
use Rattle.bd_machine.specs.Limits.{seen, way_of}
use Rattle.bd_machine.specs.Marks.{times_marked}
use Rattle.bd_machine.specs.Requests.{is_status_due, is_walking}
use Rattle.bd_machine.specs.Same.{same_id}
use Rattle.bd_machine.specs.Step.{first_failing}
use Rattle.bd_machine.specs.View.{View}
use Rattle.bd_machine.specs.Walks.{reset_of}
use Rattle.bd_turns.specs.declared.queue.Message.{Message}
use Rattle.bd_turns.specs.Local.{Local}
use Rattle.bd_links.specs.Queues.{queues_of}
use Rattle.bd_steps.specs.Completions.{ending_in, ending_of, ends_as}
use Rattle.bd_tokens.specs.Tokens.{here_in}
use Rattle.bd_law_held.specs.Held.{held_if, most_at, most_latency, most_of_kind, most_of_row, EndInTime, EndsInTime}
use Rattle.bd_thread.specs.declared.links.Links.{Links}
use Rattle.bd_thread.specs.declared.thread.Thread.{Thread}
use Rattle.bd_thread.specs.Acted.{Acted}
use Rattle.bd_thread.specs.Completions.{MayComplete}
use Rattle.bd_thread.specs.Delays.{hold_due, hold_due_of, is_release_due, may_hold_until, may_release_now, release_due, until_of, EndsHold, EndsHoldBy, Holds, HoldsBy, HoldsOrCompletes, HoldsOrCompletesBy, IsHeld, IsReleased, NoFirstRelease, Releases, ReleasesBy, StandsStill}
use Rattle.bd_thread.specs.Requests.{KeepsTickets}
use Rattle.bd_thread.specs.Resting.{is_own}
use Rattle.bd_thread.specs.Seen.{local_at, untaken, view_of}
use Rattle.bd_thread.specs.Waits.{Idles, IsIdle}
use Rattle.bd_thread.specs.Work.{AsksNothing}
use Rattle.bd_thread.proofs.Alone.{alone_by, alone_same, alone_then, completes_alone}
use Rattle.bd_thread.proofs.Going.{Steps, steps, still_shut}
use Rattle.bd_thread.proofs.Idle.{completion_idle, may_grow, more}
use Rattle.bd_thread.proofs.Submissions.{acted_into}
use Rattle.bd_thread.proofs.Tickets.{same_tickets}
use Rattle.bd_thread.proofs.Walking.{hold_all, none_is}
use Rattle.bd_thread.proofs.Timing.{time_stays}

-- ---- a hold

abbrev held_for_long : OpenRequest → ℕ → Option (OpenRequest × ℕ)
held_for_long r until = Some (r, until)

-- it is here, and no guard fails
pub record MayHold (t : Thread) (links : Links) (req : ReqId) (r : OpenRequest) (until : ℕ) : Type 0 where
  pub here : request_here (view_of t links) req ≡ Some r
  pub until_is : until ≡ until_of t r
  pub passes : first_failing (guards_hold t.setup.now t.me (view_of t links) req until) ≡ None

pub hold_may : (t : Thread) (links : Links) (req : ReqId) (r : OpenRequest) (until : ℕ) → hold_due t links req ≡ Some (r, until) → MayHold t links req r until
hold_may t links req r until due = go (request_here (view_of t links) req) refl due
  where
    same : (x : OpenRequest) (n : ℕ) → held_for_long x n ≡ held_for_long r until → (x ≡ r) × (n ≡ until)
    same x n e =
        let given : OpenRequest × ℕ = (x, n) in
        let wanted : OpenRequest × ℕ = (r, until) in
        let pairs : given ≡ wanted = same_Some given wanted e in
        (ap (λ (p : OpenRequest × ℕ). p.0) pairs, ap (λ (p : OpenRequest × ℕ). p.1) pairs)

    by : (x : OpenRequest) → request_here (view_of t links) req ≡ Some x → (b : Bool) → may_hold_until t links req (until_of t x) ≡ b → cond b (held_for_long x (until_of t x)) None ≡ held_for_long r until → MayHold t links req r until
    by x is false m k = cc
    by x is true m k = record {
      here = is ∙ ap Some (same x (until_of t x) k).0;
      until_is = sym (same x (until_of t x) k).1 ∙ ap (until_of t) (same x (until_of t x) k).0;
      passes = subst (λ n. first_failing (guards_hold t.setup.now t.me (view_of t links) req n) ≡ None) (same x (until_of t x) k).1 (none_is _ m);
    }

    go : (o : Option OpenRequest) → request_here (view_of t links) req ≡ o → hold_due_of t links req o ≡ held_for_long r until → MayHold t links req r until
    go None is k = cc
    go (Some x) is k = by x is (may_hold_until t links req (until_of t x)) refl k

-- whether it is due, by the guard
hold_by : (t : Thread) (links : Links) (req : ReqId) (r : OpenRequest) (b : Bool)
    → request_here (view_of t links) req ≡ Some r
    → may_hold_until t links req (until_of t r) ≡ b
    → hold_due t links req ≡ cond b (held_for_long r (until_of t r)) None
hold_by t links req r b here may = ap (hold_due_of t links req) here ∙ ap (λ x. cond x (held_for_long r (until_of t r)) None) may

-- it is due, where no guard fails
pub hold_is_due : (t : Thread) (links : Links) (req : ReqId) (r : OpenRequest) (until : ℕ)
    → request_here (view_of t links) req ≡ Some r
    → until ≡ until_of t r
    → first_failing (guards_hold t.setup.now t.me (view_of t links) req until) ≡ None
    → held_for_long r until ≡ hold_due t links req
hold_is_due t links req r until here is passes =
    ap (held_for_long r) is ∙ sym (hold_by t links req r true here (subst (λ n. may_hold_until t links req n ≡ true) is (ap is_none passes)))

-- and not, where one fails
pub hold_not_due : (t : Thread) (links : Links) (req : ReqId) (r : OpenRequest) (until guard : ℕ)
    → request_here (view_of t links) req ≡ Some r
    → until ≡ until_of t r
    → first_failing (guards_hold t.setup.now t.me (view_of t links) req until) ≡ Some guard
    → None ≡ hold_due t links req
hold_not_due t links req r until guard here is fails = sym (hold_by t links req r false here (subst (λ n. may_hold_until t links req n ≡ false) is (ap is_none fails)))

-- a request over no delay device is never held
undelayed_never : (setup : Setup) (me : ℕ) (v : View) (req : ReqId) (until : ℕ) (r : OpenRequest) → is_delayed setup r ≡ false → may_hold setup me v req until (Some r) ≡ false
undelayed_never setup me v req until r e = go (is_at_own me req r) (is_delayed setup r) e
  where
    go : (a d : Bool) → d ≡ false
        → (a && d && is_some r.pieces && is_none r.aborted && is_before r.hold && list_all is_back (pieces_of v req r) && is_served (pieces_of v req r)
        && nat_le (min (v.part.moments.last + latency setup v.part r.dev (way_of r.op)) last_moment) until) ≡ false
    go true false e = refl
    go false false e = refl
    go a true e = cc

pub undelayed : (t : Thread) (links : Links) (req : ReqId) (r : OpenRequest) → request_here (view_of t links) req ≡ Some r → is_delayed t.setup.now r ≡ false → None ≡ hold_due t links req
undelayed t links req r here e =
    let v : View = view_of t links in
    let until = until_of t r in
    let never : may_hold t.setup.now t.me v req until (request_here v req) ≡ false = ap (may_hold t.setup.now t.me v req until) here ∙ undelayed_never t.setup.now t.me v req until r e in
    sym (hold_by t links req r false here (ap (λ b. is_none (first_failing ((MAY_HOLD, b) ∷ []))) never))

-- ---- how long it lasts

one_of_two : (b : Bool) (average p99 : ℕ) → cond b p99 average ≤ max average p99
one_of_two true average p99 = omega arith
one_of_two false average p99 = omega arith

kind_most : (kind : Kind) (way : Way) (c : Delayed) → latency_of_kind kind way c ≤ most_of_kind kind way
kind_most (kinds.Delay average_read p99_read average_write p99_write) Read c = one_of_two ((c.reads + 1) % 100 == 0) average_read p99_read
kind_most (kinds.Delay average_read p99_read average_write p99_write) Write c = one_of_two ((c.writes + 1) % 100 == 0) average_write p99_write
kind_most _ way c = omega arith

row_most : (row : Option DevRow) (way : Way) (c : Delayed) → latency_of_row row way c ≤ most_of_row row way
row_most None way c = omega arith
row_most (Some row) way c = kind_most row.kind way c

at_most : (setup : Setup) (part : Part) (way : Way) (dev : DevId) → latency_at setup part way dev ≤ most_at setup way dev
at_most setup part way dev = row_most (row_of setup dev) way (delayed_of part dev)

most : (setup : Setup) (part : Part) (dev : DevId) (way : Option Way) → latency setup part dev way ≤ most_latency setup dev way
most setup part dev None = omega arith
most setup part dev (Some way) = sum_by-le-sum_by (latency_at setup part way) (most_at setup way) (below setup dev) (at_most setup part way)

-- a hold ends in time from the turn's moment on
pub in_time : (t : Thread) (r : OpenRequest) (until : ℕ) → until ≡ until_of t r → EndsInTime t.setup.now t.time.moment (record { dev = r.dev; op = r.op; until = until })
in_time t r until is = below_last t.time.moment (latency t.setup.now t.part r.dev (way_of r.op)) (most_latency t.setup.now r.dev (way_of r.op)) (most t.setup.now t.part r.dev (way_of r.op)) is
  where
    below_last : (moment short long : ℕ) → short ≤ long → until ≡ min (moment + short) last_moment → until ≤ min (moment + long) last_moment
    below_last moment short long le e = omega arith

-- ---- by the local rules

module _ (setup : Setup) (me : ℕ) (part : Part) (here : Id → Option Kept) (registry : Registry) (shut : Bool) (stamp : ℕ) (queues : ℕ → List Message) where
  abbrev old : Local
  old = local_at me part here registry shut stamp queues

  hold_steps : (req : ReqId) (until : ℕ) (r : OpenRequest)
      → as_request (here (ids.Request req)) ≡ Some r
      → first_failing (guards_hold setup me old.view req until) ≡ None
      → Steps setup me old (acts.Hold req until)
      (local_at me (untaken (record part { delayed = counted setup part r.dev (way_of r.op) })) (λ j. cond (same_id (ids.Request req) j) (Some (keeps.Request (held setup part until r))) (here j)) registry shut (stamp + 1) queues)
  hold_steps req until r is passes =
      let after : Bool → Option OpenRequest → Local = λ b o. local_at me (untaken (record part { delayed = counted_if_any setup part o })) (held_after (edited req (held setup part until) o) here) registry b (stamp + 1) queues in
      steps setup me old (after shut (Some r)) (acts.Hold req until) refl refl
      (hold_all (guards_hold setup me old.view req until) passes)
      (ap₂ after (still_shut shut) is)

  release_steps : (req : ReqId) (now : ℕ) (r : OpenRequest)
      → as_request (here (ids.Request req)) ≡ Some r
      → first_failing (guards_release setup me old.view req now) ≡ None
      → Steps setup me old (acts.Release req now)
      (local_at me (untaken (record part { moments = seen now part.moments })) (λ j. cond (same_id (ids.Request req) j) (Some (keeps.Request (released r))) (here j)) registry shut (stamp + 1) queues)
  release_steps req now r is passes =
      let after : Bool → Option OpenRequest → Local = λ b o. local_at me (untaken (record part { moments = seen now part.moments })) (held_after (edited req released o) here) registry b (stamp + 1) queues in
      steps setup me old (after shut (Some r)) (acts.Release req now) refl refl
      (hold_all (guards_release setup me old.view req now) passes)
      (ap₂ after (still_shut shut) is)

pub held_acted : (old : Thread) (before : Links) (new : Thread) (after : Links) (req : ReqId) (r : OpenRequest) (until : ℕ)
    → hold_due old before req ≡ Some (r, until)
    → IsHeld req r until old before new after
    → Acted old before new after
held_acted old before new after req r until due is =
    let may = hold_may old before req r until due in
    acted_into old before new after (acts.Hold req until) _ _
    (ap (λ (t : Thread). t.me) is.thread) (ap (λ (t : Thread). t.setup) is.thread) (ap (λ (t : Thread). t.part) is.thread) is.held is.links
    (hold_steps old.setup.now old.me old.part (here_in old.held.items) before.registry.state before.shut (length before.entries) (queues_of before.queues.items) req until r may.here may.passes) refl
    (record { time = time_stays old.time new.time (ap (λ (t : Thread). t.time) is.thread); named = tt; held = subst (λ (o : Option OpenRequest). EndInTime old.setup.now old.time.moment (held_if until o)) (sym may.here) (in_time old r until may.until_is, tt); fits = λ dev. tt })

pub held_tickets : (old : Thread) (before : Links) (new : Thread) (after : Links) (req : ReqId) (r : OpenRequest) (until : ℕ)
    → IsHeld req r until old before new after
    → KeepsTickets old
    → KeepsTickets new
held_tickets old before new after req r until is keeps =
    same_tickets old new (ap (λ (t : Thread). t.purse.ids) is.thread) (ap (λ (t : Thread). t.part.requests) is.thread) (ap (λ (t : Thread). t.part.next_request) is.thread) keeps

-- where it may not be held, nothing changes
pub not_held : (old : Thread) (before : Links) (req : ReqId) → hold_due old before req ≡ None → Holds req old before old before false
not_held old before req none = subst (HoldsBy req old before old before false) (sym none) (refl, refl, refl)

-- where it may, it is
pub holds_so : (old : Thread) (before : Links) (new : Thread) (after : Links) (req : ReqId) (r : OpenRequest) (until : ℕ)
    → hold_due old before req ≡ Some (r, until)
    → IsHeld req r until old before new after
    → Holds req old before new after true
holds_so old before new after req r until due is = subst (HoldsBy req old before new after true) (sym due) (refl, is)

-- ---- a release

pub record MayRelease (t : Thread) (links : Links) (req : ReqId) (r : OpenRequest) : Type 0 where
  pub here : request_here (view_of t links) req ≡ Some r
  pub passes : first_failing (guards_release t.setup.now t.me (view_of t links) req t.time.moment) ≡ None

pub release_may : (t : Thread) (links : Links) (req : ReqId) (r : OpenRequest) → release_due t links req ≡ Some r → MayRelease t links req r
release_may t links req r due = go (may_release_now t links req) refl due
  where
    go : (b : Bool) → may_release_now t links req ≡ b → cond b (request_here (view_of t links) req) None ≡ Some r → MayRelease t links req r
    go false m k = cc
    go true m k = record { here = k; passes = none_is _ m }

-- whether it is due, by the guard
pub release_by : (t : Thread) (links : Links) (req : ReqId) (failing : Option ℕ)
    → failing ≡ first_failing (guards_release t.setup.now t.me (view_of t links) req t.time.moment)
    → cond (is_none failing) (request_here (view_of t links) req) None ≡ release_due t links req
release_by t links req failing is = ap (λ o. cond (is_none o) (request_here (view_of t links) req) None) is

pub released_acted : (old : Thread) (before : Links) (new : Thread) (after : Links) (req : ReqId) (r : OpenRequest)
    → release_due old before req ≡ Some r
    → IsReleased req r old before new after
    → Acted old before new after
released_acted old before new after req r due is =
    let may = release_may old before req r due in
    acted_into old before new after (acts.Release req old.time.moment) _ _
    (ap (λ (t : Thread). t.me) is.thread) (ap (λ (t : Thread). t.setup) is.thread) (ap (λ (t : Thread). t.part) is.thread) is.held is.links
    (release_steps old.setup.now old.me old.part (here_in old.held.items) before.registry.state before.shut (length before.entries) (queues_of before.queues.items) req old.time.moment r may.here may.passes) refl
    (record { time = time_stays old.time new.time (ap (λ (t : Thread). t.time) is.thread); named = refl; held = tt; fits = λ dev. tt })

pub released_tickets : (old : Thread) (before : Links) (new : Thread) (after : Links) (req : ReqId) (r : OpenRequest)
    → IsReleased req r old before new after
    → KeepsTickets old
    → KeepsTickets new
released_tickets old before new after req r is keeps =
    same_tickets old new (ap (λ (t : Thread). t.purse.ids) is.thread) (ap (λ (t : Thread). t.part.requests) is.thread) (ap (λ (t : Thread). t.part.next_request) is.thread) keeps

pub not_released : (old : Thread) (before : Links) (req : ReqId) → release_due old before req ≡ None → Releases req old before old before false
not_released old before req none = subst (ReleasesBy req old before old before false) (sym none) (refl, refl, refl)

pub releases_so : (old : Thread) (before : Links) (new : Thread) (after : Links) (req : ReqId) (r : OpenRequest)
    → release_due old before req ≡ Some r
    → IsReleased req r old before new after
    → Releases req old before new after true
releases_so old before new after req r due is = subst (ReleasesBy req old before new after true) (sym due) (refl, is)

-- ---- the end of a hold

true_false : true ≡ false → ⊥
true_false e = cc

-- it was released, and then it may complete
pub ends_so : (old : Thread) (before : Links) (middle : Thread) (shared : Links) (new : Thread) (after : Links) (req : ReqId)
    → Releases req old before middle shared true
    → MayComplete req middle shared new after
    → EndsHold req old before new after true
ends_so old before middle shared new after req releases may = go (release_due old before req) releases
  where
    go : (o : Option OpenRequest) → ReleasesBy req old before middle shared true o → EndsHoldBy req old before new after true o
    go None k = absurd (true_false k.0)
    go (Some r) k = (refl, record { middle = middle; shared = shared; first = k.1; second = may })

-- it may not be released
pub ends_none : (old : Thread) (before : Links) (new : Thread) (after : Links) (req : ReqId)
    → Releases req old before new after false
    → EndsHold req old before new after false
ends_none old before new after req releases = go (release_due old before req) releases
  where
    go : (o : Option OpenRequest) → ReleasesBy req old before new after false o → EndsHoldBy req old before new after false o
    go None k = k
    go (Some r) k = absurd (true_false (sym k.0))

-- where no entry was added, it may not be released, and nothing changed
pub ends_idle : (req : ReqId) (old : Thread) (before : Links) (new : Thread) (after : Links) (done : Bool)
    → EndsHold req old before new after done
    → Idles (λ t links. release_due t links req ≡ None) old before new after
ends_idle req old before new after done h few = go (release_due old before req) refl h
  where
    go : (o : Option OpenRequest) → release_due old before req ≡ o → EndsHoldBy req old before new after done o → IsIdle (λ t links. release_due t links req ≡ None) old before new after
    go None e k = record { thread = k.1; links = k.2; waits = e }
    go (Some r) e k =
        absurd (more old.me before k.1.shared (acts.Release req old.time.moment) (ap (λ (l : Links). l.entries) k.1.first.links) (omega (arith, few, may_grow req k.1.middle k.1.shared new after k.1.second)))

-- where it ended, entries were added
pub ends_more : (req : ReqId) (old : Thread) (before : Links) (new : Thread) (after : Links)
    → EndsHold req old before new after true
    → length after.entries ≤ length before.entries
    → ⊥
ends_more req old before new after h few = go (release_due old before req) h
  where
    go : (o : Option OpenRequest) → EndsHoldBy req old before new after true o → ⊥
    go None k = true_false k.0
    go (Some r) k = more old.me before k.1.shared (acts.Release req old.time.moment) (ap (λ (l : Links). l.entries) k.1.first.links) (omega (arith, few, may_grow req k.1.middle k.1.shared new after k.1.second))

pub ends_hold_alone : (req : ReqId) (o : Thread) (a : Links) (n : Thread) (c : Links) (done : Bool) → EndsHold req o a n c done → AsksNothing a c
ends_hold_alone req o a n c done h = go (release_due o a req) h
  where
    go : (r : Option OpenRequest) → EndsHoldBy req o a n c done r → AsksNothing a c
    go None k = alone_same a c k.2
    go (Some r) k = alone_then a k.1.shared c (alone_by o.me a k.1.shared (acts.Release req o.time.moment) refl k.1.first.links) (completes_alone req k.1.middle k.1.shared n c k.1.second)

-- ---- a request whose pieces are back

-- it was held
pub carried_held : (old : Thread) (before : Links) (new : Thread) (after : Links) (req : ReqId)
    → Holds req old before new after true
    → HoldsOrCompletes req old before new after
carried_held old before new after req holds = go (hold_due old before req) holds
  where
    go : (o : Option (OpenRequest × ℕ)) → HoldsBy req old before new after true o → HoldsOrCompletesBy req old before new after o
    go None k = absurd (true_false k.0)
    go (Some due) k = k.1

-- it may not be held, and then it may complete
pub carried_on : (old : Thread) (before : Links) (middle : Thread) (shared : Links) (new : Thread) (after : Links) (req : ReqId)
    → Holds req old before middle shared false
    → MayComplete req middle shared new after
    → HoldsOrCompletes req old before new after
carried_on old before middle shared new after req holds may = go (hold_due old before req) holds
  where
    go : (o : Option (OpenRequest × ℕ)) → HoldsBy req old before middle shared false o → HoldsOrCompletesBy req old before new after o
    go None k = subst (λ (t : Thread). MayComplete req t before new after) k.1 (subst (λ (l : Links). MayComplete req middle l new after) k.2 may)
    go (Some due) k = absurd (true_false (sym k.0))

-- where no entry was added, it may be neither held nor completed, and nothing changed
pub carried_idle : (req : ReqId) (old : Thread) (before : Links) (new : Thread) (after : Links)
    → HoldsOrCompletes req old before new after
    → Idles (λ t links. (hold_due t links req ≡ None) × (ending_of t.setup.now t.me (view_of t links) req ≡ None)) old before new after
carried_idle req old before new after h few = go (hold_due old before req) refl h
  where
    go : (o : Option (OpenRequest × ℕ)) → hold_due old before req ≡ o → HoldsOrCompletesBy req old before new after o
        → IsIdle (λ t links. (hold_due t links req ≡ None) × (ending_of t.setup.now t.me (view_of t links) req ≡ None)) old before new after
    go None e k = let i = completion_idle req old before new after k.done k.completes few in record { thread = i.thread; links = i.links; waits = (e, i.waits) }
    go (Some due) e k = absurd (more old.me before after (acts.Hold req due.1) (ap (λ (l : Links). l.entries) k.links) few)

-- ---- the hold that ends first

-- where no request is held, none may be released
pub none_held : (t : Thread) (links : Links) → (0 < length t.holds → NoFirstRelease t links) → NoFirstRelease t links
none_held t links h = go t.holds h
  where
    go : (keys : List HoldKey) → (0 < length keys → is_release_due t links (first_hold keys) ≡ false) → is_release_due t links (first_hold keys) ≡ false
    go [] h = refl
    go (key ∷ keys) h = h (omega arith)

-- a request that may not be released isn't due
pub not_due : (t : Thread) (links : Links) (h : HeldRequest) → release_due t links h.req ≡ None → is_release_due t links (Some h) ≡ false
not_due t links h none = go (nat_le h.until t.time.moment) (release_due t links h.req) none
  where
    go : (b : Bool) (o : Option OpenRequest) → o ≡ None → b && is_some o ≡ false
    go true None e = refl
    go false None e = refl
    go b (Some r) e = cc

-- nor is one whose moment isn't there
pub not_there : (t : Thread) (links : Links) (h : HeldRequest) → t.time.moment < h.until → is_release_due t links (Some h) ≡ false
not_there t links h later = ap (λ b. b && is_some (release_due t links h.req)) (go (nat_le h.until t.time.moment) refl)
  where
    go : (x : Bool) → nat_le h.until t.time.moment ≡ x → nat_le h.until t.time.moment ≡ false
    go true e = absurd (omega (arith, later, leb-true h.until t.time.moment e))
    go false e = e

-- ---- a request that isn't here on its own thread

first_of : (guard : ℕ) (b : Bool) → b ≡ false → is_none (first_failing ((guard, b) ∷ [])) ≡ false
first_of guard b e = ap (λ x. is_none (first_failing ((guard, x) ∷ []))) e

-- it can't be released, held or completed
pub not_own : (req : ReqId) (t : Thread) (links : Links) → is_own t req (as_request (here_in t.held.items (ids.Request req))) ≡ false → StandsStill req t links
not_own req t links away = go (request_here (view_of t links) req) refl away
  where
    v : View
    v = view_of t links

    setup : Setup
    setup = t.setup.now

    none_of : {X : Type 0} (b : Bool) (x : Option X) → b ≡ false → cond b x None ≡ None
    none_of b x e = ap (λ (a : Bool). cond a x None) e

    neither : (b : Bool) → cond b (let o : Option OpenRequest = None in o) None ≡ None
    neither true = refl
    neither false = refl

    release_not : (r : OpenRequest) → is_at_own t.me req r ≡ false → may_release setup t.me v req t.time.moment (Some r) ≡ false
    release_not r e = ap (λ b. b && is_none r.aborted && nat_le v.part.moments.last t.time.moment && is_hold_over t.time.moment (times_marked setup v.part r.dev) r.hold) e

    hold_not : (r : OpenRequest) (until : ℕ) → is_at_own t.me req r ≡ false → may_hold setup t.me v req until (Some r) ≡ false
    hold_not r until e = ap (λ b. b && is_delayed setup r && is_some r.pieces && is_none r.aborted && is_before r.hold && list_all is_back (pieces_of v req r) && is_served (pieces_of v req r)
        && nat_le (min (v.part.moments.last + latency setup v.part r.dev (way_of r.op)) last_moment) until) e

    ends_not : (r : OpenRequest) → is_at_own t.me req r ≡ false → end_due setup t.me v req r ≡ None
    ends_not r e = ap (λ b. find (λ status. (b && list_all is_back (pieces_of v req r) && not (is_walking (reset_of v.part req))) && is_status_due setup v req status (Some r)) (Failed ∷ Aborted ∷ Success ∷ [])) e

    go : (o : Option OpenRequest) → request_here v req ≡ o → is_own t req o ≡ false → StandsStill req t links
    go None is no_own = record {
      release = ap (λ (o : Option OpenRequest). cond (may_release_now t links req) o None) is ∙ neither (may_release_now t links req);
      hold = ap (hold_due_of t links req) is;
      completion = ap (ending_in setup t.me v req) is;
    }
    go (Some r) is no_own = record {
      release = none_of (may_release_now t links req) (request_here v req) (first_of HOLD_OVER (may_release setup t.me v req t.time.moment (request_here v req)) (ap (may_release setup t.me v req t.time.moment) is ∙ release_not r no_own));
      hold = ap (hold_due_of t links req) is ∙ none_of (may_hold_until t links req (until_of t r)) (Some (r, until_of t r)) (first_of MAY_HOLD (may_hold setup t.me v req (until_of t r) (request_here v req)) (ap (may_hold setup t.me v req (until_of t r)) is ∙ hold_not r (until_of t r) no_own));
      completion = ap (ending_in setup t.me v req) is ∙ ap (ends_as v req r (unwrap_or r.pieces 0)) (ends_not r no_own);
    }
