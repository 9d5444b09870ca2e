-- The moments of a node's threads, from turn to turn, and what its trace says of them.
use Rattle.std.proofs.Common.{◌≡◌, ℕ, zero, suc, ◌+◌, ◌<◌, Bool, true, false, cond, ◌&&◌, ◌==◌, ◌⊎◌, inl, inr, nat_le, List, [], ◌∷◌, ◌++◌, length, set, Option, Some, None, refl, sym, ◌∙◌, ap, subst, append-nil, eq-eqb, eqb-true, arith}
use Rattle.std.specs.List.{AllByRecursion, slice_get}
use Rattle.std.specs.Prelude.{IfSome}
use Rattle.std.proofs.lemmas.Bool.{and_parts, cases_eq}
use Rattle.std.proofs.lemmas.Nat.{mod_below}
use Rattle.std.proofs.lemmas.Option.{same_Some}
use Rattle.bd_base.specs.declared.act.Act.{Act}
use Rattle.bd_base.specs.declared.act.Act.TheVariants as acts
use Rattle.bd_base.specs.declared.act.Entry.{Entry}
use Rattle.bd_base.specs.declared.id.DevId.{DevId}
use Rattle.bd_base.specs.declared.setup.Setup.{Setup}
use Rattle.bd_law_held.specs.Held.{held_from, EndInTime}
use Rattle.bd_law_held.proofs.Accepted.{held_as_accepted}
use Rattle.bd_law_held.proofs.Ends.{end_later}
use Rattle.bd_log.specs.Merge.{entries_of}
use Rattle.bd_machine.specs.declared.state.State.{State}
use Rattle.bd_machine.specs.BlockMap.{base_of, home}
use Rattle.bd_machine.specs.Content.{Told}
use Rattle.bd_machine.specs.Guards.{guards}
use Rattle.bd_machine.specs.Limits.{is_tick_due, limited_here}
use Rattle.bd_machine.specs.Run.{IsRun, IsRunFrom}
use Rattle.bd_machine.specs.Same.{same_dev}
use Rattle.bd_machine.specs.Start.{start}
use Rattle.bd_machine.specs.Step.{after}
use Rattle.bd_machine.specs.Timeslices.{slices_of, Fits, FitsAct}
use Rattle.bd_machine.specs.View.{came_for, view, Came, View}
use Rattle.bd_machine.proofs.Acts.{passed, Passes}
use Rattle.bd_machine.proofs.Steps.{allowed_passes}
use Rattle.bd_machine.proofs.Tables.{dev_exact}
use Rattle.bd_outside.specs.Clock.{IsWithin, Moments}
use Rattle.bd_outside.specs.Disk.{DiskState}
use Rattle.bd_thread.specs.declared.thread.Thread.{Thread}
use Rattle.bd_thread.specs.Seen.{setup_of, time_of}
use Rattle.bd_thread.specs.Timely.{moment_named, slices_in, IsOnTime}
use Rattle.bd_wires.specs.declared.wires.Passes.{Passes as SeatPasses}
use Rattle.bd_wires.specs.declared.wires.Wires.{Wires}
use Rattle.bd_worker.specs.declared.seat.Seat.{Seat}
use Rattle.bd_worker.specs.Seats.{made_by, AreTimesWithin, HasTimesWithin, IsHandedOut}
use Rattle.bd_worker.specs.Shutting.{LearnsShut}
use Rattle.bd_worker.proofs.Places.{has_at, is_below, set_else, set_here}
use Rattle.bd_worker.proofs.Times.{moment_most, named_within, start_within}
use Rattle.bd_node.specs.declared.node.Node.{Node}
use Rattle.bd_node.specs.Gathering.{Gathers}
use Rattle.bd_node.specs.Starting.{AreNewSeats, IsNewSeat}
use Rattle.bd_node.specs.Times.{AreHoldsWithin, AreMomentsWithin, AreStartsWithin, HaveTimesWithin}
use Rattle.bd_node.specs.Whole.{entries_left, past_of, setup_in, IsNodeOf}
use Rattle.bd_node.proofs.Disks.{no_more}
use Rattle.bd_node.proofs.Gathered.{none_of_sum}
use Rattle.bd_node.proofs.Resting.{seat_at}

-- ---- seats

-- a thread that is as it was has the times that it had
same_within : {D : Type 0} (range : Option Moments) (a b : Seat D) → b.worker.thread ≡ a.worker.thread → HasTimesWithin range a → HasTimesWithin range b
same_within range a b same h = subst (λ (t : Thread). AreTimesWithin range (time_of t).given (time_of t).start (time_of t).moment) (sym same) h

-- one of them had a turn
pub times_set : {D : Type 0} (range : Option Moments) (seats : List (Seat D)) (i : ℕ) (a s : Seat D) → slice_get seats i ≡ Some a → HasTimesWithin range s → HaveTimesWithin range seats → HaveTimesWithin range (set seats i s)
times_set {D} range seats i a s at one h j x k = go (cases_eq i j)
  where
    go : (i ≡ j) ⊎ (i ≡ j → ⊥) → HasTimesWithin range x
    go (inl same) =
        let e : s ≡ x = same_Some s x (sym (set_here seats i s (is_below seats i a at)) ∙ ap (slice_get (set seats i s)) same ∙ k) in
        subst (λ (y : Seat D). HasTimesWithin range y) e one
    go (inr ne) = h j x (sym (set_else seats i j s ne) ∙ k)

-- their logs were handed out
pub times_gathered : {D : Type 0} (range : Option Moments) (n c : Node D) → Gathers n c → HaveTimesWithin range n.seats.items → HaveTimesWithin range c.seats.items
times_gathered {D} range n c g h i b k =
    let a = has_at n.seats.items i (subst (λ (m : ℕ). i < m) g.len (is_below c.seats.items i b k)) in
    same_within range a.0 b (ap (λ (s : Seat D). s.worker.thread) (g.each i a.0 b a.1 k).is) (h i a.0 a.1)

-- they were shut down
pub times_shut : {D : Type 0} (state : D → DiskState) (w : Wires) (range : Option Moments) (stamp : ℕ) (seats mid news : List (Seat D)) (a s : Seat D)
    → slice_get seats 0 ≡ Some a
    → s.worker.thread ≡ a.worker.thread
    → mid ≡ set seats 0 s
    → length news ≡ length mid
    → slice_get news 0 ≡ slice_get mid 0
    → ((i : ℕ) (x y : Seat D) → 0 < i → slice_get mid i ≡ Some x → slice_get news i ≡ Some y → LearnsShut stamp x y)
    → HaveTimesWithin range seats
    → HaveTimesWithin range news
times_shut {D} state w range stamp seats mid news a s at same mid-is len first others h = λ i y k. go i y k
  where
    mid_within : HaveTimesWithin range mid
    mid_within = subst (λ (ss : List (Seat D)). HaveTimesWithin range ss) (sym mid-is) (times_set range seats 0 a s at (same_within range a s same (h 0 a at)) h)

    go : (i : ℕ) (y : Seat D) → slice_get news i ≡ Some y → HasTimesWithin range y
    go zero y k = mid_within 0 y (sym first ∙ k)
    go (suc i) y k =
        let x = has_at mid (suc i) (subst (λ (m : ℕ). suc i < m) len (is_below news (suc i) y k)) in
        same_within range x.0 y (others (suc i) x.0 y (omega arith) x.1 k state w).thread (mid_within (suc i) x.0 x.1)

-- before any turn
pub times_new : {D : Type 0} (range : Option Moments) (setup : Setup) (passes : List SeatPasses) (seats : List (Seat D)) → length seats ≡ length passes → AreNewSeats setup passes seats → HaveTimesWithin range seats
times_new {D} range setup passes seats len new i s k =
    let q = has_at passes i (subst (λ (m : ℕ). i < m) len (is_below seats i s k)) in
    let is : IsNewSeat i setup q.0 s = new.each i s q.0 k q.1 in
    subst (λ t. AreTimesWithin range t.given t.start t.moment) (sym is.thread.time) refl

-- ---- the entries of a thread

own_first : (e : Entry) (es : List Entry) → entries_of e.thread (e ∷ es) ≡ e ∷ entries_of e.thread es
own_first e es = ap (λ (b : Bool). cond b (e ∷ entries_of e.thread es) (entries_of e.thread es)) (eq-eqb e.thread e.thread refl)

-- what holds of the entries of each thread holds of all
of_threads : (P : Entry → Type 0) (k : ℕ) (es : List Entry) → AllByRecursion (λ e. e.thread < k) es → ((t : ℕ) → t < k → AllByRecursion P (entries_of t es)) → AllByRecursion P es
of_threads P k [] known all = tt
of_threads P k (e ∷ es) known all =
    ((subst (AllByRecursion P) (own_first e es) (all e.thread known.0)).0, of_threads P k es known.1 (λ t lt. less t (e.thread == t) (all t lt)))
  where
    less : (t : ℕ) (b : Bool) → AllByRecursion P (cond b (e ∷ entries_of t es) (entries_of t es)) → AllByRecursion P (entries_of t es)
    less t true h = h.1
    less t false h = h

-- ---- where timeslices are told

abbrev is_tick_of : DevId → Act → Bool
is_tick_of dev (acts.Tick d now slices) = same_dev d dev
is_tick_of dev _ = false

-- each Tick of the device is one of this thread
abbrev AreTicksOf : DevId → ℕ → List Entry → Type 0
AreTicksOf dev t es = AllByRecursion (λ e. is_tick_of dev e.act ≡ true → e.thread ≡ t) es

tick_at_home : (setup : Setup) (t : ℕ) (v : View) (act : Act) (came : Came) (dev : DevId) → Passes (guards setup t v act came) → is_tick_of dev act ≡ true → t ≡ home setup dev
tick_at_home setup t v (acts.Tick d now slices) came dev h e =
    let g = (passed (guards setup t v (acts.Tick d now slices) came) h).0 in
    let p = and_parts ((home setup d == t) && nat_le v.part.moments.last now) (is_tick_due v.part.moments now slices (limited_here v.part d)) g in
    let q = and_parts (home setup d == t) (nat_le v.part.moments.last now) p.0 in
    sym (eqb-true (home setup d) t q.0) ∙ ap (home setup) (dev_exact d dev e)
tick_at_home setup t v _ came dev h e = cc

ticks_at_home : (setup : Setup) (dev : DevId) (s : State) (es : List Entry) → IsRunFrom setup s es → AreTicksOf dev (home setup dev) es
ticks_at_home setup dev s [] run = tt
ticks_at_home setup dev s (e ∷ es) run =
    (λ h. tick_at_home setup e.thread (view s e.thread) e.act (came_for setup s e.thread e.act) dev (allowed_passes setup s e run.0) h, ticks_at_home setup dev (after setup s e) es run.1)

untold : (dev : DevId) (start before : ℕ) (act : Act) → is_tick_of dev act ≡ false → FitsAct dev start before act × (slices_of dev act ≡ 0)
untold dev start before (acts.Tick d now slices) h = (λ e. let no : true ≡ false = sym e ∙ h in cc, ap (λ (b : Bool). cond b slices 0) h)
untold dev start before _ h = (tt, refl)

-- an entry of another thread is none
of_other : (dev : DevId) (t : ℕ) (e : Entry) → (is_tick_of dev e.act ≡ true → e.thread ≡ t) → (e.thread == t) ≡ false → is_tick_of dev e.act ≡ false
of_other dev t e h other = go (is_tick_of dev e.act) refl
  where
    go : (b : Bool) → is_tick_of dev e.act ≡ b → b ≡ false
    go false k = refl
    go true k = let no : true ≡ false = sym (eq-eqb e.thread t (h k)) ∙ other in cc

own_slices : (dev : DevId) (t : ℕ) (es : List Entry) → AreTicksOf dev t es → slices_in dev (entries_of t es) ≡ slices_in dev es
own_slices dev t [] h = refl
own_slices dev t (e ∷ es) h = go (e.thread == t) refl (own_slices dev t es h.1)
  where
    go : (b : Bool) → (e.thread == t) ≡ b → slices_in dev (entries_of t es) ≡ slices_in dev es → slices_in dev (cond b (e ∷ entries_of t es) (entries_of t es)) ≡ slices_of dev e.act + slices_in dev es
    go true k rest = ap (λ n. slices_of dev e.act + n) rest
    go false k rest = let none : slices_of dev e.act ≡ 0 = (untold dev 0 0 e.act (of_other dev t e h.0 k)).1 in omega (arith, none, rest)

own_fits : (dev : DevId) (t first before : ℕ) (es : List Entry) → AreTicksOf dev t es → Fits dev first before (entries_of t es) → Fits dev first before es
own_fits dev t first before [] h f = tt
own_fits dev t first before (e ∷ es) h f = go (e.thread == t) refl f (own_fits dev t first (before + slices_of dev e.act) es h.1) (own_fits dev t first before es h.1)
  where
    more : (n : ℕ) → n ≡ 0 → before ≡ before + n
    more n k = omega (arith, k)

    go : (b : Bool) → (e.thread == t) ≡ b → Fits dev first before (cond b (e ∷ entries_of t es) (entries_of t es))
        → (Fits dev first (before + slices_of dev e.act) (entries_of t es) → Fits dev first (before + slices_of dev e.act) es)
        → (Fits dev first before (entries_of t es) → Fits dev first before es)
        → FitsAct dev first before e.act × Fits dev first (before + slices_of dev e.act) es
    go true k f told other = (f.0, told f.1)
    go false k f told other =
        let none = untold dev first before e.act (of_other dev t e h.0 k) in
        (none.0, subst (λ (n : ℕ). Fits dev first n es) (more (slices_of dev e.act) none.1) (other f))

-- ---- a node of which all was gathered

module _ {D : Type 0} (state : D → DiskState) (starts : List (List (DevId × D))) (n : Node D) (h : IsNodeOf state starts n) (left : entries_left n ≡ 0) (range : Option Moments) (within : HaveTimesWithin range n.seats.items) where
  -- what a thread did is in the trace, and goes with its time
  record OnTime (t : ℕ) : Type 0 where
    thread : Thread
    setup : setup_of thread ≡ n.setup.now
    did : IsOnTime thread (entries_of t n.trace.items)
    times : AreTimesWithin range (time_of thread).given (time_of thread).start (time_of thread).moment

  on_time : (t : ℕ) → t < n.setup.now.threads → OnTime t
  on_time t lt =
      let u = seat_at state n.setup.now n.wires starts (past_of h.met n.trace.items) n.seats.items n.shut h.phases h.seated t lt in
      let s : Seat D = u.0 in
      let empty : s.worker.log.entries ≡ [] = no_more s.worker.log.entries (none_of_sum made_by n.seats.items left t s u.1) in
      record {
        thread = s.worker.thread;
        setup = (h.seated.each t s u.1).sits.seat.worker.given;
        did = subst (IsOnTime s.worker.thread) (ap (λ (es : List Entry). entries_of t n.trace.items ++ es) empty ∙ append-nil (entries_of t n.trace.items)) (h.seated.each t s u.1).sits.seat.worker.times;
        times = within t s u.1;
      }

  -- **each moment in the trace lies there**
  pub moments_within : AreMomentsWithin range n.trace.items
  moments_within =
      of_threads (λ e. IfSome (moment_named e.act) (IsWithin range)) n.setup.now.threads n.trace.items h.trace.known
      (λ t lt. let o : OnTime t = on_time t lt in named_within range o.thread (entries_of t n.trace.items) o.did o.times)

  -- **and each request is held in time**, as it was accepted, where that is a run in which each thread held in time what it held, as it saw it
  pub holds_within : (told : Told) → IsRun (setup_in n) told n.trace.items
      → ((t : ℕ) → t < n.setup.now.threads → (s : Seat D) → slice_get n.seats.items t ≡ Some s → EndInTime (setup_in n) (time_of s.worker.thread).moment (held_from (setup_in n) t (start (setup_in n) told) n.trace.items))
      → AreHoldsWithin range (setup_in n) n.trace.items
  holds_within told run held = go range within
    where
      go : (o : Option Moments) → HaveTimesWithin o n.seats.items → AreHoldsWithin o (setup_in n) n.trace.items
      go None k = tt
      go (Some r) k =
          held_as_accepted (setup_in n) told n.trace.items n.setup.now.threads r.greatest run h.trace.known
          (λ t lt.
          let u = seat_at state n.setup.now n.wires starts (past_of h.met n.trace.items) n.seats.items n.shut h.phases h.seated t lt in
          let time = time_of u.0.worker.thread in
          end_later (setup_in n) time.moment r.greatest (held_from (setup_in n) t (start (setup_in n) told) n.trace.items) (moment_most r time.given time.start time.moment (k t u.0 u.1)) (held t lt u.0 u.1))

  -- **and some start of each device's timeslices**
  pub starts_within : (told : Told) → IsRun (setup_in n) told n.trace.items → AreStartsWithin range n.trace.items
  starts_within told run dev some =
      let t : ℕ = home n.setup.now dev in
      let o : OnTime t = on_time t (mod_below (base_of n.setup.now dev).0 n.setup.now.threads h.seated.some) in
      let ticks : AreTicksOf dev t n.trace.items = ticks_at_home n.setup.now dev (start n.setup.now told) n.trace.items run in
      let own : 0 < slices_in dev (entries_of t n.trace.items) = subst (λ (k : ℕ). 0 < k) (sym (own_slices dev t n.trace.items ticks)) some in (
        (time_of o.thread).start,
        (
          start_within range o.thread (entries_of t n.trace.items) dev o.did own o.times,
          own_fits dev t (time_of o.thread).start 0 n.trace.items ticks (o.did.fits dev),
        ),
      )
