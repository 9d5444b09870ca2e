-- A node is shut when all rest: what each thread did before and saw then, and how it sits after the Shutdown.
use Rattle.std.proofs.Common.{◌≡◌, ◌≢◌, ℕ, zero, suc, ◌<◌, ◌≤◌, Bool, true, false, cond, List, [], ◌++◌, All, length, length-set, set, slice_index_or, Option}
use Rattle.std.proofs.Common.{Some, None, refl, sym, ◌∙◌, ap, subst, arith}
use mathlib.Core.Path.{fun_ext}
use Rattle.std.specs.List.{list_all, slice_get, AllByRecursion}
use Rattle.std.proofs.lemmas.Bool.{and_parts}
use Rattle.std.proofs.lemmas.List.Elements.{All-get_or}
use Rattle.std.proofs.lemmas.Option.{get_or_from_slice_get, same_Some, slice_get_past, slice_get_read}
use Rattle.bd_base.specs.declared.id.DevId.{DevId}
use Rattle.bd_base.specs.declared.setup.Setup.{Setup}
use Rattle.bd_machine.specs.Content.{Told}
use Rattle.bd_machine.specs.View.{View}
use Rattle.bd_outside.specs.Disk.{DiskState}
use Rattle.bd_law_disks.specs.Told.{AreBasesLowest}
use Rattle.bd_turns.specs.Laws.{view_at_start}
use Rattle.bd_log.proofs.Order.{all_map}
use Rattle.bd_law_logs.specs.Rows.{Accepts, Row}
use Rattle.bd_law_logs.specs.Laws.{shutdown_of}
use Rattle.bd_law_threads.specs.Course.{Course, Phase}
use Rattle.bd_law_threads.specs.Ends.{phase_after, AreMarked}
use Rattle.bd_law_threads.specs.Steps.{first_phase, second_phase}
use Rattle.bd_law_served.specs.Served.{served_on}
use Rattle.bd_law_held.specs.Held.{held_on}
use Rattle.bd_wires.specs.declared.wires.Wires.{Wires}
use Rattle.bd_node.specs.declared.node.Node.{Node}
use Rattle.bd_node.specs.declared.node.NodeState.TheVariants.{Idle, Done, Busy}
use Rattle.bd_worker.specs.declared.seat.Seat.{Seat}
use Rattle.bd_node.specs.Disks.{disks_at, told_of}
use Rattle.bd_worker.specs.Seats.{entries_in, IsSeat, Past, Sits}
use Rattle.bd_node.specs.Shutting.{AreToLearn}
use Rattle.bd_worker.specs.Shutting.{shutdown_by, IsShutAt, LearnsShut, Shuts}
use Rattle.bd_node.specs.Whole.{are_all_taken, is_at_rest, is_idle, is_over, past_of, seat_is_blocked, seat_rests, state_of, ArePhases, AreSeated, AreShut, IsIn, IsNode, IsNodeOf}
use Rattle.bd_worker.proofs.Places.{has_at, is_below, set_else, set_here}
use Rattle.bd_node.proofs.Resting.{all_rest, all_taken, are_blocked, local_of, local_or, none_injected, views_of}

-- ---- a choice

-- what is chosen by what an option has
abbrev choose : {A B : Type 0} (o : Option A) → ((a : A) → o ≡ Some a → B) → B → B
choose None f d = d
choose (Some a) f d = f a refl

-- what holds of each choice holds of it
chosen_is : {A B : Type 0} (P : B → Type 0) (o : Option A) (f : (a : A) → o ≡ Some a → B) (d : B) → ((a : A) (h : o ≡ Some a) → P (f a h)) → (a : A) → o ≡ Some a → P (choose o f d)
chosen_is P None f d all a h = absurd (let e : None ≡ Some a = h in cc)
chosen_is P (Some x) f d all a h = all x refl

-- and what holds of two choices by the same option, one beside the other, holds of both
both_chosen : {A B C : Type 0} (P : B → C → Type 0) (o : Option A) (f : (a : A) → o ≡ Some a → B) (d : B) (g : (a : A) → o ≡ Some a → C) (e : C)
    → ((a : A) (h : o ≡ Some a) → P (f a h) (g a h)) → P d e → P (choose o f d) (choose o g e)
both_chosen P None f d g e all none = none
both_chosen P (Some x) f d g e all none = all x refl

none_chosen : {A B : Type 0} (o : Option A) (f : (a : A) → o ≡ Some a → B) (d : B) → o ≡ None → choose o f d ≡ d
none_chosen None f d h = refl
none_chosen (Some x) f d h = cc

-- ---- an idle node

idle_parts : (shut over idle : Bool) → cond shut (cond over Done Busy) (cond idle Idle Busy) ≡ Idle → (shut ≡ false) × (idle ≡ true)
idle_parts true true idle h = cc
idle_parts true false idle h = cc
idle_parts false over true h = (refl, refl)
idle_parts false over false h = cc

-- it wasn't shut, all of its seats rest and are blocked, and every message was taken
pub record IsIdle {D : Type 0} (n : Node D) : Type 0 where
  pub running : n.shut ≡ false
  pub rest : list_all seat_rests n.seats.items ≡ true
  pub taken : are_all_taken n.seats.items ≡ true
  pub blocked : list_all seat_is_blocked n.seats.items ≡ true

pub idle_is : {D : Type 0} → (n : Node D) → state_of n ≡ Idle → IsIdle n
idle_is n h =
    let p = idle_parts n.shut (is_over n) (is_idle n) h in
    let q = and_parts (is_at_rest n) (list_all seat_is_blocked n.seats.items) p.1 in
    let r = and_parts (list_all seat_rests n.seats.items) (are_all_taken n.seats.items) q.0 in
    record { running = p.0; rest = r.0; taken = r.1; blocked = q.1 }

-- before a Shutdown all are in their first phase
pub first_seated : {D : Type 0} → (state : D → DiskState) (setup : Setup) (told : Told) (w : Wires) (starts : List (List (DevId × D))) (pasts : ℕ → Past) (seats : List (Seat D)) (shut : Bool) (phases : ℕ → Phase)
    → shut ≡ false → ArePhases setup told shut phases → AreSeated state setup w starts pasts seats shut phases
    → AreSeated state setup w starts pasts seats false (first_phase setup told)
first_seated state setup told w starts pasts seats shut phases running ps a = record {
  some = a.some;
  len = a.len;
  each = λ i s h.
      let k : IsIn state setup w starts pasts shut phases i s = a.each i s h in
      record { sits = subst (λ (p : Phase). Sits state setup i p (pasts i) w (disks_at starts i) s) (first i) k.sits; flag = k.flag ∙ running; goes = k.goes };
}
  where
    first : (t : ℕ) → phases t ≡ first_phase setup told t
    first = subst (λ (b : Bool). ArePhases setup told b phases) running ps

-- ---- the marks

module _ {D : Type 0} (state : D → DiskState) (setup : Setup) (told : Told) (w : Wires) (starts : List (List (DevId × D))) (pasts : ℕ → Past) (seats : List (Seat D)) (a : AreSeated state setup w starts pasts seats false (first_phase setup told)) where
  -- the rows of each thread so far
  abbrev firsts : ℕ → List Row
  firsts i = choose (slice_get seats i) (λ s h. (a.each i s h).sits.course.rows) []

  -- what each sees
  abbrev marks : ℕ → View
  marks = views_of state setup seats

  -- what holds of each seat's rows and of what it sees holds of them
  of_marks : (i : ℕ) (P : List Row → View → Type 0) → ((s : Seat D) (h : slice_get seats i ≡ Some s) → P (a.each i s h).sits.course.rows (local_of state setup s).view)
      → (s : Seat D) → slice_get seats i ≡ Some s → P (firsts i) (marks i)
  of_marks i P all s h =
      subst (λ (v : View). P (firsts i) v) (sym (ap (λ (o : Option (Seat D)). (local_or state setup i o).view) h))
      (chosen_is (λ (rows : List Row). P rows (local_of state setup s).view) (slice_get seats i) (λ u k. (a.each i u k).sits.course.rows) []
      (λ u k. subst (λ (x : Seat D). P (a.each i u k).sits.course.rows (local_of state setup x).view) (same_Some u s (sym k ∙ h)) (all u k)) s h)

  -- the seat of a thread that exists
  seated : (t : ℕ) → t < setup.threads → (s : Seat D) × (slice_get seats t ≡ Some s)
  seated t lt = has_at seats t (subst (λ (n : ℕ). t < n) (sym a.len) lt)

  module _ (stamp : ℕ) (below : (i : ℕ) (s : Seat D) → slice_get seats i ≡ Some s → s.worker.log.last < stamp) where
    -- all its rows are below the Shutdown
    early_at : AreBasesLowest setup → (t : ℕ) (s : Seat D) (h : slice_get seats t ≡ Some s) → AllByRecursion (λ r. r.entry.stamp < stamp) (a.each t s h).sits.course.rows
    early_at lowest t s h =
        let c : Course = (a.each t s h).sits.course in
        let q : IsSeat state setup t (first_phase setup told t) c (pasts t) w (disks_at starts t) s = (a.each t s h).sits.seat in
        let later : c.last < stamp = subst (λ (n : ℕ). n < stamp) q.worker.log_last (below t s h) in
        all_map (λ (r : Row). r.entry.stamp ≤ c.last) (λ (r : Row). r.entry.stamp < stamp) c.rows (λ r k. omega arith) (q.worker.course lowest).within

    -- its rows are accepted, before any Shutdown
    accepted_at : AreBasesLowest setup → (t : ℕ) (s : Seat D) (h : slice_get seats t ≡ Some s) → Accepts setup false t (view_at_start setup told t) (a.each t s h).sits.course.rows (local_of state setup s).view
    accepted_at lowest t s h =
        let c : Course = (a.each t s h).sits.course in
        let q : IsSeat state setup t (first_phase setup told t) c (pasts t) w (disks_at starts t) s = (a.each t s h).sits.seat in
        subst (λ (b : Bool). Accepts setup b t (view_at_start setup told t) c.rows (local_of state setup s).view) (a.each t s h).flag (q.worker.course lowest).accepts

    marked : AreBasesLowest setup → 0 < stamp → list_all seat_rests seats ≡ true → are_all_taken seats ≡ true → list_all seat_is_blocked seats ≡ true → AreMarked setup told stamp firsts marks
    marked lowest positive rest taken blocked = record {
      positive = positive;
      accepted = λ t lt. let u = seated t lt in of_marks t (λ rows v. Accepts setup false t (view_at_start setup told t) rows v) (accepted_at lowest t) u.0 u.1;
      early = λ t lt. let u = seated t lt in of_marks t (λ rows v. AllByRecursion (λ r. r.entry.stamp < stamp) rows) (early_at lowest t) u.0 u.1;
      rested = all_rest state setup w starts pasts seats false (first_phase setup told) a rest;
      untaken = none_injected state setup w starts pasts seats false (first_phase setup told) a rest 0 a.some;
      all_taken = all_taken state setup w starts pasts seats false (first_phase setup told) a taken;
      blocked = are_blocked state setup w starts pasts seats false (first_phase setup told) a blocked;
    }

    -- none of a thread that doesn't exist
    none_first : (t : ℕ) → setup.threads ≤ t → firsts t ≡ []
    none_first t le = none_chosen (slice_get seats t) (λ s h. (a.each t s h).sits.course.rows) [] (slice_get_past seats t (subst (λ (n : ℕ). n ≤ t) (sym a.len) le))

    -- the phase of a thread after the Shutdown
    abbrev after_rows : ℕ → List Row → View → Phase
    after_rows i rows v = record { earlier = rows ++ shutdown_of stamp i; served = λ dev. served_on setup false i dev (view_at_start setup told i) rows; held = held_on setup false i (view_at_start setup told i) rows; from = v; since = stamp }

    abbrev after_seat : (i : ℕ) (s : Seat D) → slice_get seats i ≡ Some s → Phase
    after_seat i s h = second_phase stamp i (first_phase setup told i) (a.each i s h).sits.course (local_of state setup s)

    abbrev seconds : ℕ → Phase
    seconds i = choose (slice_get seats i) (after_seat i) (after_rows i [] (marks i))

    -- where its course is one, what it served and held before is what its rows say
    seat_is_after : AreBasesLowest setup → (i : ℕ) (s : Seat D) (h : slice_get seats i ≡ Some s) → after_seat i s h ≡ after_rows i (a.each i s h).sits.course.rows (marks i)
    seat_is_after lowest i s h =
        let c : Course = (a.each i s h).sits.course in
        let q : IsSeat state setup i (first_phase setup told i) c (pasts i) w (disks_at starts i) s = (a.each i s h).sits.seat in
        let served : c.served ≡ (λ dev. served_on setup false i dev (view_at_start setup told i) c.rows) =
        fun_ext (λ dev. (q.worker.course lowest).served dev ∙ ap (λ (b : Bool). served_on setup b i dev (view_at_start setup told i) c.rows) (a.each i s h).flag) in
        let held : c.held ≡ held_on setup false i (view_at_start setup told i) c.rows =
        (q.worker.course lowest).held ∙ ap (λ (b : Bool). held_on setup b i (view_at_start setup told i) c.rows) (a.each i s h).flag in
        let sees : (local_of state setup s).view ≡ marks i = sym (ap (λ (o : Option (Seat D)). (local_or state setup i o).view) h) in
        λ j. let p : Phase = record { earlier = c.rows ++ shutdown_of stamp i; served = served j; held = held j; from = sees j; since = stamp } in p

    seconds_are : AreBasesLowest setup → (i : ℕ) → seconds i ≡ phase_after setup told stamp firsts marks i
    seconds_are lowest i =
        both_chosen (λ (p : Phase) (rows : List Row). p ≡ after_rows i rows (marks i)) (slice_get seats i) (after_seat i) (after_rows i [] (marks i)) (λ s h. (a.each i s h).sits.course.rows) []
        (seat_is_after lowest i) refl

    -- each thread sits in that phase
    seated_after : (news : List (Seat D)) → length news ≡ length seats → ((i : ℕ) (s s' : Seat D) → slice_get seats i ≡ Some s → slice_get news i ≡ Some s' → Shuts state w stamp s s')
        → AreSeated state setup w starts pasts news true seconds
    seated_after news len shuts = record { some = a.some; len = len ∙ a.len; each = each }
      where
        each : (i : ℕ) (s' : Seat D) → slice_get news i ≡ Some s' → IsIn state setup w starts pasts true seconds i s'
        each i s' h' =
            let u = has_at seats i (subst (λ (n : ℕ). i < n) len (is_below news i s' h')) in
            let shut : Shuts state w stamp u.0 s' = shuts i u.0 s' u.1 h' in
            record {
              sits = chosen_is (λ (p : Phase). Sits state setup i p (pasts i) w (disks_at starts i) s') (slice_get seats i) (after_seat i) (after_rows i [] (marks i)) sat u.0 u.1;
              flag = shut.flag;
              goes = shut.halted ∙ (a.each i u.0 u.1).goes;
            }
          where
            sat : (s : Seat D) (h : slice_get seats i ≡ Some s) → Sits state setup i (after_seat i s h) (pasts i) w (disks_at starts i) s'
            sat s h =
                let c : Course = (a.each i s h).sits.course in
                let is : IsShutAt state setup i (first_phase setup told i) c (pasts i) stamp w (disks_at starts i) s s' = (shuts i s s' h h').sits setup i (first_phase setup told i) c (pasts i) (disks_at starts i) (a.each i s h).sits.seat in
                record { course = is.course; seat = is.seat }

-- ---- the node after it

-- all sit in the phases after a Shutdown
pub record AreAllShut {D : Type 0} (state : D → DiskState) (setup : Setup) (w : Wires) (starts : List (List (DevId × D))) (pasts : ℕ → Past) (news : List (Seat D)) : Type 0 where
  pub phases : ℕ → Phase
  pub seated : AreSeated state setup w starts pasts news true phases
  pub phases_are : AreShut setup (told_of state setup starts) phases

pub all_shut : {D : Type 0} → (state : D → DiskState) (starts : List (List (DevId × D))) (n : Node D) (stamp : ℕ) (news : List (Seat D)) → (is : IsNodeOf state starts n) → IsIdle n → 0 < stamp → length news ≡ length n.seats.items
    → ((i : ℕ) (s s' : Seat D) → slice_get n.seats.items i ≡ Some s → slice_get news i ≡ Some s' → Shuts state n.wires stamp s s')
    → AreAllShut state n.setup.now n.wires starts (past_of is.met n.trace.items) news
all_shut {D} state starts n stamp news is idle positive len shuts =
    let setup : Setup = n.setup.now in
    let told : Told = told_of state setup starts in
    let w : Wires = n.wires in
    let pasts : ℕ → Past = past_of is.met n.trace.items in
    let seats : List (Seat D) = n.seats.items in
    let a : AreSeated state setup w starts pasts seats false (first_phase setup told) = first_seated state setup told w starts pasts seats n.shut is.phases idle.running is.phases_are is.seated in
    let below : (i : ℕ) (s : Seat D) → slice_get seats i ≡ Some s → s.worker.log.last < stamp = λ i s h.
    (let u = has_at news i (subst (λ (k : ℕ). i < k) (sym len) (is_below seats i s h)) in (shuts i s u.0 h u.1).later) in
    record {
      phases = seconds state setup told w starts pasts seats a stamp below;
      seated = seated_after state setup told w starts pasts seats a stamp below news len shuts;
      phases_are = record {
        stamp = stamp;
        firsts = firsts state setup told w starts pasts seats a;
        marks = marks state setup told w starts pasts seats a;
        none_first = none_first state setup told w starts pasts seats a stamp below;
        marked = λ lowest. marked state setup told w starts pasts seats a stamp below lowest positive idle.rest idle.taken idle.blocked;
        phases_are = λ lowest. seconds_are state setup told w starts pasts seats a stamp below lowest;
      };
    }

-- ---- thread 0 first, and then the others

-- after thread 0 the others are as before
pub others_learn : {D : Type 0} → (state : D → DiskState) (setup : Setup) (w : Wires) (starts : List (List (DevId × D))) (pasts : ℕ → Past) (seats : List (Seat D)) (shut : Bool) (phases : ℕ → Phase) (first : Seat D) (above stamp : ℕ)
    → AreSeated state setup w starts pasts seats shut phases
    → All (λ s. s.worker.log.last ≤ above) seats → above < stamp → AreToLearn stamp (set seats 0 first)
others_learn {D} state setup w starts pasts seats shut phases first above stamp a within later i s lt h =
    let before : slice_get seats i ≡ Some s = sym (set_else seats 0 i first (λ e. omega arith)) ∙ h in
    let me : s.worker.me ≡ i = (a.each i s before).sits.seat.worker.me in
    let ne : s.worker.me ≢ 0 = λ e. (omega arith) in
    let le : s.worker.log.last ≤ above = all_here seats i s within before in
    (ne, omega arith)
  where
    all_here : (seats : List (Seat D)) (i : ℕ) (s : Seat D) → All (λ s. s.worker.log.last ≤ above) seats → slice_get seats i ≡ Some s → s.worker.log.last ≤ above
    all_here seats i s all at =
        subst (λ (x : Seat D). x.worker.log.last ≤ above) (get_or_from_slice_get seats i s s at)
        (All-get_or (λ s. s.worker.log.last ≤ above) seats i s (is_below seats i s at) all)

pub each_shuts : {D : Type 0} → (state : D → DiskState) (w : Wires) (stamp : ℕ) (seats news : List (Seat D)) (first first' : Seat D) → slice_get seats 0 ≡ Some first → Shuts state w stamp first first'
    → slice_get news 0 ≡ slice_get (set seats 0 first') 0
    → ((i : ℕ) (s s' : Seat D) → 0 < i → slice_get (set seats 0 first') i ≡ Some s → slice_get news i ≡ Some s' → LearnsShut stamp s s')
    → (i : ℕ) (s s' : Seat D) → slice_get seats i ≡ Some s → slice_get news i ≡ Some s' → Shuts state w stamp s s'
each_shuts {D} state w stamp seats news first first' at shuts same others zero s s' h h' =
    let old : first ≡ s = same_Some first s (sym at ∙ h) in
    let new : first' ≡ s' = same_Some first' s' (sym (set_here seats 0 first' (is_below seats 0 first at)) ∙ sym same ∙ h') in
    subst (λ (x : Seat D). Shuts state w stamp x s') old (subst (λ (x : Seat D). Shuts state w stamp first x) new shuts)
each_shuts state w stamp seats news first first' at shuts same others (suc i) s s' h h' = others (suc i) s s' (omega arith) (set_else seats 0 (suc i) first' (λ e. omega arith) ∙ h) h' state w

-- what each did when the node was shut
pub each_adds : {D : Type 0} → (state : D → DiskState) (n : Node D) (stamp : ℕ) (first first' : Seat D) (shut news : List (Seat D)) → IsNode state n → slice_get n.seats.items 0 ≡ Some first → Shuts state n.wires stamp first first'
    → shut ≡ set n.seats.items 0 first' → slice_get news 0 ≡ slice_get shut 0
    → ((i : ℕ) (s s' : Seat D) → 0 < i → slice_get shut i ≡ Some s → slice_get news i ≡ Some s' → LearnsShut stamp s s')
    → (i : ℕ) (s s' : Seat D) → slice_get n.seats.items i ≡ Some s → slice_get news i ≡ Some s' → entries_in s' ≡ entries_in s ++ shutdown_by stamp i
each_adds {D} state n stamp first first' shut news is at shuts shut-is same others i s s' h h' =
    (each_shuts state n.wires stamp n.seats.items news first first' at shuts (same ∙ ap (λ (ss : List (Seat D)). slice_get ss 0) shut-is)
    (λ j u u' positive k. others j u u' positive (ap (λ (ss : List (Seat D)). slice_get ss j) shut-is ∙ k)) i s s' h h').entries
    ∙ ap (λ (k : ℕ). entries_in s ++ shutdown_by stamp k) (is.node.seated.each i s h).sits.seat.worker.me

-- the first seat of a node
pub first_at : {D : Type 0} {state : D → DiskState} → (n : Node D) (a : Seat D) → IsNode state n → a ≡ slice_index_or n.seats.items 0 a → slice_get n.seats.items 0 ≡ Some a
first_at n a is h = slice_get_read n.seats.items (length n.seats.items) 0 a refl (subst (λ (k : ℕ). 0 < k) (sym is.node.seated.len) is.node.seated.some) h

-- an idle node after all of it
pub node_shuts : {D : Type 0} → (state : D → DiskState) (starts : List (List (DevId × D))) (n : Node D) (above stamp : ℕ) (first first' : Seat D) (shut news : List (Seat D))
    → (is : IsNodeOf state starts n) → state_of n ≡ Idle → slice_get n.seats.items 0 ≡ Some first → above < stamp
    → Shuts state n.wires stamp first first' → shut ≡ set n.seats.items 0 first' → length news ≡ length shut → slice_get news 0 ≡ slice_get shut 0
    → ((i : ℕ) (s s' : Seat D) → 0 < i → slice_get shut i ≡ Some s → slice_get news i ≡ Some s' → LearnsShut stamp s s')
    → AreAllShut state n.setup.now n.wires starts (past_of is.met n.trace.items) news
node_shuts {D} state starts n above stamp first first' shut news is idle at later shuts shut-is len same others =
    all_shut state starts n stamp news is (idle_is n idle) (omega arith) (len ∙ ap (λ (ss : List (Seat D)). length ss) shut-is ∙ length-set n.seats.items 0 first')
    (each_shuts state n.wires stamp n.seats.items news first first' at shuts (same ∙ ap (λ (ss : List (Seat D)). slice_get ss 0) shut-is)
    (λ i s s' positive h. others i s s' positive (ap (λ (ss : List (Seat D)). slice_get ss i) shut-is ∙ h)))
