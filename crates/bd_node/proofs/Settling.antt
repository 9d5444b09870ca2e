-- The seats of a node that is done, taken apart: the merge of their logs is a complete run, which says what each thread served.
use Rattle.std.proofs.Common.{◌≡◌, ℕ, ◌<◌, ◌≤◌, Bool, true, false, cond, nat_lt, List, [], ◌++◌, length, map, find, get_or, Option, Some, None, refl, sym, ◌∙◌, ap, subst, ltb-true, vec_len, arith}
use Rattle.std.specs.List.{list_all, slice_get}
use Rattle.std.specs.Option.{option_map}
use Rattle.std.proofs.lemmas.Bool.{lt-ltb}
use Rattle.std.proofs.lemmas.List.{get_or_past, length-map}
use Rattle.std.proofs.lemmas.Option.{get_or_from_slice_get, same_Some, slice_get-map, slice_get_past}
use Rattle.bd_base.specs.declared.act.Entry.{Entry}
use Rattle.bd_base.specs.declared.id.DevId.{DevId}
use Rattle.bd_base.specs.declared.setup.Setup.{Setup}
use Rattle.bd_log.specs.Merge.{entries_of, AreOfDifferentThreads, IsMerge, IsOrdered, Part}
use Rattle.bd_machine.specs.BlockMap.{home}
use Rattle.bd_machine.specs.Content.{Told}
use Rattle.bd_machine.specs.Homes.{base_here, is_base}
use Rattle.bd_machine.specs.Run.{state_after, IsCompleteRun}
use Rattle.bd_machine.specs.Start.{start}
use Rattle.bd_machine.specs.View.{part_of}
use Rattle.bd_outside.specs.Disk.{DiskState}
use Rattle.bd_law_disks.specs.Told.{AreBasesLowest}
use Rattle.bd_law_logs.specs.Fits.{IsMergeOf}
use Rattle.bd_law_logs.specs.Journals.{events}
use Rattle.bd_law_logs.specs.Laws.{ArePartsOf}
use Rattle.bd_law_logs.specs.Rows.{entries, Row}
use Rattle.bd_law_logs.proofs.OfParts.{merge_of_parts}
use Rattle.bd_registry.specs.State.{HasRowsOf, IsReplayFromStart, Registered}
use Rattle.bd_ring.specs.Posts.{sent_by}
use Rattle.bd_ring.specs.SlotRule.{StartsWith}
use Rattle.bd_turns.specs.declared.queue.Post.{Post}
use Rattle.bd_turns.specs.Local.{Local}
use Rattle.bd_law_held.specs.Held.{held_from}
use Rattle.bd_law_threads.specs.Course.{all_rows, Course, IsCourse, Phase}
use Rattle.bd_law_threads.specs.Ends as ends
use Rattle.bd_law_threads.specs.Steps.{new_course}
use Rattle.bd_law_threads.proofs.Ending.{bases_end_as_seen, courses_are_complete_run, courses_hold_as_seen, courses_serve_as_seen}
use Rattle.bd_law_served.specs.Served.{served_from}
use Rattle.bd_wires.specs.declared.wires.Passes.{Passes}
use Rattle.bd_wires.specs.declared.wires.Wires.{Wires}
use Rattle.bd_wires.specs.Wires as wires
use Rattle.bd_worker.specs.declared.seat.Seat.{Seat}
use Rattle.bd_node.specs.Disks.{disks_at}
use Rattle.bd_worker.specs.Seats.{IsSeat, Past}
use Rattle.bd_node.specs.declared.node.Node.{Node}
use Rattle.bd_node.specs.Whole.{are_all_taken, log_with, past_of, seat_has_destructed, seat_is_done, setup_in, AreSeated, AreShut, IsNode}
use Rattle.bd_node.proofs.Resting.{are_destructed, are_spent, local_or, locals_of, seat_at}

abbrev pub passes_of : {D : Type 0} → Seat D → Passes
passes_of s = s.passes

-- what is made of each stands at its place
pub map_at : {X Y : Type 0} (f : X → Y) (xs : List X) (i : ℕ) (x : X) → slice_get xs i ≡ Some x → slice_get (map f xs) i ≡ Some (f x)
map_at f xs i x e = slice_get-map f xs i ∙ ap (option_map f) e

-- and what stands at a place is made of what stood there
pub map_from : {X Y : Type 0} (f : X → Y) (xs : List X) (i : ℕ) (y : Y) → slice_get (map f xs) i ≡ Some y → (x : X) × (slice_get xs i ≡ Some x) × (f x ≡ y)
map_from {X} {Y} f xs i y e = go (slice_get xs i) refl
  where
    go : (o : Option X) → slice_get xs i ≡ o → (x : X) × (slice_get xs i ≡ Some x) × (f x ≡ y)
    go None q = absurd (none (sym (ap (option_map f) q) ∙ sym (slice_get-map f xs i) ∙ e))
      where
        none : None ≡ Some y → ⊥
        none h = cc
    go (Some x) q = (x, q, same_Some (f x) y (sym (ap (option_map f) q) ∙ sym (slice_get-map f xs i) ∙ e))

-- ---- seats, linked

module _ {D : Type 0} (state : D → DiskState) (setup : Setup) (w : Wires) (starts : List (List (DevId × D))) (pasts : ℕ → Past) (seats : List (Seat D)) (shut : Bool) (phases : ℕ → Phase) (a : AreSeated state setup w starts pasts seats shut phases) where
  -- the passes of all seats are for these wires
  pub passes_linked : wires.AreLinked setup.threads w (map passes_of seats)
  passes_linked = ((a.each 0 first.0 first.1).sits.seat.linked.rings, each)
    where
      first : (s : Seat D) × (slice_get seats 0 ≡ Some s)
      first = seat_at state setup w starts pasts seats shut phases a 0 a.some

      each : (t : ℕ) (q : Passes) → slice_get (map passes_of seats) t ≡ Some q → wires.IsLinked setup.threads w t q
      each t q e =
          let from = map_from passes_of seats t q e in
          subst (λ (x : Passes). wires.IsLinked setup.threads w t x) from.2 (a.each t from.0 from.1).sits.seat.linked

  -- as many as there are threads
  pub passes_many : length (map passes_of seats) ≡ setup.threads
  passes_many = length-map seats passes_of ∙ a.len

  -- ---- what each of them gives as a part of what happened

  module _ (part : Seat D → Part) (own : (s : Seat D) → (part s).thread ≡ s.worker.log.thread) where
    pub part_thread : (t : ℕ) (d : Part) → t < setup.threads → (get_or (map part seats) t d).thread ≡ t
    part_thread t d lt =
        let u = seat_at state setup w starts pasts seats shut phases a t lt in
        ap (λ (p : Part). p.thread) (get_or_from_slice_get (map part seats) t (part u.0) d (map_at part seats t u.0 u.1))
        ∙ own u.0
        ∙ (a.each t u.0 u.1).sits.seat.worker.log_thread

    pub parts_many : length (map part seats) ≡ setup.threads
    parts_many = length-map seats part ∙ a.len

    -- no two are of one thread
    pub parts_apart : AreOfDifferentThreads (map part seats)
    parts_apart i j d low lt same =
        let many : length (map part seats) ≡ setup.threads = parts_many in
        let j-low : j < setup.threads = subst (λ (n : ℕ). j < n) many lt in
        let i-low : i < setup.threads = omega arith in
        let e : i ≡ j = sym (part_thread i d i-low) ∙ same ∙ part_thread j d j-low in
        omega arith

-- ---- a node that is done

module _ {D : Type 0} (state : D → DiskState) (setup : Setup) (told : Told) (w : Wires) (starts : List (List (DevId × D))) (met : ℕ) (trace : List Entry) (seats : List (Seat D)) (phases : ℕ → Phase) (a : AreSeated state setup w starts (past_of met trace) seats true phases)
    (sh : AreShut setup told phases) (lowest : AreBasesLowest setup) where
  abbrev course_or : (t : ℕ) (o : Option (Seat D)) → slice_get seats t ≡ o → Course
  course_or t None e = new_course
  course_or t (Some s) e = (a.each t s e).sits.course

  -- each thread's course
  abbrev pub courses_of : ℕ → Course
  courses_of t = course_or t (slice_get seats t) refl

  -- which its seat is on
  pub seat_is : (t : ℕ) (s : Seat D) → slice_get seats t ≡ Some s → IsSeat state setup t (phases t) (courses_of t) (past_of met trace t) w (disks_at starts t) s
  seat_is t s e = go (slice_get seats t) refl e
    where
      go : (o : Option (Seat D)) (q : slice_get seats t ≡ o) → o ≡ Some s → IsSeat state setup t (phases t) (course_or t o q) (past_of met trace t) w (disks_at starts t) s
      go None q f = absurd (none f)
        where
          none : None ≡ Some s → ⊥
          none h = cc
      go (Some x) q f = subst (λ (y : Seat D). IsSeat state setup t (phases t) (a.each t x q).sits.course (past_of met trace t) w (disks_at starts t) y) (same_Some x s f) (a.each t x q).sits.seat

  abbrev rows_at : ℕ → List Row
  rows_at t = all_rows (phases t) (courses_of t)

  -- each thread's log, and none of threads that don't exist
  abbrev logs_of : ℕ → List Row
  logs_of t = cond (nat_lt t setup.threads) (rows_at t) []

  logs_are : (t : ℕ) → t < setup.threads → logs_of t ≡ rows_at t
  logs_are t lt = ap (λ (b : Bool). cond b (rows_at t) []) (lt-ltb t setup.threads lt)

  none_else : (t : ℕ) → setup.threads ≤ t → logs_of t ≡ []
  none_else t le = go (nat_lt t setup.threads) refl
    where
      go : (b : Bool) → nat_lt t setup.threads ≡ b → cond b (rows_at t) [] ≡ []
      go true e = absurd (let lt : t < setup.threads = ltb-true t setup.threads e in omega arith)
      go false e = refl

  -- what each thread has at the end
  abbrev pub ends_of : ℕ → Local
  ends_of = locals_of state setup seats

  pub seat_of : (t : ℕ) → t < setup.threads → (s : Seat D) × (slice_get seats t ≡ Some s)
  seat_of t lt = seat_at state setup w starts (past_of met trace) seats true phases a t lt

  -- which is what its seat has
  pub end_is : (t : ℕ) (s : Seat D) → slice_get seats t ≡ Some s → ends_of t ≡ local_or state setup t (Some s)
  end_is t s e = ap (local_or state setup t) e

  -- **the courses are at their end**
  ended : list_all seat_is_done seats ≡ true → are_all_taken seats ≡ true → list_all seat_has_destructed seats ≡ true
      → ends.AreEnded setup told sh.stamp sh.firsts sh.marks logs_of courses_of ends_of
  ended done taken gone = record {
    some = a.some;
    marked = sh.marked lowest;
    courses = λ t lt.
        let u = seat_of t lt in
        subst (λ (p : Phase). IsCourse setup t p (courses_of t) (ends_of t)) (sh.phases_are lowest t)
        (subst (λ (l : Local). IsCourse setup t (phases t) (courses_of t) l) (sym (end_is t u.0 u.1)) ((seat_is t u.0 u.1).worker.course lowest));
    shut = λ t lt.
        let u = seat_of t lt in
        ap (λ (l : Local). l.shared.shut) (end_is t u.0 u.1) ∙ (a.each t u.0 u.1).flag;
    no_queues = λ t r lt high.
        let u = seat_of t lt in
        let many : vec_len u.0.worker.links.queues ≡ setup.threads = (seat_is t u.0 u.1).worker.queues in
        ap (λ (l : Local). l.shared.queues r) (end_is t u.0 u.1) ∙ get_or_past u.0.worker.links.queues.items r [] (omega arith);
    no_sent = λ t r lt high.
        let u = seat_of t lt in
        let many : vec_len u.0.passes.sends ≡ setup.threads = (seat_is t u.0 u.1).linked.sends in
        sym ((seat_is t u.0 u.1).sent r) ∙ ap wires.put_by (slice_get_past u.0.passes.sends.items r (omega arith));
    logs_are = λ t lt. logs_are t lt ∙ ap (λ (p : Phase). all_rows p (courses_of t)) (sh.phases_are lowest t);
    none_else = none_else;
    none_first = sh.none_first;
    spent = are_spent state setup w starts (past_of met trace) seats true phases a done taken;
    destructed = are_destructed state setup w starts (past_of met trace) seats true phases a gone;
  }

  -- ---- the rings

  delivered : wires.AreDelivered (map passes_of seats) → ends.AreDelivered setup.threads courses_of
  delivered d s t low lt =
      let from = seat_of s low in
      let to = seat_of t lt in
      let ring = d s t (passes_of from.0) (passes_of to.0) (map_at passes_of seats s from.0 from.1) (map_at passes_of seats t to.0 to.1) in (
        ring.0,
        ap (λ (ps : List Post). sent_by s ps ++ ring.0) (sym (seat_is t to.0 to.1).taken)
            ∙ ring.1
            ∙ (seat_is s from.0 from.1).sent t,
      )

  -- ---- the registry

  -- it began as the setup does
  rows_are : (r : Registered) → wires.HasJournalOf (map passes_of seats) r → HasRowsOf r setup
  rows_are r h =
      let first = seat_of 0 a.some in
      h.start (passes_of first.0) (map_at passes_of seats 0 first.0 first.1) ∙ (seat_is 0 first.0 first.1).start

  journal_of : (r : Registered) → wires.HasJournalOf (map passes_of seats) r → IsOrdered r.journal → ((x : Setup) → HasRowsOf r x → IsReplayFromStart x r.journal)
      → ends.IsJournalOf setup logs_of courses_of r.journal
  journal_of r h ordered replay = record {
    ordered = ordered;
    replay = replay setup (rows_are r h);
    rows = λ t lt.
        let u = seat_of t lt in
        h.rows t (passes_of u.0) (map_at passes_of seats t u.0 u.1)
        ∙ (seat_is t u.0 u.1).wrote
        ∙ ((seat_is t u.0 u.1).worker.course lowest).wrote
        ∙ ap (λ (rows : List Row). events (entries rows)) (sym (logs_are t lt));
    others = λ t le. h.others t (subst (λ (n : ℕ). n ≤ t) (sym (passes_many state setup w starts (past_of met trace) seats true phases a)) le);
    seen = λ t lt.
        let u = seat_of t lt in
        subst (λ (js : List Entry). StartsWith r.journal js) (seat_is t u.0 u.1).seen (h.seen t (passes_of u.0) (map_at passes_of seats t u.0 u.1));
  }

  -- ---- the merge

  own : (s : Seat D) → (log_with trace s).thread ≡ s.worker.log.thread
  own s = refl

  parts_are : ArePartsOf setup.threads logs_of (map (log_with trace) seats)
  parts_are = record {
    len = parts_many state setup w starts (past_of met trace) seats true phases a (log_with trace) own;
    each = λ t d lt.
        let u = seat_of t lt in
        let q : IsSeat state setup t (phases t) (courses_of t) (past_of met trace t) w (disks_at starts t) u.0 = seat_is t u.0 u.1 in
        get_or_from_slice_get (map (log_with trace) seats) t (log_with trace u.0) d (map_at (log_with trace) seats t u.0 u.1)
        ∙ ap (λ (n : ℕ). let p : Part = record { thread = n; entries = entries_of n trace ++ u.0.worker.log.entries } in p) q.worker.log_thread
        ∙ ap (λ (es : List Entry). let p : Part = record { thread = t; entries = es } in p) (q.worker.log_entries ∙ ap entries (sym (logs_are t lt)));
    none_else = none_else;
  }

  module _ (done : list_all seat_is_done seats ≡ true) (taken : are_all_taken seats ≡ true) (gone : list_all seat_has_destructed seats ≡ true) (d : wires.AreDelivered (map passes_of seats))
      (r : Registered) (h : wires.HasJournalOf (map passes_of seats) r) (ordered : IsOrdered r.journal) (replay : (x : Setup) → HasRowsOf r x → IsReplayFromStart x r.journal)
      (merged : List Entry) (m : IsMerge (map (log_with trace) seats) merged) where
    merge_is : IsMergeOf logs_of merged
    merge_is = merge_of_parts setup.threads logs_of (map (log_with trace) seats) merged parts_are m

    -- **a node that is done has a complete run**
    pub done_complete : IsCompleteRun setup told merged
    done_complete =
        courses_are_complete_run setup told sh.stamp sh.firsts sh.marks logs_of courses_of ends_of r.journal merged
        (ended done taken gone) (delivered d) (journal_of r h ordered replay) merge_is

    -- in which each thread served what its course says
    pub done_served : (t : ℕ) (dev : DevId) → t < setup.threads → served_from setup t dev (start setup told) merged ≡ (courses_of t).served dev
    done_served =
        courses_serve_as_seen setup told sh.stamp sh.firsts sh.marks logs_of courses_of ends_of r.journal merged
        (ended done taken gone) (delivered d) (journal_of r h ordered replay) merge_is

    -- and held what its course says
    pub done_held : (t : ℕ) → t < setup.threads → held_from setup t (start setup told) merged ≡ (courses_of t).held
    done_held =
        courses_hold_as_seen setup told sh.stamp sh.firsts sh.marks logs_of courses_of ends_of r.journal merged
        (ended done taken gone) (delivered d) (journal_of r h ordered replay) merge_is

    -- and which leaves of each base device what its home sees
    pub done_bases : (dev : DevId) → find (is_base dev) (part_of (state_after setup told merged) (home setup dev)).bases ≡ base_here (ends_of (home setup dev)).view dev
    done_bases =
        bases_end_as_seen setup told sh.stamp sh.firsts sh.marks logs_of courses_of ends_of r.journal merged
        (ended done taken gone) (delivered d) (journal_of r h ordered replay) merge_is

-- ---- a node, taken apart

-- the passes of all seats, of which there are this many, may be ended
pub passes_fit : {D : Type 0} {state : D → DiskState} → (n : Node D) → IsNode state n → (k : ℕ) (passes : List Passes) → k ≡ length passes → passes ≡ map passes_of n.seats.items → wires.AreLinked k n.wires passes
passes_fit {state = state} n h k passes many e =
    subst (λ (m : ℕ). wires.AreLinked m n.wires passes) (sym many)
    (subst (λ (qs : List Passes). wires.AreLinked (length qs) n.wires qs) (sym e)
    (subst (λ (m : ℕ). wires.AreLinked m n.wires (map passes_of n.seats.items)) (sym (passes_many state (setup_in n) n.wires h.starts (past_of h.node.met n.trace.items) n.seats.items n.shut h.node.phases h.node.seated))
    (passes_linked state (setup_in n) n.wires h.starts (past_of h.node.met n.trace.items) n.seats.items n.shut h.node.phases h.node.seated)))
