-- Seats before any entry, and a node of them.
use Rattle.std.proofs.Common.{◌≡◌, ℕ, zero, suc, ◌+◌, ◌<◌, List, [], ◌∷◌, ◌++◌, length, vec_len, drop, Some, None, ◌⊎◌, inl, inr, refl, sym, ◌∙◌, ap, subst, add-one, arith, rules}
use Rattle.std.specs.List.{slice_get, AllByRecursion}
use Rattle.bd_base.specs.declared.act.Entry.{Entry}
use Rattle.std.specs.Option.{option_map}
use Rattle.std.specs.Prelude.{Bool, false}
use Rattle.std.proofs.lemmas.List.{length-replicate}
use Rattle.std.proofs.lemmas.Option.{get_or_from_slice_get, same_Some, slice_get-map}
use Rattle.bd_base.specs.declared.id.DevId.{DevId}
use Rattle.bd_base.specs.declared.setup.Setup.{Setup}
use Rattle.bd_turns.specs.declared.queue.Message.{Message}
use Rattle.bd_machine.specs.declared.state.Content.{Content}
use Rattle.bd_machine.specs.Content.{Told}
use Rattle.bd_machine.specs.View.{View}
use Rattle.bd_outside.specs.Disk.{DiskState}
use Rattle.bd_disks.specs.Contents.{contents_of}
use Rattle.bd_disks.specs.Done.{AreDoneBy}
use Rattle.bd_disks.proofs.Done.{done_none}
use Rattle.bd_law_disks.specs.Told.{told_local, IsOnce}
use Rattle.bd_law_disks.proofs.Kept.{start_is_once}
use Rattle.bd_turns.specs.Laws.{shared_at_start}
use Rattle.bd_turns.specs.Local.{Local}
use Rattle.bd_registry.specs.State.{Registered, start_of}
use Rattle.bd_law_threads.specs.Course.{IsCourse, Phase}
use Rattle.bd_law_threads.specs.Steps.{first_phase, local_at_start, new_course}
use Rattle.bd_law_threads.proofs.Arriving.{course_begins}
use Rattle.bd_thread.specs.Seen.{local}
use Rattle.bd_thread.proofs.Starting.{new_is_at_start}
use Rattle.bd_wires.specs.declared.wires.Passes.{Passes}
use Rattle.bd_wires.specs.declared.wires.Wires.{Wires}
use Rattle.bd_wires.specs.Wires.{put_into, AreNew, IsLinked, IsUnused}
use Rattle.bd_worker.specs.declared.seat.Seat.{Seat}
use Rattle.bd_worker.specs.Seats.{IsSeat}
use Rattle.bd_node.specs.Starting.{AreNewSeats, IsNewSeat}
use Rattle.bd_node.specs.Whole.{past_of, ArePhases, AreSeated, IsNodeOf, IsTrace}
use Rattle.bd_node.specs.declared.node.Node.{Node}
use Rattle.bd_report.specs.Counter.{HasCounted}
use Rattle.bd_node.specs.Disks.{disks_at, disks_of, told_of}
use Rattle.bd_node.proofs.Opened.{opened_view}
use Rattle.bd_worker.proofs.Places.{has_at, is_below}
use Rattle.bd_thread.specs.Timely.{IsOnTime}
use Rattle.bd_thread.proofs.OnTime.{on_time_at_start}

-- ---- seats, one after the other

pub none_new : {D : Type 0} → (setup : Setup) (passes : List Passes) → AreNewSeats {D = D} setup passes []
none_new {D} setup passes = record { each = λ i s q h e. absurd (none i s h) }
  where
    none : (i : ℕ) (s : Seat D) → slice_get [] i ≡ Some s → ⊥
    none zero s h = cc
    none (suc i) s h = cc

-- after a push the list has what was there, or what was pushed
push_at : {X : Type 0} (xs : List X) (x : X) (i : ℕ) (y : X) → slice_get (xs ++ x ∷ []) i ≡ Some y → (slice_get xs i ≡ Some y) ⊎ ((i ≡ length xs) × (x ≡ y))
push_at [] x zero y h = inr (refl, same_Some x y h)
push_at [] x (suc i) y h = absurd (let e : None ≡ Some y = h in cc)
push_at (z ∷ xs) x zero y h = inl h
push_at (z ∷ xs) x (suc i) y h = go (push_at xs x i y h)
  where
    go : (slice_get xs i ≡ Some y) ⊎ ((i ≡ length xs) × (x ≡ y)) → (slice_get xs i ≡ Some y) ⊎ ((suc i ≡ length (z ∷ xs)) × (x ≡ y))
    go (inl e) = inl e
    go (inr p) = inr (ap suc p.0, p.1)

-- the first of what is left stands at the place up to which all was taken
pub at_drop : {X : Type 0} (xs : List X) (n : ℕ) → slice_get (drop n xs) 0 ≡ slice_get xs n
at_drop [] zero = refl
at_drop [] (suc n) = refl
at_drop (x ∷ xs) zero = refl
at_drop (x ∷ xs) (suc n) = at_drop xs n

-- and the others are left after it
pub drop_next : {X : Type 0} (xs : List X) (n : ℕ) → drop 1 (drop n xs) ≡ drop (n + 1) xs
drop_next {X = X} xs n = rw add-one (go xs n)
  where
    go : (xs : List X) (n : ℕ) → drop 1 (drop n xs) ≡ drop (suc n) xs
    go [] zero = refl
    go [] (suc n) = refl
    go (y ∷ xs) zero = refl
    go (y ∷ xs) (suc n) = go xs n

pub new_more : {D : Type 0} → (setup : Setup) (passes : List Passes) (seats : List (Seat D)) (n : ℕ) (s : Seat D) (q : Passes) → length seats ≡ n → AreNewSeats setup passes seats → slice_get passes n ≡ Some q
    → IsNewSeat n setup q s → AreNewSeats setup passes (seats ++ s ∷ [])
new_more {D} setup passes seats n s q len a at new = record { each = λ i u r h e. go i u r e (push_at seats s i u h) }
  where
    go : (i : ℕ) (u : Seat D) (r : Passes) → slice_get passes i ≡ Some r → (slice_get seats i ≡ Some u) ⊎ ((i ≡ length seats) × (s ≡ u)) → IsNewSeat i setup r u
    go i u r e (inl h) = a.each i u r h e
    go i u r e (inr p) =
        let same : n ≡ i = sym (p.0 ∙ len) in
        let pass : q ≡ r = same_Some q r (sym at ∙ ap (λ (k : ℕ). slice_get passes k) same ∙ e) in
        subst (λ (x : Seat D). IsNewSeat i setup r x) p.1 (subst (λ (x : Passes). IsNewSeat i setup x s) pass (subst (λ (k : ℕ). IsNewSeat k setup q s) same new))

-- ---- a seat

-- a new thread with new passes is at the start of its course, and its disks did nothing yet
pub seat_begins : {D : Type 0} → (state : D → DiskState) (setup : Setup) (disks : List (List (DevId × D))) (w : Wires) (i : ℕ) (s : Seat D) (q : Passes) → i < setup.threads → IsNewSeat i setup q s
    → disks_at disks i ≡ s.disks → IsLinked setup.threads w i q → IsUnused (start_of setup) q
    → IsSeat state setup i (first_phase setup (told_of state setup disks) i) new_course (past_of 0 [] i) w (disks_at disks i) s
seat_begins {D} state setup disks w i s q within new own linked unused =
    let told : Told = told_of state setup disks in
    let contents : DevId → Content = contents_of state s.disks in
    let begun : local s.worker.thread s.worker.links ≡ local_at_start setup [] i = new_is_at_start i setup s.worker.thread s.worker.links new.thread new.links in
    let passes : s.passes ≡ q = new.passes_are in
    record {
      worker = record {
        me = new.me_is;
        number = new.thread.own;
        given = new.thread.given;
        within = within;
        tickets = new.tickets;
        queues =
            (let e : vec_len s.worker.links.queues ≡ length s.worker.links.queues.items = search rules in e)
            ∙ ap (λ (qs : List (List Message)). length qs) new.links.queues
            ∙ length-replicate setup.threads [];
        rows = ap (λ (r : Registered). r.setup) new.links.registry;
        empty = new.links.entries;
        log_thread = new.log_thread;
        log_entries = new.log_entries;
        log_last = new.log_last;
        later = subst (λ (es : List Entry). AllByRecursion (λ x. 0 < x.stamp) es) (sym new.log_entries) tt;
        met = omega arith;
        times = subst (IsOnTime s.worker.thread) (sym new.log_entries) (on_time_at_start i setup s.worker.thread new.thread);
        held = tt;
        once = λ dev. subst (λ (l : Local). IsOnce dev l.view.part.bases) (sym begun) (start_is_once setup [] i dev);
        replica = ap (λ (l : Local). l.shared.registry) begun;
        course = λ lowest.
            subst (λ (l : Local). IsCourse setup i (first_phase setup told i) new_course (told_local setup contents l)) (sym begun)
            (subst (λ (v : View). IsCourse setup i (first_phase setup told i) new_course (record { view = v; shared = shared_at_start setup })) (opened_view state setup disks i s.disks lowest own)
            (course_begins setup told i));
      };
      linked = subst (λ (x : Passes). IsLinked setup.threads w i x) (sym passes) linked;
      start = ap (λ (x : Passes). x.slot.start) passes ∙ unused.start_is;
      taken = ap (λ (x : Passes). x.take.taken) passes ∙ unused.taken;
      sent = λ r. ap (λ (x : Passes). put_into x r) passes ∙ unused.put r;
      seen = ap (λ (x : Passes). x.slot.seen) passes ∙ unused.seen;
      wrote = ap (λ (x : Passes). x.slot.wrote) passes ∙ unused.wrote;
      count = new.seen;
      done = subst (λ (opened : List (DevId × D)). AreDoneBy state setup new_course.served opened s.disks) (sym own) (done_none state setup s.disks);
    }

-- ---- a node

pub seated_at_start : {D : Type 0} → (state : D → DiskState) (setup : Setup) (disks : List (List (DevId × D))) (w : Wires) (seats : List (Seat D)) (passes : List Passes) → 0 < setup.threads → length seats ≡ setup.threads
    → AreNew setup.threads (start_of setup) w passes → AreNewSeats setup passes seats → disks_of seats ≡ disks
    → AreSeated state setup w disks (past_of 0 []) seats false (first_phase setup (told_of state setup disks))
seated_at_start {D} state setup disks w seats passes some len wires new disks-are = record {
  some = some;
  len = len;
  each = λ i s h.
      let within : i < setup.threads = subst (λ (n : ℕ). i < n) len (is_below seats i s h) in
      let q = has_at passes i (subst (λ (n : ℕ). i < n) (sym wires.len) within) in
      let is : IsNewSeat i setup q.0 s = new.each i s q.0 h q.1 in
      let own : disks_at disks i ≡ s.disks =
      get_or_from_slice_get disks i s.disks [] (ap (λ (ds : List (List (DevId × D))). slice_get ds i) (sym disks-are) ∙ slice_get-map (λ (x : Seat D). x.disks) seats i ∙ ap (option_map (λ (x : Seat D). x.disks)) h) in
      record {
        sits = record { course = new_course; seat = seat_begins state setup disks w i s q.0 within is own (wires.linked.1 i q.0 q.1) (wires.unused i q.0 q.1) };
        flag = is.links.running;
        goes = is.goes;
      };
}

-- a node of such seats, with nothing in its trace
pub node_begins : {D : Type 0} → (state : D → DiskState) (starts : List (List (DevId × D))) (n : Node D) → length starts ≡ n.setup.now.threads → n.trace.items ≡ [] → HasCounted n.setup.now [] n.counter → n.shut ≡ false
    → AreSeated state n.setup.now n.wires starts (past_of 0 []) n.seats.items false (first_phase n.setup.now (told_of state n.setup.now starts)) → IsNodeOf state starts n
node_begins {D} state starts n many none counts running seated =
    let setup : Setup = n.setup.now in
    let phases : ℕ → Phase = first_phase setup (told_of state setup starts) in
    record {
      many = many;
      met = 0;
      trace = subst (λ (es : List Entry). IsTrace setup 0 es) (sym none) (record { ordered = tt; known = tt; within = tt });
      counted = subst (λ (es : List Entry). HasCounted setup es n.counter) (sym none) counts;
      phases = phases;
      seated =
          subst (λ (es : List Entry). AreSeated state setup n.wires starts (past_of 0 es) n.seats.items n.shut phases) (sym none)
          (subst (λ (b : Bool). AreSeated state setup n.wires starts (past_of 0 []) n.seats.items b phases) (sym running) seated);
      phases_are = subst (λ (b : Bool). ArePhases setup (told_of state setup starts) b phases) (sym running) (λ t. refl);
    }
