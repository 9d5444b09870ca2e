-- What the threads' logs had is merged behind the trace: each thread sits where it sat, with all that it did, and what its node did is the same.
use Rattle.std.proofs.Common.{◌≡◌, ℕ, zero, suc, ◌+◌, ◌-◌, ◌<◌, ◌≤◌, ◌⊎◌, inr, Bool, true, false, cond, ◌==◌, ◌&&◌, List, [], ◌∷◌, ◌++◌, All, Contains, drop, length, length-append, map, set, sum_by, take, vec_len, Some, inl, refl, sym, ◌∙◌, ap, ap₂, subst, append-nil, eq-eqb, get_or, arith}
use Rattle.std.specs.List.{list_all, slice_get, AllByRecursion}
use Rattle.std.proofs.lemmas.Bool.{cases_eq, cases_lt}
use Rattle.std.specs.Coded.{le_prop}
use Rattle.std.proofs.Math.Seq.{drop-append_seam}
use Rattle.std.proofs.lemmas.List.{length-map, take_all}
use Rattle.std.proofs.lemmas.List.Elements.{filter-append, All-get_or}
use Rattle.std.proofs.lemmas.List.Sums.{sum_by-cons}
use Rattle.std.proofs.lemmas.Option.{get_or_from_slice_get, same_Some}
use Rattle.bd_base.specs.declared.act.Entry.{Entry}
use Rattle.bd_base.specs.declared.id.DevId.{DevId}
use Rattle.bd_base.specs.declared.setup.Setup.{Setup}
use Rattle.bd_log.specs.Merge.{entries_of, threads_of, IsBefore, IsMerge, Part}
use Rattle.bd_log.proofs.Order.{all_append, all_map, ordered_append}
use Rattle.bd_outside.specs.Disk.{DiskState}
use Rattle.bd_law_threads.specs.Course.{Course, Phase}
use Rattle.bd_law_threads.proofs.Arriving.{stamps_are_met}
use Rattle.bd_disks.specs.Contents.{contents_of}
use Rattle.bd_wires.specs.declared.wires.Wires.{Wires}
use Rattle.bd_worker.specs.declared.seat.Seat.{Seat}
use Rattle.bd_report.specs.Counter.{HasCounted}
use Rattle.bd_report.specs.declared.counter.Counter.{Counter}
use Rattle.bd_node.specs.Shutting.{IsUnchanged}
use Rattle.bd_node.specs.Disks.{disks_at, told_of}
use Rattle.bd_node.specs.Gathering.{greatest_last, Gathers}
use Rattle.bd_worker.specs.Seats.{part_in, IsHandedOut, seen_over, made_by, IsAt, IsSeat}
use Rattle.bd_node.specs.declared.node.Node.{Node}
use Rattle.bd_node.specs.declared.node.NodeState.{NodeState}
use Rattle.bd_node.specs.declared.node.NodeState.TheVariants.{Idle, Done, Busy}
use Rattle.bd_node.specs.Whole.{are_all_taken, entries_left, has_taken, is_idle, is_over, log_with, logs_of, past_of, seat_has_destructed, seat_is_blocked, seat_is_done, seat_rests, state_of, ArePhases, AreSeated, HasSameLogs, IsNodeOf, IsTrace}
use Rattle.bd_node.proofs.Disks.{no_more}
use Rattle.bd_worker.proofs.Places.{has_at, is_below, set_else, set_here}
use Rattle.bd_node.proofs.Resting.{seat_at}
use Rattle.bd_node.proofs.Settling.{map_at, parts_many, part_thread}
use Rattle.bd_node.proofs.Telling.{none_made}
use Rattle.bd_thread.specs.Timely.{IsOnTime}

-- ---- lists, place by place

-- what is made of each is the same
pub maps_alike : {X Y : Type 0} (f g : X → Y) (xs ys : List X) → length ys ≡ length xs → ((i : ℕ) (x y : X) → slice_get xs i ≡ Some x → slice_get ys i ≡ Some y → g y ≡ f x) → map g ys ≡ map f xs
maps_alike f g [] [] len all = refl
maps_alike f g [] (y ∷ ys) len all = absurd (omega arith)
maps_alike f g (x ∷ xs) [] len all = absurd (omega arith)
maps_alike {X} {Y} f g (x ∷ xs) (y ∷ ys) len all =
    ap₂ (λ (z : Y) (zs : List Y). z ∷ zs) (all 0 x y refl refl) (maps_alike f g xs ys (omega arith) (λ i a b h k. all (suc i) a b h k))

-- all pass where all pass
pub all_alike : {X : Type 0} (p q : X → Bool) (xs ys : List X) → length ys ≡ length xs → ((i : ℕ) (x y : X) → slice_get xs i ≡ Some x → slice_get ys i ≡ Some y → q y ≡ p x) → list_all q ys ≡ list_all p xs
all_alike p q [] [] len all = refl
all_alike p q [] (y ∷ ys) len all = absurd (omega arith)
all_alike p q (x ∷ xs) [] len all = absurd (omega arith)
all_alike p q (x ∷ xs) (y ∷ ys) len all =
    ap₂ (λ (a b : Bool). a && b) (all 0 x y refl refl) (all_alike p q xs ys (omega arith) (λ i a b h k. all (suc i) a b h k))

-- one more was changed as the others before it
pub more_at : {X : Type 0} (R : X → X → Type 0) (before xs : List X) (place : ℕ) (old new : X) → slice_get xs place ≡ Some old → ((i : ℕ) → place ≤ i → slice_get xs i ≡ slice_get before i)
    → ((i : ℕ) (a b : X) → i < place → slice_get before i ≡ Some a → slice_get xs i ≡ Some b → R a b) → R old new
    → (i : ℕ) (a b : X) → i < place + 1 → slice_get before i ≡ Some a → slice_get (set xs place new) i ≡ Some b → R a b
more_at {X} R before xs place old new at later all r i a b lt h k = go (cases_eq place i)
  where
    go : (place ≡ i) ⊎ (place ≡ i → ⊥) → R a b
    go (inl same) =
        let first : old ≡ a = same_Some old a (sym at ∙ later place (omega arith) ∙ ap (slice_get before) same ∙ h) in
        let second : new ≡ b = same_Some new b (sym (set_here xs place new (is_below xs place old at)) ∙ ap (slice_get (set xs place new)) same ∙ k) in
        subst (λ (x : X). R x b) first (subst (λ (x : X). R old x) second r)
    go (inr other) = all i a b (below other) h (sym (set_else xs place i new other) ∙ k)
      where
        below : (place ≡ i → ⊥) → i < place
        below ne = low (cases_lt i place)
          where
            low : (i < place) ⊎ (place ≤ i) → i < place
            low (inl less) = less
            low (inr le) = absurd (ne (omega arith))

-- ---- a merge

len_threads : (parts : List Part) → length (threads_of parts) ≡ length parts
len_threads parts = length-map parts (λ p. p.thread)

-- the thread of a part stands at its place
thread_at : (parts : List Part) (k : ℕ) (d : Part) (e : ℕ) → k < length parts → get_or (threads_of parts) k e ≡ (get_or parts k d).thread
thread_at [] k d e lt = absurd (omega arith)
thread_at (p ∷ ps) zero d e lt = refl
thread_at (p ∷ ps) (suc k) d e lt = thread_at ps k d e (omega arith)

-- what holds of the entries of a thread
of_thread : (P : Entry → Type 0) (t : ℕ) (es : List Entry) → AllByRecursion P (entries_of t es) → AllByRecursion (λ e. e.thread ≡ t → P e) es
of_thread P t [] h = tt
of_thread P t (e ∷ es) h = go (e.thread == t) refl h (λ k. of_thread P t es k)
  where
    go : (b : Bool) → (e.thread == t) ≡ b → AllByRecursion P (cond b (e ∷ entries_of t es) (entries_of t es))
        → (AllByRecursion P (entries_of t es) → AllByRecursion (λ e. e.thread ≡ t → P e) es) → AllByRecursion (λ e. e.thread ≡ t → P e) (e ∷ es)
    go true is h rest = (λ same. h.0, rest h.1)
    go false is h rest = (λ same. absurd (clash (sym (eq-eqb e.thread t same) ∙ is)), rest h)
      where
        clash : true ≡ false → ⊥
        clash k = cc

-- and of each thread that has entries, of all
of_threads : (P : Entry → Type 0) (K : ℕ → Type 0) (es : List Entry) → ((t : ℕ) → K t → AllByRecursion (λ e. e.thread ≡ t → P e) es) → AllByRecursion (λ e. K e.thread) es → AllByRecursion P es
of_threads P K [] each known = tt
of_threads P K (e ∷ es) each known = ((each e.thread known.0).0 refl, of_threads P K es (λ t k. (each t k).1) known.1)

-- what holds of the entries of each part holds of the merge
pub of_parts : (P : Entry → Type 0) (parts : List Part) (merged : List Entry) → IsMerge parts merged → ((k : ℕ) (d : Part) → k < length parts → AllByRecursion P (get_or parts k d).entries) → AllByRecursion P merged
of_parts P parts merged m each = of_threads P (λ t. Contains (threads_of parts) t) merged (λ t c. of_thread P t merged (of_one t c)) m.known
  where
    blank : Part
    blank = record { thread = 0; entries = [] }

    of_one : (t : ℕ) → Contains (threads_of parts) t → AllByRecursion P (entries_of t merged)
    of_one t c =
        let lt : c.0 < length parts = subst (λ (n : ℕ). c.0 < n) (len_threads parts) c.1 in
        let thread : (get_or parts c.0 blank).thread ≡ t = sym (thread_at parts c.0 blank t lt) ∙ c.2 in
        subst (λ (n : ℕ). AllByRecursion P (entries_of n merged)) thread
        (subst (λ (es : List Entry). AllByRecursion P es) (sym (m.own c.0 blank lt)) (each c.0 blank lt))

-- all up to a stamp come before all above it
all_before : (met : ℕ) (xs ys : List Entry) → AllByRecursion (λ x. x.stamp ≤ met) xs → AllByRecursion (λ y. met < y.stamp) ys → AllByRecursion (λ x. AllByRecursion (IsBefore x) ys) xs
all_before met xs ys low high =
    all_map (λ x. x.stamp ≤ met) (λ x. AllByRecursion (IsBefore x) ys) xs (λ x le. all_map (λ y. met < y.stamp) (IsBefore x) ys (λ y lt. inl (omega (arith, le, lt))) high) low

-- what is behind the first of them
behind : (before merged now : List Entry) (m : ℕ) → now ≡ before ++ merged → m ≡ length before → take (length now - m) (drop m now) ≡ merged
behind before merged now m is len =
    ap₂ (λ (es : List Entry) (k : ℕ). take (length es - k) (drop k es)) is len
    ∙ ap (λ (es : List Entry). take (length (before ++ merged) - length before) es) (drop-append_seam before merged)
    ∙ take_all (length (before ++ merged) - length before) merged (omega (arith, length-append before merged))

-- ---- the seats

module _ {D : Type 0} (stamp : ℕ) (seats news : List (Seat D)) (len : length news ≡ length seats)
    (each : (i : ℕ) (a b : Seat D) → slice_get seats i ≡ Some a → slice_get news i ≡ Some b → IsHandedOut stamp a b) where
  -- ---- how far they are

  same_test : (p : Seat D → Bool) → ((a : Seat D) (n : ℕ) → p (record a { worker = record a.worker { log = record a.worker.log { entries = []; last = stamp; capacity = n } } }) ≡ p a) → list_all p news ≡ list_all p seats
  same_test p same = all_alike p p seats news len (λ i a b h k. ap p ((each i a b h k).is) ∙ same a b.worker.log.capacity)

  pub rest_alike : list_all seat_rests news ≡ list_all seat_rests seats
  rest_alike = same_test seat_rests (λ a n. refl)

  pub done_alike : list_all seat_is_done news ≡ list_all seat_is_done seats
  done_alike = same_test seat_is_done (λ a n. refl)

  pub blocked_alike : list_all seat_is_blocked news ≡ list_all seat_is_blocked seats
  blocked_alike = same_test seat_is_blocked (λ a n. refl)

  pub destructed_alike : list_all seat_has_destructed news ≡ list_all seat_has_destructed seats
  destructed_alike = same_test seat_has_destructed (λ a n. refl)

  pub taken_alike : are_all_taken news ≡ are_all_taken seats
  taken_alike = all_alike (λ from. list_all (λ to. has_taken from to) seats) (λ from. list_all (λ to. has_taken from to) news) seats news len one
    where
      one : (i : ℕ) (a b : Seat D) → slice_get seats i ≡ Some a → slice_get news i ≡ Some b → list_all (λ to. has_taken b to) news ≡ list_all (λ to. has_taken a to) seats
      one i a b h k =
          ap (λ (x : Seat D). list_all (λ to. has_taken x to) news) ((each i a b h k).is)
          ∙ same_test (λ to. has_taken a to) (λ to n. refl)

  -- ---- what they did

  -- nothing is left in their logs
  pub none_left : sum_by made_by news ≡ 0
  none_left = none_made news (λ i b k.
      let a = has_at seats i (subst (λ (n : ℕ). i < n) len (is_below news i b k)) in
      ap made_by (each i a.0 b a.1 k).is)

  module _ (trace merged : List Entry) (m : IsMerge (map part_in seats) merged) where
    -- of each thread the merge has what its log had
    own_at : (i : ℕ) (a : Seat D) → slice_get seats i ≡ Some a → entries_of a.worker.log.thread merged ≡ a.worker.log.entries
    own_at i a h =
        let at : slice_get (map part_in seats) i ≡ Some (part_in a) = map_at part_in seats i a h in
        subst (λ (p : Part). entries_of p.thread merged ≡ p.entries) (get_or_from_slice_get (map part_in seats) i (part_in a) (part_in a) at)
        (m.own i (part_in a) (is_below (map part_in seats) i (part_in a) at))

    -- so with the trace each has what it had
    pub logs_alike : map (log_with (trace ++ merged)) news ≡ map (log_with trace) seats
    logs_alike = maps_alike (log_with trace) (log_with (trace ++ merged)) seats news len (λ i a b h k.
        ap (log_with (trace ++ merged)) ((each i a b h k).is)
        ∙ ap (λ (es : List Entry). let p : Part = record { thread = a.worker.log.thread; entries = es } in p)
        (append-nil (entries_of a.worker.log.thread (trace ++ merged))
        ∙ filter-append (λ e. e.thread == a.worker.log.thread) trace merged
        ∙ ap (λ (es : List Entry). entries_of a.worker.log.thread trace ++ es) (own_at i a h)))

    -- ---- where they sit

    module _ (state : D → DiskState) (setup : Setup) (w : Wires) (starts : List (List (DevId × D))) (met : ℕ) (shut : Bool) (phases : ℕ → Phase)
        (a : AreSeated state setup w starts (past_of met trace) seats shut phases) (below : All (λ s. s.worker.log.last ≤ stamp) seats) where
      -- a seat whose log was handed out
      abbrev emptied : Seat D → ℕ → Seat D
      emptied s n = record s { worker = record s.worker { log = record s.worker.log { entries = []; last = stamp; capacity = n } } }

      below_at : (i : ℕ) (s : Seat D) → slice_get seats i ≡ Some s → s.worker.log.last ≤ stamp
      below_at i s h =
          subst (λ (x : Seat D). x.worker.log.last ≤ stamp) (get_or_from_slice_get seats i s s h)
          (All-get_or (λ s. s.worker.log.last ≤ stamp) seats i s (is_below seats i s h) below)

      -- it sits where it sat
      emptied_sits : (i : ℕ) (p : Phase) (c : Course) (opened : List (DevId × D)) (s : Seat D) (n : ℕ) → slice_get seats i ≡ Some s
          → IsSeat state setup i p c (past_of met trace i) w opened s → IsSeat state setup i p (record c { last = stamp }) (past_of stamp (trace ++ merged) i) w opened (emptied s n)
      emptied_sits i p c opened s n h q =
          let contents = contents_of state s.disks in
          let at : IsAt setup i p c (past_of met trace i) contents s.worker = q.worker in
          let le : c.last ≤ stamp = subst (λ (k : ℕ). k ≤ stamp) at.log_last (below_at i s h) in
          let own : entries_of i merged ≡ s.worker.log.entries = subst (λ (k : ℕ). entries_of k merged ≡ s.worker.log.entries) at.log_thread (own_at i s h) in
          record {
            worker = record {
              me = at.me;
              number = at.number;
              given = at.given;
              within = at.within;
              tickets = at.tickets;
              queues = at.queues;
              rows = at.rows;
              empty = at.empty;
              log_thread = at.log_thread;
              log_entries =
                  append-nil (entries_of i (trace ++ merged))
                  ∙ filter-append (λ e. e.thread == i) trace merged
                  ∙ ap (λ (es : List Entry). entries_of i trace ++ es) own
                  ∙ at.log_entries;
              log_last = refl;
              later = tt;
              met = omega arith;
              times =
                  subst (IsOnTime s.worker.thread)
                  (sym (append-nil (entries_of i (trace ++ merged))
                  ∙ filter-append (λ e. e.thread == i) trace merged
                  ∙ ap (λ (es : List Entry). entries_of i trace ++ es) own)) at.times;
              held = at.held;
              once = at.once;
              replica = at.replica;
              course = λ lowest. stamps_are_met setup i p c (seen_over setup contents s.worker) stamp le (at.course lowest);
            };
            linked = q.linked;
            start = q.start;
            taken = q.taken;
            sent = q.sent;
            seen = q.seen;
            wrote = q.wrote;
            count = q.count;
            done = q.done;
          }

      pub gathered_seated : AreSeated state setup w starts (past_of stamp (trace ++ merged)) news shut phases
      gathered_seated = record {
        some = a.some;
        len = len ∙ a.len;
        each = λ i b k.
            let u = has_at seats i (subst (λ (n : ℕ). i < n) len (is_below news i b k)) in
            let s : Seat D = u.0 in
            let is : b ≡ emptied s b.worker.log.capacity = (each i s b u.1 k).is in
            let in_seat = a.each i s u.1 in
            record {
              sits = record {
                course = record in_seat.sits.course { last = stamp };
                seat = subst (λ (x : Seat D). IsSeat state setup i (phases i) (record in_seat.sits.course { last = stamp }) (past_of stamp (trace ++ merged) i) w (disks_at starts i) x) (sym is)
                    (emptied_sits i (phases i) in_seat.sits.course (disks_at starts i) s b.worker.log.capacity u.1 in_seat.sits.seat);
              };
              flag = ap (λ (x : Seat D). x.worker.links.shut) is ∙ in_seat.flag;
              goes = ap (λ (x : Seat D). x.halted) is ∙ in_seat.goes;
            };
      }

      -- ---- the trace

      of_logs : (P : Entry → Type 0) → ((i : ℕ) (s : Seat D) → slice_get seats i ≡ Some s → AllByRecursion P s.worker.log.entries) → AllByRecursion P merged
      of_logs P all = of_parts P (map part_in seats) merged m one
        where
          one : (k : ℕ) (d : Part) → k < length (map part_in seats) → AllByRecursion P (get_or (map part_in seats) k d).entries
          one k d lt =
              let u = has_at seats k (subst (λ (n : ℕ). k < n) (parts_many state setup w starts (past_of met trace) seats shut phases a part_in (λ s. refl) ∙ sym a.len) lt) in
              subst (λ (p : Part). AllByRecursion P p.entries) (sym (get_or_from_slice_get (map part_in seats) k (part_in u.0) d (map_at part_in seats k u.0 u.1))) (all k u.0 u.1)

      module _ (old : IsTrace setup met trace) where
        met_below : met ≤ stamp
        met_below =
            let first = seat_at state setup w starts (past_of met trace) seats shut phases a 0 a.some in
            let le : met ≤ first.0.worker.log.last = (a.each 0 first.0 first.1).sits.seat.worker.met in
            let top : first.0.worker.log.last ≤ stamp = below_at 0 first.0 first.1 in
            omega (arith, le, top)

        known : (t : ℕ) → Contains (threads_of (map part_in seats)) t → t < setup.threads
        known t c =
            let lt : c.0 < length (map part_in seats) = subst (λ (n : ℕ). c.0 < n) (len_threads (map part_in seats)) c.1 in
            let many : length (map part_in seats) ≡ setup.threads = parts_many state setup w starts (past_of met trace) seats shut phases a part_in (λ s. refl) in
            let low : c.0 < setup.threads = subst (λ (n : ℕ). c.0 < n) many lt in
            let blank : Part = record { thread = 0; entries = [] } in
            let same : c.0 ≡ t =
            sym (part_thread state setup w starts (past_of met trace) seats shut phases a part_in (λ s. refl) c.0 blank low) ∙ sym (thread_at (map part_in seats) c.0 blank t lt) ∙ c.2 in
            subst (λ (n : ℕ). n < setup.threads) same low

        pub gathered_trace : IsTrace setup stamp (trace ++ merged)
        gathered_trace = record {
          ordered = ordered_append trace merged old.ordered m.ordered
              (all_before met trace merged old.within (of_logs (λ y. met < y.stamp) (λ i s h. (a.each i s h).sits.seat.worker.later)));
          known = all_append (λ x. x.thread < setup.threads) trace merged old.known
              (all_map (λ x. Contains (threads_of (map part_in seats)) x.thread) (λ x. x.thread < setup.threads) merged (λ x c. known x.thread c) m.known);
          within = all_append (λ x. x.stamp ≤ stamp) trace merged (all_map (λ x. x.stamp ≤ met) (λ x. x.stamp ≤ stamp) trace (λ x le. omega (arith, le, met_below)) old.within)
              (of_logs (λ x. x.stamp ≤ stamp) (λ i s h. (let u = has_at news i (subst (λ (n : ℕ). i < n) (sym len) (is_below seats i s h)) in (each i s u.0 h u.1).within)));
        }

-- ---- a node of which all was gathered

-- no sum of none
pub none_of_sum : {X : Type 0} (f : X → ℕ) (xs : List X) → sum_by f xs ≡ 0 → (i : ℕ) (x : X) → slice_get xs i ≡ Some x → f x ≡ 0
none_of_sum f [] none i x h = absurd (omega (arith, is_below [] i x h))
none_of_sum f (y ∷ ys) none zero x h =
    let both : sum_by f (y ∷ ys) ≡ f y + sum_by f ys = sum_by-cons f y ys in
    ap f (sym (same_Some y x h)) ∙ (let e : f y ≡ 0 = omega (arith, both, none) in e)
none_of_sum f (y ∷ ys) none (suc i) x h =
    let both : sum_by f (y ∷ ys) ≡ f y + sum_by f ys = sum_by-cons f y ys in
    none_of_sum f ys (omega (arith, both, none)) i x h

-- its trace is the merge of all that its threads did
pub trace_is_merge : {D : Type 0} (state : D → DiskState) (starts : List (List (DevId × D))) (n : Node D) → IsNodeOf state starts n → entries_left n ≡ 0 → IsMerge (logs_of n) n.trace.items
trace_is_merge {D} state starts n h none = record {
  ordered = h.trace.ordered;
  own = own;
  known = all_map (λ x. x.thread < n.setup.now.threads) (λ x. Contains (threads_of parts) x.thread) n.trace.items (λ x lt. known x.thread lt) h.trace.known;
}
  where
    seats : List (Seat D)
    seats = n.seats.items

    parts : List Part
    parts = logs_of n

    many : length parts ≡ n.setup.now.threads
    many = parts_many state n.setup.now n.wires starts (past_of h.met n.trace.items) seats n.shut h.phases h.seated (log_with n.trace.items) (λ s. refl)

    own : All (λ p. entries_of p.thread n.trace.items ≡ p.entries) parts
    own k d lt =
        let u = has_at seats k (subst (λ (m : ℕ). k < m) (many ∙ sym h.seated.len) lt) in
        let empty : u.0.worker.log.entries ≡ [] = no_more u.0.worker.log.entries (none_of_sum made_by seats none k u.0 u.1) in
        let t : ℕ = u.0.worker.log.thread in
        subst (λ (p : Part). entries_of p.thread n.trace.items ≡ p.entries) (sym (get_or_from_slice_get parts k (log_with n.trace.items u.0) d (map_at (log_with n.trace.items) seats k u.0 u.1)))
        (sym (ap (λ (es : List Entry). entries_of t n.trace.items ++ es) empty ∙ append-nil (entries_of t n.trace.items)))

    known : (t : ℕ) → t < n.setup.now.threads → Contains (threads_of parts) t
    known t lt =
        let within : t < length parts = subst (λ (m : ℕ). t < m) (sym many) lt in
        let blank : Part = record { thread = 0; entries = [] } in (
          t,
          subst (λ (m : ℕ). t < m) (sym (len_threads parts)) within,
          thread_at parts t blank t within
              ∙ part_thread state n.setup.now n.wires starts (past_of h.met n.trace.items) seats n.shut h.phases h.seated (log_with n.trace.items) (λ s. refl) t blank lt,
        )

-- ---- a node whose logs were handed out, and merged behind its trace

-- how far it is
pub state_alike : {D : Type 0} (n new : Node D) (stamp : ℕ) → new.shut ≡ n.shut → length new.seats.items ≡ length n.seats.items
    → ((i : ℕ) (a b : Seat D) → slice_get n.seats.items i ≡ Some a → slice_get new.seats.items i ≡ Some b → IsHandedOut stamp a b) → state_of new ≡ state_of n
state_alike n new stamp flag len each =
    let rest = rest_alike stamp n.seats.items new.seats.items len each in
    let taken = taken_alike stamp n.seats.items new.seats.items len each in
    let over : is_over new ≡ is_over n =
    ap₂ (λ (a b : Bool). a && b) (ap₂ (λ (a b : Bool). a && b) (done_alike stamp n.seats.items new.seats.items len each) taken) (destructed_alike stamp n.seats.items new.seats.items len each) in
    let idle : is_idle new ≡ is_idle n = ap₂ (λ (a b : Bool). a && b) (ap₂ (λ (a b : Bool). a && b) rest taken) (blocked_alike stamp n.seats.items new.seats.items len each) in
    ap₂ (λ (s o : Bool). cond s (cond o Done Busy) (cond (is_idle new) Idle Busy)) flag over
    ∙ ap (λ (i : Bool). cond n.shut (cond (is_over n) Done Busy) (cond i Idle Busy)) idle

-- which proof it has of its room makes no difference
pub any_room : {D : Type 0} (n : Node D) (room : vec_len n.seats + length n.shelf.items ≤ n.shelf.capacity) → record n { room = room } ≡ n
any_room n room = ap (λ (r : vec_len n.seats + length n.shelf.items ≤ n.shelf.capacity). record n { room = r }) (le_prop room n.room)

-- nothing happened, and then all was gathered
gathers_then : {D : Type 0} (a b c : Node D) → IsUnchanged a b → Gathers b c → Gathers a c
gathers_then {D} a b c same g = record {
  merged = g.merged;
  is_merge = subst (λ (ss : List (Seat D)). IsMerge (map part_in ss) g.merged) same.seats g.is_merge;
  trace = g.trace ∙ ap (λ (es : List Entry). es ++ g.merged) same.trace;
  stamp = g.stamp;
  greatest = g.greatest ∙ ap (λ (ss : List (Seat D)). greatest_last ss) same.seats;
  below = subst (λ (ss : List (Seat D)). All (λ s. s.worker.log.last ≤ g.stamp) ss) same.seats g.below;
  len = g.len ∙ ap (λ (ss : List (Seat D)). length ss) same.seats;
  each = λ i x y h k. g.each i x y (ap (λ (ss : List (Seat D)). slice_get ss i) same.seats ∙ h) k;
  setup = g.setup ∙ same.setup;
  wires = g.wires ∙ same.wires;
  schedule = g.schedule ∙ same.schedule;
  shut = g.shut ∙ same.shut;
  counter = g.counter ∙ same.counter;
  shelf = g.shelf ∙ same.shelf;
}

pub gathers_so : {D : Type 0} (a b c : Node D) (r : vec_len a.seats + length a.shelf.items ≤ a.shelf.capacity) (s : vec_len b.seats + length b.shelf.items ≤ b.shelf.capacity)
    → IsUnchanged (record a { room = r }) b → Gathers (record b { room = s }) c → Gathers a c
gathers_so {D} a b c r s same g = gathers_then a b c (subst (λ (x : Node D). IsUnchanged x b) (any_room a r) same) (subst (λ (x : Node D). Gathers x c) (any_room b s) g)

-- how far a node is goes by whether the Shutdown came, and by the seats
abbrev state_at : {D : Type 0} → Bool → List (Seat D) → NodeState
state_at f ss =
    cond f (cond ((list_all seat_is_done ss && are_all_taken ss) && list_all seat_has_destructed ss) Done Busy) (cond ((list_all seat_rests ss && are_all_taken ss) && list_all seat_is_blocked ss) Idle Busy)

-- a node in which nothing happened is as far as before, with all that its threads did
pub unchanged_logs : {D : Type 0} (a b : Node D) → IsUnchanged a b → HasSameLogs a b
unchanged_logs {D} a b same = record {
  setup = same.setup;
  shut = same.shut;
  schedule = same.schedule;
  logs = ap₂ (λ (es : List Entry) (ss : List (Seat D)). map (log_with es) ss) same.trace same.seats;
  state = ap₂ (λ (f : Bool) (ss : List (Seat D)). state_at f ss) same.shut same.seats;
}

-- all was gathered, and then counted or not
module _ {D : Type 0} (n c : Node D) (k : Counter) (room : vec_len c.seats + length c.shelf.items ≤ c.shelf.capacity) (g : Gathers n c) where
  abbrev pub counted_by : Node D
  counted_by = record c { counter = k; room = room }

  -- its threads did what they did
  pub gathered_logs : HasSameLogs n counted_by
  gathered_logs = record {
    setup = g.setup;
    shut = g.shut;
    schedule = g.schedule;
    logs =
        ap (λ (es : List Entry). map (log_with es) c.seats.items) g.trace
        ∙ logs_alike g.stamp n.seats.items c.seats.items g.len g.each n.trace.items g.merged g.is_merge;
    state = state_alike n counted_by g.stamp g.shut g.len g.each;
  }

  -- nothing is left
  pub gathered_all : entries_left counted_by ≡ 0
  gathered_all = none_left g.stamp n.seats.items c.seats.items g.len g.each

  -- what is behind the trace was counted
  pub counts_all : (now : List Entry) (m : ℕ) → now ≡ c.trace.items → m ≡ length n.trace.items → HasCounted n.setup.now (n.trace.items ++ take (length now - m) (drop m now)) k
      → HasCounted n.setup.now (n.trace.items ++ g.merged) k
  counts_all now m is len counts = subst (λ (es : List Entry). HasCounted n.setup.now (n.trace.items ++ es) k) (behind n.trace.items g.merged now m (is ∙ g.trace) len) counts

  -- and where it was counted, it is the node that it was, from whatever disks
  pub gathered_node : HasCounted n.setup.now (n.trace.items ++ g.merged) k
      → (state : D → DiskState) (starts : List (List (DevId × D))) → IsNodeOf state starts n → IsNodeOf state starts counted_by
  gathered_node counts state starts h =
      let setup : Setup = n.setup.now in
      let setup-is : c.setup.now ≡ setup = ap (λ s. s.now) g.setup in
      let trace : List Entry = n.trace.items ++ g.merged in
      let seated : AreSeated state setup n.wires starts (past_of g.stamp trace) c.seats.items n.shut h.phases =
      gathered_seated g.stamp n.seats.items c.seats.items g.len g.each n.trace.items g.merged g.is_merge state setup n.wires starts h.met n.shut h.phases h.seated g.below in
      let in_order : IsTrace setup g.stamp trace =
      gathered_trace g.stamp n.seats.items c.seats.items g.len g.each n.trace.items g.merged g.is_merge state setup n.wires starts h.met n.shut h.phases h.seated g.below h.trace in
      record {
        many = h.many ∙ ap (λ (x : Setup). x.threads) (sym setup-is);
        met = g.stamp;
        trace = subst (λ (x : Setup). IsTrace x g.stamp c.trace.items) (sym setup-is) (subst (λ (es : List Entry). IsTrace setup g.stamp es) (sym g.trace) in_order);
        counted =
            subst (λ (x : Setup). HasCounted x c.trace.items k) (sym setup-is)
            (subst (λ (es : List Entry). HasCounted setup es k) (sym g.trace) counts);
        phases = h.phases;
        seated =
            subst (λ (x : Setup). AreSeated state x c.wires starts (past_of g.stamp c.trace.items) c.seats.items c.shut h.phases) (sym setup-is)
            (subst (λ (x : Wires). AreSeated state setup x starts (past_of g.stamp c.trace.items) c.seats.items c.shut h.phases) (sym g.wires)
            (subst (λ (es : List Entry). AreSeated state setup n.wires starts (past_of g.stamp es) c.seats.items c.shut h.phases) (sym g.trace)
            (subst (λ (b : Bool). AreSeated state setup n.wires starts (past_of g.stamp trace) c.seats.items b h.phases) (sym g.shut) seated)));
        phases_are =
            subst (λ (x : Setup). ArePhases x (told_of state x starts) c.shut h.phases) (sym setup-is)
            (subst (λ (b : Bool). ArePhases setup (told_of state setup starts) b h.phases) (sym g.shut) h.phases_are);
      }
