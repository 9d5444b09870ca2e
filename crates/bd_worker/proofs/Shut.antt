-- How a worker and its seat are shut down: thread 0 puts the Shutdown into its log and into the registry's journal, and the others learn of it.
use Rattle.std.proofs.Common.{◌≡◌, ◌≢◌, ℕ, ◌+◌, ◌<◌, ◌≤◌, true, cond, ◌==◌, List, [], ◌∷◌, ◌++◌, drop, length, set, None, refl, sym}
use Rattle.std.proofs.Common.{◌∙◌, ap, ap₂, subst, append-nil, append_assoc, eq-eqb, ne_eqb, arith}
use Rattle.std.specs.List.{AllByRecursion}
use Rattle.std.specs.Prelude.{max}
use Rattle.std.proofs.Math.Seq.{drop-append_seam}
use Rattle.std.proofs.lemmas.List.{map-append}
use Rattle.std.proofs.lemmas.List.Elements.{filter-append, All-cons, All-nil}
use Rattle.bd_base.specs.declared.act.Act.TheVariants as acts
use Rattle.bd_base.specs.declared.act.Entry.{Entry}
use Rattle.bd_base.specs.declared.setup.Setup.{Setup}
use Rattle.bd_machine.specs.declared.state.Registry.{Registry}
use Rattle.bd_machine.specs.Lines.{shutdown_at}
use Rattle.bd_machine.specs.Start.{registry_at_start}
use Rattle.bd_machine.specs.View.{View}
use Rattle.bd_turns.specs.Local.{Local}
use Rattle.bd_log.specs.Log.{entry_of as entry_at, Written}
use Rattle.bd_log.specs.Merge.{entries_of}
use Rattle.bd_log.proofs.Order.{all_append}
use Rattle.bd_law_logs.specs.Rows.{Row, entries, entry_of}
use Rattle.bd_law_logs.specs.Journals.{registry_by}
use Rattle.bd_law_logs.specs.Laws.{shutdown_of}
use Rattle.bd_registry.specs.State.{Registered, shut_at, start_of}
use Rattle.bd_ring.specs.SlotRule.{AddsOwn}
use Rattle.bd_ring.specs.Slots.{Holder, after_give, after_take, IsTakenBy}
use Rattle.bd_law_threads.specs.Course.{all_rows, Course, IsCourse, Phase}
use Rattle.bd_law_threads.specs.Steps.{course_then, second_phase, with_registry, with_shutdown, SeesOwn}
use Rattle.bd_law_threads.proofs.Following.{view_same}
use Rattle.bd_law_threads.proofs.Rows.{registry_on}
use Rattle.bd_law_threads.proofs.Shutting.{shutdown_begins_a_phase}
use Rattle.bd_base.specs.declared.id.DevId.{DevId}
use Rattle.bd_machine.specs.declared.state.Content.{Content}
use Rattle.bd_outside.specs.Disk.{DiskState}
use Rattle.bd_law_served.specs.Served.{ServedPiece}
use Rattle.bd_disks.specs.Contents.{contents_of}
use Rattle.bd_disks.specs.Done.{AreDoneBy}
use Rattle.bd_thread.specs.Seen.{number_of}
use Rattle.bd_law_disks.specs.Told.{AreBasesLowest}
use Rattle.bd_turns.specs.declared.queue.Post.{Post}
use Rattle.bd_wires.specs.declared.wires.Wires.{Wires}
use Rattle.bd_worker.specs.declared.seat.Seat.{Seat}
use Rattle.bd_worker.specs.declared.worker.Worker.{Worker}
use Rattle.bd_worker.specs.Seats.{seen_over, IsAt, IsLent, IsSeat, Past}
use Rattle.bd_worker.specs.Shutting.{IsShutAt, LearnsShut, Shuts, ShutsWith, ShutWith}
use Rattle.bd_worker.proofs.Borrowing.{lent_is, own_rows}
use Rattle.bd_worker.proofs.Workers.{caught_up_at, rest_of_others, with_replica}
use Rattle.bd_thread.specs.Timely.{IsOnTime}
use Rattle.bd_thread.proofs.OnTime.{on_time_still}

-- ---- what a thread sees in a registry that follows

-- the thread sees its handles and channels in its registry
sees_own : (setup : Setup) (t : ℕ) (contents : DevId → Content) (w : Worker) → number_of w.thread ≡ t → SeesOwn t (seen_over setup contents w)
sees_own setup t contents w same = subst (λ (n : ℕ). SeesOwn n (seen_over setup contents w)) same (record { handles = refl; channels = refl })

-- what it sees is as before
caught_up_view : (setup : Setup) (t : ℕ) (p : Phase) (c : Course) (past : Past) (contents : DevId → Content) (w : Worker) (seen : ℕ) (lent r : Registered)
    → AreBasesLowest setup
    → IsAt setup t p c past contents w
    → IsLent setup t c seen lent
    → lent.state ≡ registry_by setup (registry_at_start setup) lent.journal
    → r.state ≡ lent.state
    → (seen_over setup contents (with_replica w r)).view ≡ (seen_over setup contents w).view
caught_up_view setup t p c past contents w seen lent r lowest a lends left state-is =
    let rest : List Entry = lends.begins.0 in
    let is : lent.journal ≡ c.seen ++ rest = lends.begins.1 in
    let l : Local = seen_over setup contents w in
    let leaves : r.state ≡ registry_by setup (registry_at_start setup) (c.seen ++ rest) = state-is ∙ left ∙ ap (registry_by setup (registry_at_start setup)) is in
    ap₂ (λ (n : ℕ) (g : Registry). (with_registry n g l).view) a.number leaves
    ∙ sym (view_same setup t p c l rest (sees_own setup t contents w a.number) (rest_of_others t c.seen rest lent.journal is lends.own) (a.course lowest))

-- ---- the log

-- the row of the Shutdown stands last
entries_shut : (rows : List Row) (stamp t : ℕ) → entries ((rows ++ shutdown_of stamp t) ++ []) ≡ entries rows ++ entries (shutdown_of stamp t)
entries_shut rows stamp t = ap entries (append-nil (rows ++ shutdown_of stamp t)) ∙ map-append entry_of rows (shutdown_of stamp t)

-- only thread 0's log has it
none_of_others : (stamp t : ℕ) → t ≢ 0 → shutdown_of stamp t ≡ []
none_of_others stamp t ne = ap (λ b. cond b (record { entry = shutdown_at stamp; post = None; between = None } ∷ []) []) (ne_eqb t 0 ne)

-- ---- a worker of thread 0

-- its registry followed the lent one, the Shutdown is in its log, and it knows of it
abbrev pub shut_by : Worker → Registered → Written → Worker
shut_by w r log = record w { links = record w.links { registry = r; shut = true }; log = log }

-- the log after the Shutdown
pub record HasShutdown (stamp : ℕ) (before after : Written) : Type 0 where
  pub thread : after.thread ≡ before.thread
  pub entries : after.entries ≡ before.entries ++ record { stamp = stamp; thread = before.thread; act = acts.Shutdown } ∷ []
  pub last : after.last ≡ stamp

-- it met two stamps before
pub record IsLogged (a b stamp : ℕ) (before after : Written) : Type 0 where
  pub has : HasShutdown stamp before after
  pub later : before.last < stamp
  pub first : a < stamp
  pub second : b < stamp

pub logged : (log one two after : Written) (a b stamp : ℕ)
    → one ≡ record log { last = max log.last a }
    → two ≡ record one { last = max one.last b }
    → stamp ≡ two.last + 1
    → after.entries ≡ two.entries ++ entry_at two acts.Shutdown ∷ []
    → after.last ≡ two.last + 1
    → after.thread ≡ two.thread
    → IsLogged a b stamp log after
logged log one two after a b stamp first second stamp-is entries-are last-is thread-is =
    let last-one : one.last ≡ max log.last a = ap (λ (x : Written). x.last) first in
    let last-two : two.last ≡ max one.last b = ap (λ (x : Written). x.last) second in
    let thread : two.thread ≡ log.thread = ap (λ (x : Written). x.thread) second ∙ ap (λ (x : Written). x.thread) first in
    let entries-two : two.entries ≡ log.entries = ap (λ (x : Written). x.entries) second ∙ ap (λ (x : Written). x.entries) first in
    record {
      has = record {
        thread = thread-is ∙ thread;
        entries =
            entries-are
            ∙ ap₂ (λ (xs : List Entry) (x : Entry). xs ++ x ∷ []) entries-two
            (ap₂ (λ (n t : ℕ). let e : Entry = record { stamp = n; thread = t; act = acts.Shutdown } in e) (sym stamp-is) thread);
        last = last-is ∙ sym stamp-is;
      };
      later = omega arith;
      first = omega arith;
      second = omega arith;
    }

pub shut_with : (setup : Setup) (p : Phase) (c : Course) (past : Past) (contents : DevId → Content) (w : Worker) (seen : ℕ) (lent : Registered) (r : Registered) (log : Written) (stamp : ℕ) (lent' : Registered)
    → lent.state ≡ registry_by setup (registry_at_start setup) lent.journal
    → r.setup ≡ w.links.registry.setup
    → r.state ≡ lent.state
    → w.log.last < stamp
    → HasShutdown stamp w.log log
    → lent' ≡ shut_at lent stamp
    → IsAt setup 0 p c past contents w
    → IsLent setup 0 c seen lent
    → ShutWith setup p c past contents stamp w lent (shut_by w r log) lent'
shut_with setup p c past contents w seen lent r log stamp lent' left setup-is state-is above logged shut-is a lends =
    let c' : Course = record c { seen = lent.journal } in
    let l' : Local = seen_over setup contents (with_replica w r) in
    let caught : IsAt setup 0 p c' past contents (with_replica w r) = caught_up_at setup 0 p c past contents w seen lent r a lends left setup-is state-is in
    let later : c'.last < stamp = subst (λ (n : ℕ). n < stamp) a.log_last above in
    let begun : AreBasesLowest setup → IsCourse setup 0 (second_phase stamp 0 p c' l') (course_then stamp 0 c') (with_shutdown l') = λ lowest. shutdown_begins_a_phase setup 0 p c' l' stamp later (caught.course lowest) in
    let entry-is : record { stamp = stamp; thread = w.log.thread; act = acts.Shutdown } ≡ shutdown_at stamp =
    ap (λ (n : ℕ). let e : Entry = record { stamp = stamp; thread = n; act = acts.Shutdown } in e) a.log_thread in
    record {
      course = course_then stamp 0 c';
      at = record {
        me = a.me;
        number = a.number;
        given = a.given;
        within = a.within;
        tickets = a.tickets;
        queues = a.queues;
        rows = setup-is ∙ a.rows;
        empty = a.empty;
        log_thread = logged.thread ∙ a.log_thread;
        log_entries =
            ap (λ (xs : List Entry). past.entries ++ xs) logged.entries
            ∙ sym (append_assoc past.entries w.log.entries (record { stamp = stamp; thread = w.log.thread; act = acts.Shutdown } ∷ []))
            ∙ ap₂ (λ (xs : List Entry) (x : Entry). xs ++ x ∷ []) a.log_entries entry-is
            ∙ sym (entries_shut (all_rows p c) stamp 0);
        log_last = logged.last;
        later =
            subst (λ (xs : List Entry). AllByRecursion (λ x. past.met < x.stamp) xs) (sym logged.entries)
            (all_append (λ x. past.met < x.stamp) w.log.entries (record { stamp = stamp; thread = w.log.thread; act = acts.Shutdown } ∷ []) a.later
            (let m : past.met ≤ w.log.last = a.met in omega (arith, m, above), tt));
        met = (let m : past.met ≤ w.log.last = a.met in omega (arith, m, above, logged.last));
        times =
            subst (IsOnTime w.thread) (append_assoc past.entries w.log.entries (record { stamp = stamp; thread = w.log.thread; act = acts.Shutdown } ∷ []) ∙ ap (λ (xs : List Entry). past.entries ++ xs) (sym logged.entries))
            (on_time_still w.thread (past.entries ++ w.log.entries) (record { stamp = stamp; thread = w.log.thread; act = acts.Shutdown }) a.times refl);
        held = a.held;
        once = a.once;
        replica =
            caught.replica
            ∙ sym (registry_on setup (registry_at_start setup) lent.journal (shutdown_at stamp ∷ []));
        course = λ lowest.
            subst (λ (v : View). IsCourse setup 0 (record { served = c.served; held = c.held; earlier = all_rows p c ++ shutdown_of stamp 0; from = v; since = stamp }) (course_then stamp 0 c') (with_shutdown l'))
            (caught_up_view setup 0 p c past contents w seen lent r lowest a lends left state-is) (begun lowest);
      };
      posts = record { taken = refl; sent = refl };
      served = refl;
      seen = sym (ap (λ (x : Registered). x.journal) shut-is);
      adds = (
        shutdown_at stamp ∷ [],
        ap (λ (x : Registered). x.journal) shut-is,
        All-cons (λ (e : Entry). e.thread ≡ 0) (shutdown_at stamp) [] refl (All-nil (λ (e : Entry). e.thread ≡ 0)),
      );
      start = ap (λ (x : Registered). start_of x.setup) shut-is;
    }

-- ---- the seat of thread 0

-- the seat with what it got back from the worker
abbrev pub seat_by : {D : Type 0} → Seat D → Worker → Holder → ℕ → Seat D
seat_by s worker slot seen = record s { worker = worker; passes = record s.passes { slot = slot }; seen = seen }

module _ {D : Type 0} (state : D → DiskState) (w : Wires) (s : Seat D) (lent lent' : Registered) (pass slot : Holder) (taken : IsTakenBy s.passes.slot lent.journal (start_of lent.setup) pass)
    (given : slot ≡ after_give pass lent'.journal) where
  -- what the slot's pass is then
  slot_is : slot ≡ after_give (after_take s.passes.slot lent.journal) lent'.journal
  slot_is = given ∙ ap (λ (h : Holder). after_give h lent'.journal) taken.0

  -- it sits in the phase after the Shutdown
  shut_at_first : (setup : Setup) (p : Phase) (c : Course) (past : Past) (opened : List (DevId × D)) (stamp : ℕ) (worker : Worker) → IsSeat state setup 0 p c past w opened s
      → ShutWith setup p c past (contents_of state s.disks) stamp s.worker lent worker lent'
      → IsShutAt state setup 0 p c past stamp w opened s (seat_by s worker slot (length lent'.journal))
  shut_at_first setup p c past opened stamp worker q shut =
      let lends : IsLent setup 0 c s.seen lent = lent_is setup 0 p c past w opened s lent pass q taken in
      let added : List Entry = shut.adds.0 in
      let is : lent'.journal ≡ lent.journal ++ added = shut.adds.1 in
      let rows : s.passes.slot.wrote ++ drop (length lent.journal) lent'.journal ≡ entries_of 0 lent'.journal =
      ap (λ (es : List Entry). s.passes.slot.wrote ++ drop (length lent.journal) es) is
      ∙ ap₂ (λ (xs ys : List Entry). xs ++ ys) (q.wrote ∙ sym lends.own) (drop-append_seam lent.journal added ∙ sym (own_rows 0 added shut.adds.2))
      ∙ sym (filter-append (λ (e : Entry). e.thread == 0) lent.journal added)
      ∙ ap (entries_of 0) (sym is) in
      record {
        course = shut.course;
        seat = record {
          worker = shut.at;
          linked = record {
            rings = q.linked.rings;
            takes = q.linked.takes;
            senders = q.linked.senders;
            sends = q.linked.sends;
            sends_to = q.linked.sends_to;
            numbers = q.linked.numbers;
            slot = ap (λ (h : Holder). h.slot) slot_is ∙ q.linked.slot;
            thread = ap (λ (h : Holder). h.thread) slot_is ∙ q.linked.thread;
            passes = λ e. ap (λ (h : Holder). h.passes) slot_is ∙ q.linked.passes e;
            free = ap (λ (h : Holder). h.holds) slot_is;
          };
          start = ap (λ (h : Holder). h.start) slot_is ∙ q.start;
          taken = q.taken ∙ sym shut.posts.taken;
          sent = λ r. q.sent r ∙ ap (λ (f : ℕ → List Post). f r) (sym shut.posts.sent);
          seen = ap (λ (h : Holder). h.seen) slot_is ∙ sym shut.seen;
          wrote = ap (λ (h : Holder). h.wrote) slot_is ∙ rows ∙ ap (entries_of 0) (sym shut.seen);
          count = ap (λ (es : List Entry). length es) (sym shut.seen);
          done = subst (λ (pieces : DevId → List ServedPiece). AreDoneBy state setup pieces opened s.disks) (sym shut.served) q.done;
        };
      }

  -- whoever sat there is thread 0
  pub seat_shuts : (stamp above : ℕ) (worker : Worker) → s.worker.me ≡ 0 → s.worker.log.thread ≡ 0 → ShutsWith s.seen above s.worker lent stamp worker lent' → Shuts state w stamp s (seat_by s worker slot (length lent'.journal))
  seat_shuts stamp above worker first thread shut = record {
    flag = shut.flag;
    halted = refl;
    thread = shut.thread;
    later = shut.later;
    entries =
        shut.entries
        ∙ ap (λ (n : ℕ). let e : Entry = record { stamp = stamp; thread = n; act = acts.Shutdown } in s.worker.log.entries ++ e ∷ []) thread
        ∙ ap (λ b. s.worker.log.entries ++ cond b (shutdown_at stamp ∷ []) []) (sym (eq-eqb s.worker.me 0 first));
    sits = λ setup t p c past opened q.
        let zero_is : t ≡ 0 = sym q.worker.me ∙ first in
        let q' : IsSeat state setup 0 p c past w opened s = subst (λ (n : ℕ). IsSeat state setup n p c past w opened s) zero_is q in
        let lends : IsLent setup 0 c s.seen lent = lent_is setup 0 p c past w opened s lent pass q' taken in
        subst (λ (n : ℕ). IsShutAt state setup n p c past stamp w opened s (seat_by s worker slot (length lent'.journal))) (sym zero_is)
        (shut_at_first setup p c past opened stamp worker q' (shut.at setup p c past (contents_of state s.disks) q'.worker lends));
  }

  -- the registry goes back into its slot as the slot wants it
  module _ (setup : Setup) (p : Phase) (c : Course) (past : Past) (opened : List (DevId × D)) (stamp : ℕ) (worker : Worker) (q : IsSeat state setup 0 p c past w opened s) (shut : ShutWith setup p c past (contents_of state s.disks) stamp s.worker lent worker lent') where
    pub gives_start : start_of lent'.setup ≡ pass.start
    gives_start = shut.start ∙ taken.3 ∙ sym (ap (λ (h : Holder). h.start) taken.0)

    pub gives_own : AddsOwn pass.thread pass.seen lent'.journal
    gives_own =
        subst (λ (h : Holder). AddsOwn h.thread h.seen lent'.journal) (sym taken.0)
        (subst (λ (n : ℕ). AddsOwn n lent.journal lent'.journal) (sym q.linked.thread) shut.adds)

-- ---- the seats of the others

-- the log met the stamp, and the worker knows of the Shutdown
abbrev pub learnt_by : {D : Type 0} → Seat D → ℕ → Seat D
learnt_by s stamp = record s { worker = record s.worker { links = record s.worker.links { shut = true }; log = record s.worker.log { last = max s.worker.log.last stamp } } }

pub learns_shut : {D : Type 0} → (stamp : ℕ) (s : Seat D) → s.worker.me ≢ 0 → s.worker.log.last < stamp → LearnsShut stamp s (learnt_by s stamp)
learns_shut stamp s other above state w = record {
  flag = refl;
  halted = refl;
  thread = refl;
  later = above;
  entries = sym (append-nil s.worker.log.entries) ∙ ap (λ b. s.worker.log.entries ++ cond b (shutdown_at stamp ∷ []) []) (sym (ne_eqb s.worker.me 0 other));
  sits = λ setup t p c past opened q.
      let contents : DevId → Content = contents_of state s.disks in
      let a : IsAt setup t p c past contents s.worker = q.worker in
      let l : Local = seen_over setup contents s.worker in
      let ne : t ≢ 0 = λ e. other (a.me ∙ e) in
      let later : c.last < stamp = subst (λ (n : ℕ). n < stamp) a.log_last above in
      let seen-is : (course_then stamp t c).seen ≡ c.seen = ap (λ b. cond b (c.seen ++ shutdown_at stamp ∷ []) c.seen) (ne_eqb t 0 ne) in
      let same : c.seen ≡ (course_then stamp t c).seen = sym seen-is in
      record {
        course = course_then stamp t c;
        seat = record {
          worker = record {
            me = a.me;
            number = a.number;
            given = a.given;
            within = a.within;
            tickets = a.tickets;
            queues = a.queues;
            rows = a.rows;
            empty = a.empty;
            log_thread = a.log_thread;
            log_entries =
                a.log_entries
                ∙ sym (append-nil (entries (all_rows p c)))
                ∙ ap (λ (xs : List Row). entries (all_rows p c) ++ entries xs) (sym (none_of_others stamp t ne))
                ∙ sym (entries_shut (all_rows p c) stamp t);
            log_last = (let e : max s.worker.log.last stamp ≡ stamp = omega arith in e);
            later = a.later;
            met = (let m : past.met ≤ s.worker.log.last = a.met in omega (arith, m));
            times = a.times;
            held = a.held;
            once = a.once;
            replica = a.replica ∙ ap (λ (js : List Entry). registry_by setup (registry_at_start setup) js) same;
            course = λ lowest. shutdown_begins_a_phase setup t p c l stamp later (a.course lowest);
          };
          linked = q.linked;
          start = q.start;
          taken = q.taken;
          sent = q.sent;
          seen = q.seen ∙ same;
          wrote = q.wrote ∙ ap (entries_of t) same;
          count = q.count ∙ ap (λ (es : List Entry). length es) same;
          done = q.done;
        };
      };
}
