-- A worker goes on: its log meets a stamp, its registry follows another, and its thread acts.
use Rattle.std.proofs.Common.{◌≡◌, ℕ, ◌+◌, ◌≤◌, Bool, true, false, cond, ◌==◌, ◌<◌, ◌⊎◌, inl, inr, List, [], ◌∷◌, ◌++◌, zero, suc, length, map, vec_len, refl, sym, ◌∙◌, ap, ap₂, subst, append_assoc, append-nil, None, arith}
use Rattle.std.specs.List.{All, AllByRecursion}
use Rattle.std.specs.Prelude.{max}
use Rattle.std.proofs.Math.Nat.{le-max_left}
use Rattle.std.proofs.lemmas.List.{map-append}
use Rattle.std.proofs.lemmas.List.Elements.{filter-append}
use Rattle.bd_base.specs.declared.act.Act.{Act}
use Rattle.bd_base.specs.declared.act.Entry.{Entry}
use Rattle.bd_base.specs.declared.id.DevId.{DevId}
use Rattle.bd_base.specs.declared.setup.Setup.{Setup}
use Rattle.bd_machine.specs.declared.state.Content.{Content}
use Rattle.bd_machine.specs.declared.state.Registry.{Registry}
use Rattle.bd_machine.specs.Start.{registry_at_start}
use Rattle.bd_turns.specs.Local.{Local}
use Rattle.bd_log.specs.Log.{Written}
use Rattle.bd_log.specs.Merge.{entries_of}
use Rattle.bd_log.proofs.Order.{all_append}
use Rattle.bd_law_logs.specs.Rows.{entries, entry_of, Row}
use Rattle.bd_law_logs.specs.Journals.{events, is_event, registry_by, registry_next}
use Rattle.bd_outside.specs.Disk.{DiskState}
use Rattle.bd_registry.specs.State.{Registered, start_of}
use Rattle.bd_law_served.specs.Served.{served_led, served_over, ServedPiece}
use Rattle.bd_law_served.proofs.Over.{over_serves_as_told}
use Rattle.bd_law_held.specs.Held.{held_led, held_over, EndInTime, Holding}
use Rattle.bd_law_held.proofs.Ends.{both_end}
use Rattle.bd_law_held.proofs.Over.{over_holds_as_told}
use Rattle.bd_law_threads.specs.Course.{acts_of, restamped, Course, IsCourse, Phase}
use Rattle.bd_law_threads.specs.Steps.{with_registry, GoesOn, IsLonger, SeesOwn}
use Rattle.bd_law_threads.proofs.Acting.{acts_on, any_stamp}
use Rattle.bd_law_threads.proofs.Arriving.{stamps_are_met}
use Rattle.bd_law_threads.proofs.Following.{others_are_followed}
use Rattle.bd_law_threads.proofs.Rows.{registry_of_events, registry_on}
use Rattle.bd_seat.specs.Taking.{Appends, AppendsAlone, TakesOver}
use Rattle.bd_disks.specs.Contents.{contents_of}
use Rattle.bd_disks.specs.Done.{AreDoneBy}
use Rattle.bd_storage.specs.Served.{WentAloneWithDisks, WentWithDisks}
use Rattle.bd_thread.specs.declared.links.Links.{Links}
use Rattle.bd_thread.specs.declared.thread.Thread.{Thread}
use Rattle.bd_thread.specs.Over.{WentOver}
use Rattle.bd_thread.specs.Looking.{KeepsOwn}
use Rattle.bd_thread.specs.Seen.{local, number_of, setup_of, time_of}
use Rattle.bd_thread.specs.Timely.{AreTimely, HasBegun, IsOnTime}
use Rattle.bd_thread.proofs.OnTime.{on_time_then}
use Rattle.bd_worker.proofs.Times.{timely_restamped}
use Rattle.bd_law_disks.specs.Over.{LeadsOver}
use Rattle.bd_law_disks.specs.Told.{told_local, AreBasesLowest}
use Rattle.bd_law_disks.proofs.Over.{over_is_told, over_keeps_bases}
use Rattle.bd_law_disks.proofs.Start.{memory_is_apart}
use Rattle.bd_worker.specs.declared.worker.Worker.{Worker}
use Rattle.bd_worker.specs.Seats.{AddsServed, seen_over, GoesAlone, GoesWith, HasSamePosts, IsAt, IsLent, Past, WentAlone, WentWith}
use Rattle.bd_worker.proofs.Lowest.{lowest_or_not}
use Rattle.bd_worker.proofs.Over.{over_registry, over_shut, over_threads}

-- ---- a stamp

abbrev with_last : Worker → ℕ → Worker
with_last w last = record w { log = record w.log { last = last } }

pub met_at : (setup : Setup) (t : ℕ) (p : Phase) (c : Course) (past : Past) (contents : DevId → Content) (w : Worker) (last : ℕ) → c.last ≤ last → IsAt setup t p c past contents w → IsAt setup t p (record c { last = last }) past contents (with_last w last)
met_at setup t p c past contents w last le a = record {
  me = a.me;
  number = a.number;
  given = a.given;
  within = a.within;
  tickets = a.tickets;
  queues = a.queues;
  rows = a.rows;
  empty = a.empty;
  log_thread = a.log_thread;
  log_entries = a.log_entries;
  log_last = refl;
  later = a.later;
  met = (let m : past.met ≤ w.log.last = a.met in let n : w.log.last ≡ c.last = a.log_last in omega (arith, le, m, n));
  times = a.times;
  held = a.held;
  once = a.once;
  replica = a.replica;
  course = λ lowest. stamps_are_met setup t p c (seen_over setup contents w) last le (a.course lowest);
}

-- ---- a registry that follows

-- what comes after what was seen is of others
pub rest_of_others : (t : ℕ) (seen rest journal : List Entry) → journal ≡ seen ++ rest → entries_of t journal ≡ entries_of t seen → entries_of t rest ≡ []
rest_of_others t seen rest journal is own = none_more (entries_of t seen) (entries_of t rest) (sym (filter-append (λ x. x.thread == t) seen rest) ∙ ap (λ (es : List Entry). entries_of t es) (sym is) ∙ own)
  where
    none_more : (xs ys : List Entry) → xs ++ ys ≡ xs → ys ≡ []
    none_more [] ys h = h
    none_more (x ∷ xs) ys h = none_more xs ys (same_tail x (xs ++ ys) xs h)
      where
        same_tail : (x : Entry) (xs ys : List Entry) → x ∷ xs ≡ x ∷ ys → xs ≡ ys
        same_tail x xs ys h = ap (λ (l : List Entry). tail_of l) h
          where
            tail_of : List Entry → List Entry
            tail_of [] = []
            tail_of (y ∷ ys) = ys

abbrev pub with_replica : Worker → Registered → Worker
with_replica w r = record w { links = record w.links { registry = r } }

pub caught_up_at : (setup : Setup) (t : ℕ) (p : Phase) (c : Course) (past : Past) (contents : DevId → Content) (w : Worker) (seen : ℕ) (lent r : Registered)
    → IsAt setup t p c past contents w
    → IsLent setup t c seen lent
    → lent.state ≡ registry_by setup (registry_at_start setup) lent.journal
    → r.setup ≡ w.links.registry.setup
    → r.state ≡ lent.state
    → IsAt setup t p (record c { seen = lent.journal }) past contents (with_replica w r)
caught_up_at setup t p c past contents w seen lent r a lends left setup-is state-is =
    let rest : List Entry = lends.begins.0 in
    let is : lent.journal ≡ c.seen ++ rest = lends.begins.1 in
    let l : Local = seen_over setup contents w in
    record {
      me = a.me;
      number = a.number;
      given = a.given;
      within = a.within;
      tickets = a.tickets;
      queues = a.queues;
      rows = setup-is ∙ a.rows;
      empty = a.empty;
      log_thread = a.log_thread;
      log_entries = a.log_entries;
      log_last = a.log_last;
      later = a.later;
      met = a.met;
      times = a.times;
      held = a.held;
      once = a.once;
      replica = state-is ∙ left;
      course = λ lowest.
          subst (λ (js : List Entry). IsCourse setup t p (record c { seen = js }) (seen_over setup contents (with_replica w r))) (sym is)
          (subst (λ (registry : Registry). IsCourse setup t p (record c { seen = c.seen ++ rest }) (with_registry w.thread.me registry l)) (sym (state-is ∙ left ∙ ap (registry_by setup (registry_at_start setup)) is))
          (subst (λ (n : ℕ). IsCourse setup t p (record c { seen = c.seen ++ rest }) (with_registry n (registry_by setup (registry_at_start setup) (c.seen ++ rest)) l)) (sym a.number)
          (others_are_followed setup t p c l rest (sees_own a.number) (rest_of_others t c.seen rest lent.journal is lends.own) (a.course lowest))));
    }
  where
    sees_own : number_of w.thread ≡ t → SeesOwn t (seen_over setup contents w)
    sees_own same = subst (λ (n : ℕ). SeesOwn n (seen_over setup contents w)) same (record { handles = refl; channels = refl })

-- ---- a turn

-- the thread acted, and its log has the acts
abbrev pub after_turn : Worker → Thread → Links → Written → Worker
after_turn w thread links log = record w { thread = thread; links = record links { entries = [] }; log = log }

-- a row with nothing but its entry
abbrev bare : Entry → Row
bare e = record { entry = e; post = None; between = None }

bare_entries : (es : List Entry) → entries (map bare es) ≡ es
bare_entries [] = refl
bare_entries (e ∷ es) = ap (λ (xs : List Entry). e ∷ xs) (bare_entries es)

-- a course with these entries, these pieces and these holds more, which is one where base devices stand on nothing
pub record GoesOver (setup : Setup) (t : ℕ) (p : Phase) (c : Course) (es : List Entry) (more : DevId → List ServedPiece) (holds : List Holding) (l' : Local) : Type 0 where
  pub course : Course
  pub longer : IsLonger t c (restamped t c.last (acts_of es)) course
  pub served : (dev : DevId) → course.served dev ≡ c.served dev ++ more dev
  pub held : course.held ≡ c.held ++ holds
  pub is_course : AreBasesLowest setup → IsCourse setup t p course l'

pub goes_over : (setup : Setup) (t : ℕ) (p : Phase) (c : Course) (es : List Entry) (more : DevId → List ServedPiece) (holds : List Holding) (l l' : Local)
    → (AreBasesLowest setup → GoesOn setup t p c es l l')
    → (AreBasesLowest setup → (dev : DevId) → served_led setup t dev l es ≡ more dev)
    → (AreBasesLowest setup → held_led setup t l es ≡ holds)
    → GoesOver setup t p c es more holds l'
goes_over setup t p c es more holds l l' on led kept = go (lowest_or_not setup)
  where
    added : List Entry
    added = restamped t c.last (acts_of es)

    go : AreBasesLowest setup ⊎ (AreBasesLowest setup → ⊥) → GoesOver setup t p c es more holds l'
    go (inl lowest) = record {
      course = (on lowest).course;
      longer = (on lowest).longer;
      served = λ dev. (on lowest).served dev ∙ ap (λ (ps : List ServedPiece). c.served dev ++ ps) (led lowest dev);
      held = (on lowest).held ∙ ap (λ (hs : List Holding). c.held ++ hs) (kept lowest);
      is_course = λ is. (on lowest).is_course;
    }
    go (inr not_so) = record {
      course = record {
        rows = c.rows ++ map bare added;
        arrived = c.arrived;
        taken = c.taken;
        sent = c.sent;
        seen = c.seen ++ events added;
        served = λ dev. c.served dev ++ more dev;
        held = c.held ++ holds;
        last = c.last + length added;
      };
      longer = record {
        rows = map-append entry_of c.rows (map bare added) ∙ ap (λ (xs : List Entry). entries c.rows ++ xs) (bare_entries added);
        taken = refl;
        sent = refl;
        seen = refl;
        last = refl;
      };
      served = λ dev. refl;
      held = refl;
      is_course = λ lowest. absurd (not_so lowest);
    }

-- stamps don't matter to the registry
registry_restamped : (setup : Setup) (t last : ℕ) (registry : Registry) (es : List Entry) → AllByRecursion (λ e. e.thread ≡ t) es → registry_by setup registry (restamped t last (acts_of es)) ≡ registry_by setup registry es
registry_restamped setup t last registry [] all = refl
registry_restamped setup t last registry (e ∷ es) all =
    ap (λ (n : ℕ). registry_by setup (registry_next setup registry (record { stamp = last + 1; thread = n; act = e.act })) (restamped t (last + 1) (acts_of es))) (sym all.0)
    ∙ registry_restamped setup t (last + 1) (registry_next setup registry e) es all.1

-- and all are after the last
restamped_later : (met t last : ℕ) (acts : List Act) → met ≤ last → AllByRecursion (λ e. met < e.stamp) (restamped t last acts)
restamped_later met t last [] le = tt
restamped_later met t last (act ∷ acts) le = (omega (arith, le), restamped_later met t (last + 1) acts (omega (arith, le)))

-- what a thread serves over what its disks hold
abbrev pub serves : Setup → ℕ → (DevId → Content) → Worker → List Entry → DevId → List ServedPiece
serves setup t contents w es dev = served_over setup t dev contents (local w.thread w.links) es

pub record Acts (setup : Setup) (t : ℕ) (p : Phase) (c : Course) (past : Past) (contents : DevId → Content) (links : Links) (more : DevId → List ServedPiece) (w : Worker) : Type 0 where
  pub course : Course
  pub at : IsAt setup t p course past contents w
  pub posts : HasSamePosts c course
  pub seen : course.seen ≡ c.seen ++ events (restamped t c.last (acts_of links.entries))
  pub served : (dev : DevId) → course.served dev ≡ c.served dev ++ more dev

pub acted_at : (setup : Setup) (t : ℕ) (p : Phase) (c : Course) (past : Past) (before after : DevId → Content) (w : Worker) (thread : Thread) (links : Links) (log : Written)
    → IsAt setup t p c past before w
    → HasBegun w.thread
    → (acted : WentOver before after w.thread w.links thread links)
    → KeepsOwn thread
    → Appends w.log (restamped w.log.thread w.log.last (acts_of links.entries)) log
    → Acts setup t p c past after links (serves setup t before w acted.entries) (after_turn w thread links log)
acted_at setup t p c past before after w thread links log a begun acted tickets appends =
    let es : List Entry = acted.entries in
    let es-are : links.entries ≡ es = acted.added ∙ ap (λ (xs : List Entry). xs ++ es) a.empty in
    let setup-is : setup_of w.thread ≡ setup = a.given in
    let l : Local = local w.thread w.links in
    let l' : Local = local thread links in
    let over : LeadsOver setup t before l es after l' =
    subst (λ (n : ℕ). LeadsOver setup n before l es after l') a.number
    (subst (λ (s : Setup). LeadsOver s w.thread.me before l es after l') setup-is acted.leads) in
    let on : GoesOver setup t p c es (serves setup t before w es) (held_over setup t before l es) (told_local setup after l') =
    goes_over setup t p c es (serves setup t before w es) (held_over setup t before l es) (told_local setup before l) (told_local setup after l')
    (λ lowest. acts_on setup t p c (told_local setup before l) (told_local setup after l') es
    (over_is_told setup before t l es after l' (memory_is_apart setup lowest) a.once over) (a.course lowest))
    (λ lowest dev. over_serves_as_told setup before t dev l es after l' (memory_is_apart setup lowest) a.once over)
    (λ lowest. over_holds_as_told setup before t l es after l' (memory_is_apart setup lowest) a.once over) in
    let added : List Entry = restamped t c.last (acts_of es) in
    let added-is : restamped w.log.thread w.log.last (acts_of links.entries) ≡ added = ap₂ (λ (n m : ℕ). restamped n m (acts_of links.entries)) a.log_thread a.log_last ∙ ap (λ (xs : List Entry). restamped t c.last (acts_of xs)) es-are in
    let last : log.last ≡ w.log.last + length added = appends.last ∙ ap (λ (xs : List Entry). w.log.last + length xs) added-is in
    record {
      course = on.course;
      at = record {
        me = a.me;
        number = acted.me ∙ a.number;
        given = ap (λ s. s.now) acted.setup ∙ a.given;
        within = a.within;
        tickets = tickets;
        queues = acted.queues ∙ a.queues;
        rows = acted.rows ∙ a.rows;
        empty = refl;
        log_thread = appends.thread ∙ a.log_thread;
        log_entries =
            ap (λ (xs : List Entry). past.entries ++ xs) appends.entries
            ∙ sym (append_assoc past.entries w.log.entries (restamped w.log.thread w.log.last (acts_of links.entries)))
            ∙ ap₂ (λ (xs ys : List Entry). xs ++ ys) a.log_entries added-is
            ∙ ap (λ (xs : List Entry). xs ++ added) (map-append entry_of p.earlier c.rows)
            ∙ append_assoc (entries p.earlier) (entries c.rows) added
            ∙ ap (λ (xs : List Entry). entries p.earlier ++ xs) (sym on.longer.rows)
            ∙ sym (map-append entry_of p.earlier on.course.rows);
        log_last = last ∙ ap (λ (n : ℕ). n + length added) a.log_last ∙ sym on.longer.last;
        later =
            subst (λ (xs : List Entry). AllByRecursion (λ x. past.met < x.stamp) xs) (sym appends.entries)
            (all_append (λ x. past.met < x.stamp) w.log.entries (restamped w.log.thread w.log.last (acts_of links.entries)) a.later
            (restamped_later past.met w.log.thread w.log.last (acts_of links.entries) a.met));
        met = (let m : past.met ≤ w.log.last = a.met in omega (arith, m, last));
        times =
            subst (IsOnTime thread) (append_assoc past.entries w.log.entries (restamped w.log.thread w.log.last (acts_of links.entries)) ∙ ap (λ (xs : List Entry). past.entries ++ xs) (sym appends.entries))
            (on_time_then (past.entries ++ w.log.entries) (restamped w.log.thread w.log.last (acts_of links.entries)) w.thread thread a.times begun
            (timely_restamped w.log.thread w.log.last links.entries w.thread thread (subst (λ (xs : List Entry). AreTimely xs w.thread thread) (sym es-are) acted.timely)));
        held =
            subst (EndInTime setup (time_of thread).moment) (sym on.held)
            (subst (λ (n : ℕ). EndInTime setup n (c.held ++ held_over setup t before l es)) (sym (ap (λ x. x.moment) acted.timely.time))
            (both_end setup (time_of w.thread).moment c.held (held_over setup t before l es) a.held
            (subst (λ (n : ℕ). EndInTime setup (time_of w.thread).moment (held_over setup n before l es)) a.number
            (subst (λ (s : Setup). EndInTime s (time_of w.thread).moment (held_over s w.thread.me before l es)) setup-is acted.held))));
        once = λ dev. subst (λ (n : ℕ). n ≤ 1) (sym (over_keeps_bases setup before t l es after l' over dev)) (a.once dev);
        replica =
            over_registry setup t before l es after l' over
            ∙ sym (registry_restamped setup t c.last l.shared.registry es (over_threads setup t before l es after l' over))
            ∙ sym (registry_of_events setup l.shared.registry added)
            ∙ ap (λ (r : Registry). registry_by setup r (events added)) a.replica
            ∙ sym (registry_on setup (registry_at_start setup) c.seen (events added))
            ∙ ap (λ (js : List Entry). registry_by setup (registry_at_start setup) js) (sym on.longer.seen);
        course = λ lowest. any_stamp setup t p on.course (told_local setup after l') 0 (on.is_course lowest);
      };
      posts = record { taken = on.longer.taken; sent = on.longer.sent };
      seen = on.longer.seen ∙ ap (λ (xs : List Entry). c.seen ++ events (restamped t c.last (acts_of xs))) (sym es-are);
      served = on.served;
    }

-- and its disks did just that
adds_served : {D : Type 0} (state : D → DiskState) (setup : Setup) (t : ℕ) (c c' : Course) (before after : List (DevId × D)) (w : Worker) (thread : Thread) (links : Links)
    → setup_of w.thread ≡ setup
    → number_of w.thread ≡ t
    → (acted : WentWithDisks state before w.thread w.links after thread links)
    → ((dev : DevId) → c'.served dev ≡ c.served dev ++ serves setup t (contents_of state before) w acted.went.entries dev)
    → AddsServed state setup c c' before after
adds_served state setup t c c' before after w thread links given number acted served =
    let es : List Entry = acted.went.entries in
    record {
      more = serves setup t (contents_of state before) w es;
      served = served;
      done =
          subst (λ (n : ℕ). AreDoneBy state setup (serves setup n (contents_of state before) w es) before after) number
          (subst (λ (s : Setup). AreDoneBy state s (serves s (number_of w.thread) (contents_of state before) w es) before after) given acted.done);
    }

-- the events among acts with the log's stamps are the thread's
pub all_own : (t last : ℕ) (acts : List Act) → AllByRecursion (λ e. e.thread ≡ t) (events (restamped t last acts))
all_own t last [] = tt
all_own t last (act ∷ acts) = one (is_event e) (all_own t (last + 1) acts)
  where
    e : Entry
    e = record { stamp = last + 1; thread = t; act = act }

    one : (b : Bool) → AllByRecursion (λ e. e.thread ≡ t) (events (restamped t (last + 1) acts)) → AllByRecursion (λ e. e.thread ≡ t) (cond b (e ∷ events (restamped t (last + 1) acts)) (events (restamped t (last + 1) acts)))
    one true rest = (refl, rest)
    one false rest = rest

-- **without the registry it went on**
pub goes_alone : {D : Type 0} (state : D → DiskState) (before after : List (DevId × D)) (w : Worker) (thread : Thread) (links : Links) (log : Written)
    → HasBegun w.thread
    → WentAloneWithDisks state before w.thread w.links after thread links
    → (KeepsOwn w.thread → KeepsOwn thread)
    → AppendsAlone w.log (restamped w.log.thread w.log.last (acts_of links.entries)) log
    → GoesAlone state before after w (after_turn w thread links log)
goes_alone {D} state before after w thread links log begun acted keeps appends = (
  over_shut w.thread.setup.now w.thread.me (contents_of state before) (local w.thread w.links) over.entries (contents_of state after) (local thread links) over.leads,
  λ setup t p c past a. on setup t p c past a,
)
  where
    over : WentOver (contents_of state before) (contents_of state after) w.thread w.links thread links
    over = acted.went.went

    on : (setup : Setup) (t : ℕ) (p : Phase) (c : Course) (past : Past) → IsAt setup t p c past (contents_of state before) w → WentAlone state setup t p c past before after (after_turn w thread links log)
    on setup t p c past a =
        let acts : Acts setup t p c past (contents_of state after) links (serves setup t (contents_of state before) w over.entries) (after_turn w thread links log) =
        acted_at setup t p c past (contents_of state before) (contents_of state after) w thread links log a begun over (keeps a.tickets) appends.log_is in
        record {
          course = acts.course;
          at = acts.at;
          posts = acts.posts;
          seen =
              acts.seen
              ∙ ap₂ (λ (n m : ℕ). c.seen ++ events (restamped n m (acts_of links.entries))) (sym a.log_thread) (sym a.log_last)
              ∙ ap (λ (es : List Entry). c.seen ++ es) appends.none_asks
              ∙ append-nil c.seen;
          did = adds_served state setup t c acts.course before after w thread links a.given a.number acted.went acts.served;
        }

-- a worker's turn may be taken: there is a queue for its thread
pub has_queue : (setup : Setup) (t : ℕ) (p : Phase) (c : Course) (past : Past) (contents : DevId → Content) (w : Worker) → IsAt setup t p c past contents w → number_of w.thread < vec_len w.links.queues
has_queue setup t p c past contents w a = subst (λ (n : ℕ). n < vec_len w.links.queues) (sym a.number) (subst (λ (n : ℕ). t < n) (sym a.queues) a.within)

-- what holds of each holds at each place
all_of : (t : ℕ) (es : List Entry) → AllByRecursion (λ e. e.thread ≡ t) es → All (λ e. e.thread ≡ t) es
all_of t [] h k d lt = absurd (omega arith)
all_of t (e ∷ es) h zero d lt = h.0
all_of t (e ∷ es) h (suc k) d lt = all_of t es h.1 k d (omega arith)

-- **with the registry it went on**
module _ {D : Type 0} (state : D → DiskState) (before after : List (DevId × D)) (w : Worker) (seen : ℕ) (lent lent' r : Registered) (thread : Thread) (links : Links) (log : Written)
    (leaves : (setup : Setup) → start_of lent.setup ≡ start_of setup → registry_by setup (registry_at_start setup) lent.journal ≡ lent.state)
    (setup-is : r.setup ≡ w.links.registry.setup) (state-is : r.state ≡ lent.state) where
  -- once the log met the journal's last stamp, and the replica caught_up up
  abbrev pub caught_up : Worker
  caught_up = with_replica (with_last w (max w.log.last lent.last)) r

  pub caught_up_then : (setup : Setup) (t : ℕ) (p : Phase) (c : Course) (past : Past) → IsAt setup t p c past (contents_of state before) w → IsLent setup t c seen lent
      → IsAt setup t p (record c { seen = lent.journal; last = max w.log.last lent.last }) past (contents_of state before) caught_up
  caught_up_then setup t p c past a lends =
      let last : ℕ = max w.log.last lent.last in
      let later : c.last ≤ last = subst (λ (n : ℕ). n ≤ last) a.log_last (le-max_left w.log.last lent.last) in
      caught_up_at setup t p (record c { last = last }) past (contents_of state before) (with_last w last) seen lent r (met_at setup t p c past (contents_of state before) w last later a)
      (record { start = lends.start; begins = lends.begins; own = lends.own; count = lends.count })
      (sym (leaves setup lends.start)) setup-is state-is

  pub goes_with : HasBegun w.thread → WentWithDisks state before w.thread caught_up.links after thread links → (KeepsOwn w.thread → KeepsOwn thread)
      → TakesOver caught_up.log lent (restamped caught_up.log.thread caught_up.log.last (acts_of links.entries)) log lent'
      → GoesWith state before after seen w lent (after_turn caught_up thread links log) lent'
  goes_with begun acted keeps takes = (
    over_shut w.thread.setup.now w.thread.me (contents_of state before) (local w.thread caught_up.links) acted.went.entries (contents_of state after) (local thread links) acted.went.leads,
    λ setup t p c past a lends. on setup t p c past a lends,
  )
    where
      on : (setup : Setup) (t : ℕ) (p : Phase) (c : Course) (past : Past) → IsAt setup t p c past (contents_of state before) w → IsLent setup t c seen lent
          → WentWith state setup t p c past before after lent (after_turn caught_up thread links log) lent'
      on setup t p c past a lends =
          let c1 : Course = record c { seen = lent.journal; last = max w.log.last lent.last } in
          let acts : Acts setup t p c1 past (contents_of state after) links (serves setup t (contents_of state before) caught_up acted.went.entries) (after_turn caught_up thread links log) =
          acted_at setup t p c1 past (contents_of state before) (contents_of state after) caught_up thread links log (caught_up_then setup t p c past a lends) begun acted.went (keeps a.tickets) takes.log_is in
          let added : List Entry = events (restamped t c1.last (acts_of links.entries)) in
          let added-is : events (restamped caught_up.log.thread caught_up.log.last (acts_of links.entries)) ≡ added = ap (λ (n : ℕ). events (restamped n c1.last (acts_of links.entries))) a.log_thread in
          let journal : lent'.journal ≡ lent.journal ++ added = takes.journal ∙ ap (λ (es : List Entry). lent.journal ++ es) added-is in
          record {
            course = acts.course;
            at = acts.at;
            posts = record { taken = acts.posts.taken; sent = acts.posts.sent };
            seen = acts.seen ∙ sym journal;
            adds = (added, journal, all_of t (events (restamped t c1.last (acts_of links.entries))) (all_own t c1.last (acts_of links.entries)));
            start = ap start_of takes.setup;
            did = adds_served state setup t c acts.course before after caught_up thread links a.given a.number acted acts.served;
          }
