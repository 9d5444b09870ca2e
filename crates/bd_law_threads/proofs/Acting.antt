-- A thread acts by the local rules: its course goes on, entry by entry.
use Rattle.std.proofs.Common.{◌≡◌, ◌≢◌, ℕ, ◌+◌, ◌<◌, ◌≤◌, Bool, true, false, cond, ◌==◌, List, [], ◌∷◌, ◌++◌, length, map, refl, sym, ◌∙◌, ap, ap₂, subst, append_assoc, append-nil, eq-eqb, ne_eqb, arith, length-append}
use Rattle.std.specs.List.{AllByRecursion}
use Rattle.std.proofs.lemmas.List.{length-map, map-append}
use Rattle.std.proofs.lemmas.List.Elements.{filter-append}
use Rattle.bd_base.specs.declared.act.Act.{Act}
use Rattle.bd_base.specs.declared.act.Entry.{Entry}
use Rattle.bd_base.specs.declared.id.DevId.{DevId}
use Rattle.bd_base.specs.declared.setup.Setup.{Setup}
use Rattle.bd_machine.specs.declared.state.Registry.{Registry}
use Rattle.bd_machine.specs.Start.{registry_at_start}
use Rattle.bd_turns.specs.declared.queue.Message.{Message}
use Rattle.bd_turns.specs.declared.queue.Post.{Post}
use Rattle.bd_turns.specs.Local.{Local, Leads, local_after}
use Rattle.bd_log.specs.Merge.{entries_of}
use Rattle.bd_log.proofs.Order.{all_append, all_map}
use Rattle.bd_ring.specs.Posts.{sent_by}
use Rattle.bd_law_logs.specs.Rows.{Row, entries, message_of, Accepts}
use Rattle.bd_law_logs.specs.Journals.{is_event, events, events_by, between_for, followed_from, registry_by, Event}
use Rattle.bd_law_logs.specs.Fits.{event_of, events_in}
use Rattle.bd_law_logs.specs.Loose.{put_stamps, AreLower}
use Rattle.bd_law_logs.specs.Turning.{put_to, took_all, HasItsMessage, AreRowsOf}
use Rattle.bd_law_logs.proofs.Turning.{turn_is_accepted}
use Rattle.bd_law_served.specs.Served.{served_by, served_led, served_on, ServedPiece}
use Rattle.bd_law_served.proofs.Rows.{served_rows_on}
use Rattle.bd_law_held.specs.Held.{held_by, held_led, held_on, Holding}
use Rattle.bd_law_held.proofs.Rows.{held_rows_on}
use Rattle.bd_law_threads.specs.Course.{acts_of, all_rows, restamped, stamp_of, take_stamps, AreNotAbove, Course, IsCourse, Phase}
use Rattle.bd_law_threads.specs.Steps.{ActsOn, AnyStamp, GoesOn, IsLonger}
use Rattle.bd_law_threads.proofs.Lists.{lower_on, not_above_on}
use Rattle.bd_law_threads.proofs.Rows.{took_all_on, put_to_on, put_stamps_on, take_stamps_on, take_lengths, entries_on, events_on, events_in_on, registry_on, registry_of_events, followed_on, accepts_on, at_stamp, messages_at, stamps_at, put_senders, lower_row}

-- ---- posts of one sender

-- all of them are the sender's
own_posts : (n t : ℕ) (ms : List Message) → AllByRecursion (λ m. m.sender ≡ t) ms → sent_by t (at_stamp n ms) ≡ at_stamp n ms
own_posts n t [] h = refl
own_posts n t (m ∷ ms) h = ap₂ (λ (b : Bool) (ps : List Post). cond b (record { message = m; stamp = n } ∷ ps) ps) (eq-eqb m.sender t h.0) (own_posts n t ms h.1)

-- none is another's
no_posts : (n s t : ℕ) (ms : List Message) → s ≢ t → AllByRecursion (λ m. m.sender ≡ t) ms → sent_by s (at_stamp n ms) ≡ []
no_posts n s t [] ne h = refl
no_posts n s t (m ∷ ms) ne h = ap₂ (λ (b : Bool) (ps : List Post). cond b (record { message = m; stamp = n } ∷ ps) ps) (ne_eqb m.sender s (λ e. ne (sym e ∙ h.0))) (no_posts n s t ms ne h.1)

-- they have their stamp
stamped_at : (n : ℕ) (ms : List Message) → AllByRecursion (λ m. m.stamp ≤ n) (at_stamp n ms)
stamped_at n [] = tt
stamped_at n (m ∷ ms) = (omega arith, stamped_at n ms)

-- posts that were met have stamps below the next
stamps_below : (n : ℕ) (ps : List Post) → AllByRecursion (λ m. m.stamp ≤ n) ps → AllByRecursion (λ x. x < n + 1) (map stamp_of ps)
stamps_below n [] h = tt
stamps_below n (p ∷ ps) h = ((let le : p.stamp ≤ n = h.0 in omega arith), stamps_below n ps h.1)

-- ---- one entry of the journal

-- an entry of the thread is one of the thread's, if it is an event at all
own_event : (t : ℕ) (f : Entry) → f.thread ≡ t → entries_of t (events (f ∷ [])) ≡ events (f ∷ [])
own_event t f thread = go (is_event f)
  where
    go : (b : Bool) → entries_of t (cond b (f ∷ []) []) ≡ cond b (f ∷ []) []
    go true = ap (λ b. cond b (f ∷ []) []) (eq-eqb f.thread t thread)
    go false = refl

-- what had to follow at the row's entry, if that is an event
own_followed : (setup : Setup) (registry : Registry) (t : ℕ) (f : Entry) (r : Row) → f.thread ≡ t → r.entry ≡ f → event_of r ∷ [] ≡ followed_from setup registry (f ∷ [])
    → events_by t (followed_from setup registry (events (f ∷ []))) ≡ events_in (r ∷ [])
own_followed setup registry t f r thread is followed = go (is_event f) ∙ ap (λ b. map event_of (cond b (r ∷ []) [])) (ap is_event (sym is))
  where
    go : (b : Bool) → events_by t (followed_from setup registry (cond b (f ∷ []) [])) ≡ map event_of (cond b (r ∷ []) [])
    go true = ap (λ b. cond b (record { entry = f; between = between_for registry f } ∷ []) []) (eq-eqb f.thread t thread) ∙ sym followed
    go false = refl

-- ---- one row more

module _ (setup : Setup) (t : ℕ) (p : Phase) (c : Course) (l l' : Local) (f : Entry) (r : Row) where
  -- what the row put to the thread itself has its stamp
  abbrev own_more : List Post
  own_more = at_stamp (c.last + 1) (put_to t (r ∷ []))

  -- the course with the row and its entry
  abbrev course_more : Course
  course_more = record {
    rows = c.rows ++ r ∷ [];
    arrived = c.arrived ++ own_more;
    taken = c.taken;
    sent = c.sent;
    seen = c.seen ++ events (f ∷ []);
    served = λ dev. c.served dev ++ served_led setup t dev l (f ∷ []);
    held = c.held ++ held_led setup t l (f ∷ []);
    last = c.last + 1;
  }

  module _ (thread : f.thread ≡ t) (stamp : f.stamp ≡ c.last + 1) (a : AreRowsOf setup t l (f ∷ []) l' (r ∷ [])) (h : IsCourse setup t p c l) where
    -- the rows of both phases until now
    abbrev rows : List Row
    rows = all_rows p c

    -- and with the row
    whole : rows ++ r ∷ [] ≡ all_rows p course_more
    whole = append_assoc p.earlier c.rows (r ∷ [])

    -- the row is the entry's
    entry_is : r.entry ≡ f
    entry_is = (let e : r.entry ∷ [] ≡ f ∷ [] = a.entries_are in cc)

    -- with the log's next stamp
    stamp_is : r.entry.stamp ≡ c.last + 1
    stamp_is = ap (λ (e : Entry). e.stamp) entry_is ∙ stamp

    -- what it put is from the thread
    senders : AllByRecursion (λ m. m.sender ≡ t) (put_to t (r ∷ []))
    senders = put_senders setup l.shared.shut t l.view r t a.accepts.3

    -- as many came as were taken or wait
    sizes : length (take_stamps rows) + length (l.shared.queues t) ≡ length (map stamp_of c.arrived)
    sizes =
        let takes : length (take_stamps rows) ≡ length (took_all rows) = take_lengths rows h.carry in
        let both : length (took_all rows ++ l.shared.queues t) ≡ length (map message_of c.arrived) = ap length h.queue in
        let split : length (took_all rows ++ l.shared.queues t) ≡ length (took_all rows) + length (l.shared.queues t) = length-append (took_all rows) (l.shared.queues t) in
        let ms : length (map message_of c.arrived) ≡ length c.arrived = length-map c.arrived message_of in
        let ns : length (map stamp_of c.arrived) ≡ length c.arrived = length-map c.arrived stamp_of in
        omega arith

    -- what was taken, and then what waits, is still what came
    queue_more : took_all (rows ++ r ∷ []) ++ l'.shared.queues t ≡ map message_of (c.arrived ++ own_more)
    queue_more =
        ap (λ (ms : List Message). ms ++ l'.shared.queues t) (took_all_on rows (r ∷ []))
        ∙ append_assoc (took_all rows) (took_all (r ∷ [])) (l'.shared.queues t)
        ∙ ap (λ (ms : List Message). took_all rows ++ ms) a.own_queue
        ∙ sym (append_assoc (took_all rows) (l.shared.queues t) (put_to t (r ∷ [])))
        ∙ ap₂ (λ (xs ys : List Message). xs ++ ys) h.queue (sym (messages_at (c.last + 1) (put_to t (r ∷ []))))
        ∙ sym (map-append message_of c.arrived own_more)

    -- where it took, it took a message that had come, which has a lower stamp
    lower_stays : AreLower (map stamp_of c.arrived) (take_stamps rows ++ take_stamps (r ∷ []))
    lower_stays =
        lower_row t r.entry.stamp r.entry.act r.post (l.shared.queues t) (l'.shared.queues t) (map stamp_of c.arrived) (take_stamps rows) a.carry.0 a.own_queue sizes
        (subst (λ (n : ℕ). AllByRecursion (λ x. x < n) (map stamp_of c.arrived)) (sym stamp_is) (stamps_below c.last c.arrived h.met)) h.lower

    -- so it is where it put to the thread itself, too
    lower_more : AreLower (map stamp_of (c.arrived ++ own_more)) (take_stamps (rows ++ r ∷ []))
    lower_more =
        subst (λ (ns : List ℕ). AreLower ns (take_stamps (rows ++ r ∷ []))) (sym (map-append stamp_of c.arrived own_more))
        (lower_on (map stamp_of c.arrived) (map stamp_of own_more) (take_stamps (rows ++ r ∷ []))
        (subst (λ (ns : List ℕ). AreLower (map stamp_of c.arrived) ns) (sym (take_stamps_on rows (r ∷ []))) lower_stays))

    -- of other threads nothing more came
    others_more : (s : ℕ) → s ≢ t → sent_by s (c.arrived ++ own_more) ≡ sent_by s c.taken
    others_more s ne =
        filter-append (λ m. m.message.sender == s) c.arrived own_more
        ∙ ap (λ (ps : List Post). sent_by s c.arrived ++ ps) (no_posts (c.last + 1) s t (put_to t (r ∷ [])) ne senders)
        ∙ append-nil (sent_by s c.arrived)
        ∙ h.others s ne

    -- of the thread itself came what the row put to it
    own_is : sent_by t (c.arrived ++ own_more) ≡ sent_by t c.arrived ++ own_more
    own_is = filter-append (λ m. m.message.sender == t) c.arrived own_more ∙ ap (λ (ps : List Post). sent_by t c.arrived ++ ps) (own_posts (c.last + 1) t (put_to t (r ∷ [])) senders)

    -- with the stamp of its Put
    own_stamps : map stamp_of own_more ≡ put_stamps t (r ∷ [])
    own_stamps = ap (λ (n : ℕ). map stamp_of (at_stamp n (put_to t (r ∷ [])))) (sym stamp_is) ∙ stamps_at t r a.carry.0

    -- so what came of itself is still what it put to itself
    own_after : sent_by t c.taken ≡ []
        → (map message_of (sent_by t (c.arrived ++ own_more)) ≡ put_to t (rows ++ r ∷ [])) × (map stamp_of (sent_by t (c.arrived ++ own_more)) ≡ put_stamps t (rows ++ r ∷ []))
    own_after none = (
      ap (λ (ps : List Post). map message_of ps) own_is
          ∙ map-append message_of (sent_by t c.arrived) own_more
          ∙ ap₂ (λ (xs ys : List Message). xs ++ ys) (h.own none).0 (messages_at (c.last + 1) (put_to t (r ∷ [])))
          ∙ sym (put_to_on t rows (r ∷ [])),
      ap (λ (ps : List Post). map stamp_of ps) own_is
          ∙ map-append stamp_of (sent_by t c.arrived) own_more
          ∙ ap₂ (λ (xs ys : List ℕ). xs ++ ys) (h.own none).1 own_stamps
          ∙ sym (put_stamps_on t rows (r ∷ [])),
    )

    -- what it put to another thread waits in its own queue
    puts_more : (u : ℕ) → u ≢ t → map message_of (c.sent u) ++ l'.shared.queues u ≡ put_to u (rows ++ r ∷ [])
    puts_more u ne =
        ap (λ (ms : List Message). map message_of (c.sent u) ++ ms) (a.other_queues u ne)
        ∙ sym (append_assoc (map message_of (c.sent u)) (l.shared.queues u) (put_to u (r ∷ [])))
        ∙ ap (λ (ms : List Message). ms ++ put_to u (r ∷ [])) (h.puts u ne)
        ∙ sym (put_to_on u rows (r ∷ []))

    -- what is in the rings has the stamps that it had
    stamped_more : (u : ℕ) → u ≢ t → AreNotAbove (put_stamps u (rows ++ r ∷ [])) (map stamp_of (c.sent u))
    stamped_more u ne =
        subst (λ (ns : List ℕ). AreNotAbove ns (map stamp_of (c.sent u))) (sym (put_stamps_on u rows (r ∷ [])))
        (not_above_on (put_stamps u rows) (put_stamps u (r ∷ [])) (map stamp_of (c.sent u)) (h.stamped u ne))

    -- the registry is what the rows leave, with the new one if that asks
    replica_more : l'.shared.registry ≡ registry_by setup (registry_at_start setup) (c.seen ++ events (f ∷ []))
    replica_more =
        a.registry_is
        ∙ sym (registry_of_events setup l.shared.registry (f ∷ []))
        ∙ ap (λ (g : Registry). registry_by setup g (events (f ∷ []))) h.replica
        ∙ sym (registry_on setup (registry_at_start setup) c.seen (events (f ∷ [])))

    -- and those of its own are still the events of its rows
    wrote_more : entries_of t (c.seen ++ events (f ∷ [])) ≡ events (entries (rows ++ r ∷ []))
    wrote_more =
        filter-append (λ x. x.thread == t) c.seen (events (f ∷ []))
        ∙ ap₂ (λ (xs ys : List Entry). xs ++ ys) h.wrote (own_event t f thread)
        ∙ ap (λ (e : Entry). events (entries rows) ++ events (e ∷ [])) (sym entry_is)
        ∙ sym (events_on rows (r ∷ []))

    -- each with what had to follow
    followed_more : events_by t (followed_from setup (registry_at_start setup) (c.seen ++ events (f ∷ []))) ≡ events_in (rows ++ r ∷ [])
    followed_more =
        ap (events_by t) (followed_on setup (registry_at_start setup) c.seen (events (f ∷ [])))
        ∙ filter-append (λ j. j.entry.thread == t) (followed_from setup (registry_at_start setup) c.seen) (followed_from setup (registry_by setup (registry_at_start setup) c.seen) (events (f ∷ [])))
        ∙ ap₂ (λ (xs ys : List Event). xs ++ ys) h.followed
        (ap (λ (g : Registry). events_by t (followed_from setup g (events (f ∷ [])))) (sym h.replica) ∙ own_followed setup l.shared.registry t f r thread entry_is a.followed)
        ∙ sym (events_in_on rows (r ∷ []))

    -- the rows before are accepted as they were
    accepted : Accepts setup l'.shared.shut t p.from c.rows l.view
    accepted = subst (λ b. Accepts setup b t p.from c.rows l.view) (sym a.shut_is) h.accepts

    -- what its base devices served is still what its rows say
    served_more : (dev : DevId) → c.served dev ++ served_led setup t dev l (f ∷ []) ≡ p.served dev ++ served_on setup l'.shared.shut t dev p.from (c.rows ++ r ∷ [])
    served_more dev =
        ap (λ (xs : List ServedPiece). xs ++ served_led setup t dev l (f ∷ [])) (h.served dev)
        ∙ append_assoc (p.served dev) (served_on setup l.shared.shut t dev p.from c.rows) (served_led setup t dev l (f ∷ []))
        ∙ ap (λ (xs : List ServedPiece). p.served dev ++ xs)
        (ap₂ (λ (b : Bool) (e : Entry). served_on setup b t dev p.from c.rows ++ (served_by dev l.view e.act ++ [])) (sym a.shut_is) (sym entry_is)
        ∙ sym (served_rows_on setup l'.shared.shut t dev p.from c.rows l.view (r ∷ []) accepted))

    -- and so is what it held
    held_more : c.held ++ held_led setup t l (f ∷ []) ≡ p.held ++ held_on setup l'.shared.shut t p.from (c.rows ++ r ∷ [])
    held_more =
        ap (λ (xs : List Holding). xs ++ held_led setup t l (f ∷ [])) h.held
        ∙ append_assoc p.held (held_on setup l.shared.shut t p.from c.rows) (held_led setup t l (f ∷ []))
        ∙ ap (λ (xs : List Holding). p.held ++ xs)
        (ap₂ (λ (b : Bool) (e : Entry). held_on setup b t p.from c.rows ++ (held_by l.view.here e.act ++ [])) (sym a.shut_is) (sym entry_is)
        ∙ sym (held_rows_on setup l'.shared.shut t p.from c.rows l.view (r ∷ []) accepted))

    -- the course with the row
    goes_on_by : IsCourse setup t p course_more l'
    goes_on_by = record {
      accepts =
          accepts_on setup l'.shared.shut t p.from l.view l'.view c.rows (r ∷ []) accepted
          (subst (λ b. Accepts setup b t l.view (r ∷ []) l'.view) (sym a.shut_is) a.accepts);
      carry = subst (λ (rs : List Row). AllByRecursion HasItsMessage rs) whole (all_append HasItsMessage rows (r ∷ []) h.carry a.carry);
      since = (let le : p.since ≤ c.last = h.since in omega arith);
      late = all_append (λ x. p.since < x.entry.stamp) c.rows (r ∷ []) h.late ((let le : p.since ≤ c.last = h.since in let is : r.entry.stamp ≡ c.last + 1 = stamp_is in omega arith), tt);
      within =
          subst (λ (rs : List Row). AllByRecursion (λ x. x.entry.stamp ≤ c.last + 1) rs) whole
          (all_append (λ x. x.entry.stamp ≤ c.last + 1) rows (r ∷ []) (all_map (λ x. x.entry.stamp ≤ c.last) (λ x. x.entry.stamp ≤ c.last + 1) rows (λ x le. omega arith) h.within)
          ((let is : r.entry.stamp ≡ c.last + 1 = stamp_is in omega arith), tt));
      queue = subst (λ (rs : List Row). took_all rs ++ l'.shared.queues t ≡ map message_of (c.arrived ++ own_more)) whole queue_more;
      lower = subst (λ (rs : List Row). AreLower (map stamp_of (c.arrived ++ own_more)) (take_stamps rs)) whole lower_more;
      met =
          all_append (λ m. m.stamp ≤ c.last + 1) c.arrived own_more (all_map (λ m. m.stamp ≤ c.last) (λ m. m.stamp ≤ c.last + 1) c.arrived (λ m le. omega arith) h.met)
          (stamped_at (c.last + 1) (put_to t (r ∷ [])));
      others = others_more;
      own =
          subst
          (λ (rs : List Row). sent_by t c.taken ≡ []
          → (map message_of (sent_by t (c.arrived ++ own_more)) ≡ put_to t rs) × (map stamp_of (sent_by t (c.arrived ++ own_more)) ≡ put_stamps t rs)) whole
          own_after;
      senders = h.senders;
      puts = λ u ne. subst (λ (rs : List Row). map message_of (c.sent u) ++ l'.shared.queues u ≡ put_to u rs) whole (puts_more u ne);
      stamped = λ u ne. subst (λ (rs : List Row). AreNotAbove (put_stamps u rs) (map stamp_of (c.sent u))) whole (stamped_more u ne);
      none_own = h.none_own;
      replica = replica_more;
      wrote = subst (λ (rs : List Row). entries_of t (c.seen ++ events (f ∷ [])) ≡ events (entries rs)) whole wrote_more;
      followed = subst (λ (rs : List Row). events_by t (followed_from setup (registry_at_start setup) (c.seen ++ events (f ∷ []))) ≡ events_in rs) whole followed_more;
      served = served_more;
      held = held_more;
    }

-- ---- one entry

-- the entry with the log's next stamp
abbrev next_entry : ℕ → Course → Act → Entry
next_entry t c act = record { stamp = c.last + 1; thread = t; act = act }

-- an entry of the thread that the local rules allow
one : (setup : Setup) (t : ℕ) (p : Phase) (c : Course) (l l' : Local) (e : Entry) → Leads setup t l (e ∷ []) l' → IsCourse setup t p c l → GoesOn setup t p c (e ∷ []) l l'
one setup t p c l l' e leads h =
    let turn = turn_is_accepted setup t l l' (e ∷ []) (next_entry t c e.act ∷ []) leads (sym leads.0, refl, positive, tt) in
    by turn.0 turn.1
  where
    positive : 0 < c.last + 1
    positive = omega arith

    by : (rows : List Row) → AreRowsOf setup t l (next_entry t c e.act ∷ []) l' rows → GoesOn setup t p c (e ∷ []) l l'
    by [] a = (let bad : [] ≡ next_entry t c e.act ∷ [] = a.entries_are in cc)
    by (r ∷ []) a = record {
      course = course_more setup t p c l l' (next_entry t c e.act) r;
      longer = record {
        rows = entries_on c.rows (r ∷ []) ∙ ap (λ (es : List Entry). entries c.rows ++ es) a.entries_are;
        taken = refl;
        sent = refl;
        seen = refl;
        last = refl;
      };
      served = λ dev. refl;
      held = refl;
      is_course = goes_on_by setup t p c l l' (next_entry t c e.act) r refl refl a h;
    }
    by (r ∷ s ∷ rs) a = (let bad : r.entry ∷ s.entry ∷ entries rs ≡ next_entry t c e.act ∷ [] = a.entries_are in cc)

-- ---- all entries

-- first by some entries, and then by others from the last stamp on
goes_further : (t : ℕ) (c : Course) (f : Entry) (fs : List Entry) (d c' : Course) → IsLonger t c (f ∷ []) d → IsLonger t d fs c' → IsLonger t c (f ∷ fs) c'
goes_further t c f fs d c' x y = record {
  rows = y.rows ∙ ap (λ (es : List Entry). es ++ fs) x.rows ∙ append_assoc (entries c.rows) (f ∷ []) fs;
  taken = y.taken ∙ x.taken;
  sent = y.sent ∙ x.sent;
  seen =
      y.seen
      ∙ ap (λ (es : List Entry). es ++ events fs) x.seen
      ∙ append_assoc c.seen (events (f ∷ [])) (events fs)
      ∙ ap (λ (es : List Entry). c.seen ++ es) (sym (filter-append is_event (f ∷ []) fs));
  last = (let a : c'.last ≡ d.last + length fs = y.last in let b : d.last ≡ c.last + 1 = x.last in omega arith);
}

pub acts_on : ActsOn
acts_on setup t p c l l' [] leads h = record {
  course = c;
  longer = record {
    rows = sym (append-nil (entries c.rows));
    taken = refl;
    sent = refl;
    seen = sym (append-nil c.seen);
    last = omega arith;
  };
  served = λ dev. sym (append-nil (c.served dev));
  held = sym (append-nil c.held);
  is_course = subst (λ (x : Local). IsCourse setup t p c x) leads h;
}
acts_on setup t p c l l' (e ∷ es) leads h =
    let first : GoesOn setup t p c (e ∷ []) l (local_after setup t l e) = one setup t p c l (local_after setup t l e) e (leads.0, leads.1, leads.2, refl) h in
    let then = acts_on setup t p first.course (local_after setup t l e) l' es leads.3 first.is_course in
    record {
      course = then.course;
      longer =
          goes_further t c (record { stamp = c.last + 1; thread = t; act = e.act }) (restamped t (c.last + 1) (acts_of es)) first.course then.course first.longer
          (subst (λ (n : ℕ). IsLonger t first.course (restamped t n (acts_of es)) then.course) first.longer.last then.longer);
      served = λ dev. (
          then.served dev
          ∙ ap (λ (xs : List ServedPiece). xs ++ served_led setup t dev (local_after setup t l e) es) (first.served dev)
          ∙ append_assoc (c.served dev) (served_led setup t dev l (e ∷ [])) (served_led setup t dev (local_after setup t l e) es)
          ∙ ap (λ (xs : List ServedPiece). c.served dev ++ (xs ++ served_led setup t dev (local_after setup t l e) es)) (append-nil (served_by dev l.view e.act)));
      held =
          then.held
          ∙ ap (λ (xs : List Holding). xs ++ held_led setup t (local_after setup t l e) es) first.held
          ∙ append_assoc c.held (held_led setup t l (e ∷ [])) (held_led setup t (local_after setup t l e) es)
          ∙ ap (λ (xs : List Holding). c.held ++ (xs ++ held_led setup t (local_after setup t l e) es)) (append-nil (held_by l.view.here e.act));
      is_course = then.is_course;
    }

-- ---- any stamp

-- nothing that a course says depends on the stamp that a turn left
pub any_stamp : AnyStamp
any_stamp setup t p c l stamp h = record {
  accepts = h.accepts;
  carry = h.carry;
  since = h.since;
  late = h.late;
  within = h.within;
  queue = h.queue;
  lower = h.lower;
  met = h.met;
  others = h.others;
  own = h.own;
  senders = h.senders;
  puts = h.puts;
  stamped = h.stamped;
  none_own = h.none_own;
  replica = h.replica;
  wrote = h.wrote;
  followed = h.followed;
  served = h.served;
  held = h.held;
}
