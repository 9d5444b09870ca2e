-- The courses of all threads, after a Shutdown at rest, are one complete run, which ends where each thread saw that it ended.
use Rattle.std.proofs.Common.{◌≡◌, ◌≢◌, ℕ, ◌<◌, ◌≤◌, Bool, true, false, cond, nat_lt, ◌⊎◌, inl, inr, List, [], ◌∷◌, ◌++◌, map, find, None, refl, sym, ◌∙◌, ap, ap₂, subst, append_assoc, ne_eqb, ltb-true, ltb-false, arith}
use Rattle.std.specs.List.{AllByRecursion, list_all}
use Rattle.std.proofs.lemmas.Bool.{cases_eq, lt-ltb}
use Rattle.std.proofs.lemmas.Nat.{mod_below}
use Rattle.bd_base.specs.declared.act.Entry.{Entry}
use Rattle.bd_base.specs.declared.setup.Setup.{Setup}
use Rattle.bd_machine.specs.declared.state.Owed.{Owed}
use Rattle.bd_machine.specs.declared.state.Part.{Part}
use Rattle.bd_machine.specs.BlockMap.{base_of, home}
use Rattle.bd_machine.specs.Content.{Told}
use Rattle.bd_machine.specs.Homes.{is_base}
use Rattle.bd_machine.specs.Lines.{shutdown_at}
use Rattle.bd_machine.specs.Rest.{is_idle_owed}
use Rattle.bd_machine.specs.Start.{registry_at_start}
use Rattle.bd_machine.specs.View.{View}
use Rattle.bd_turns.specs.Laws.{view_at_start}
use Rattle.bd_turns.specs.Local.{Local}
use Rattle.bd_log.specs.Merge.{entries_of}
use Rattle.bd_law_logs.specs.Rows.{Row, message_of, entries, Accepts}
use Rattle.bd_law_logs.specs.Journals.{before, events, events_by, followed_from, registry_by}
use Rattle.bd_law_logs.specs.Fits.{events_in}
use Rattle.bd_law_logs.specs.Laws.{AreShut, shutdown_of}
use Rattle.bd_law_logs.specs.Loose.{FitLoosely}
use Rattle.bd_law_logs.specs.Turning.{HasItsMessage, put_to}
use Rattle.bd_law_logs.proofs.Restamped.{loose_logs_are_complete_run, loose_logs_end_as_seen}
use Rattle.bd_law_served.specs.Served.{served_on}
use Rattle.bd_law_held.specs.Held.{held_on}
use Rattle.bd_law_held.proofs.Restamped.{merge_holds_as_seen}
use Rattle.bd_law_served.proofs.Restamped.{merge_serves_as_seen}
use Rattle.bd_law_threads.specs.Course.{all_rows, Course, IsCourse}
use Rattle.bd_law_threads.specs.Ends.{phase_after, AreDelivered, AreEnded, BasesEndAsSeen, CoursesAreCompleteRun, CoursesEndAsSeen, CoursesHoldAsSeen, CoursesServeAsSeen, IsJournalOf}
use Rattle.bd_law_threads.proofs.Delivered.{absent_passed, none_passed, others_passed, own_passed, Passed}
use Rattle.bd_law_threads.proofs.Journaled.{events_seen, journal_found}
use Rattle.bd_law_threads.proofs.Rows.{none_followed}

-- a thread exists or it doesn't
within_or : (t n : ℕ) → (t < n) ⊎ (n ≤ t)
within_or t n = go (nat_lt t n) refl
  where
    go : (b : Bool) → nat_lt t n ≡ b → (t < n) ⊎ (n ≤ t)
    go true e = inl (ltb-true t n e)
    go false e = inr (ltb-false t n e)

module _ (setup : Setup) (told : Told) (stamp : ℕ) (firsts : ℕ → List Row) (marks : ℕ → View) (logs : ℕ → List Row) (cs : ℕ → Course) (ls : ℕ → Local) (ended : AreEnded setup told stamp firsts marks logs cs ls) where
  -- the rows of a thread's course, which are its log
  abbrev rows_at : ℕ → List Row
  rows_at t = all_rows (phase_after setup told stamp firsts marks t) (cs t)

  -- the course of each thread that exists
  course : (t : ℕ) → t < setup.threads → IsCourse setup t (phase_after setup told stamp firsts marks t) (cs t) (ls t)
  course t lt = ended.courses t lt

  -- the rows after the Shutdown
  abbrev seconds : ℕ → List Row
  seconds t = cond (nat_lt t setup.threads) (cs t).rows []

  -- ---- the logs were shut down

  -- a thread that doesn't exist has no row of the Shutdown
  none_shut : (t : ℕ) → setup.threads ≤ t → shutdown_of stamp t ≡ []
  none_shut t le = ap (λ b. cond b (record { entry = shutdown_at stamp; post = None; between = None } ∷ []) []) (ne_eqb t 0 (λ e. apart e))
    where
      apart : t ≡ 0 → ⊥
      apart e = let some : 0 < setup.threads = ended.some in omega arith

  -- each log is the rows before the Shutdown, the Shutdown and the rows after it
  logs_parts : (t : ℕ) → logs t ≡ firsts t ++ (shutdown_of stamp t ++ seconds t)
  logs_parts t = go (nat_lt t setup.threads) refl
    where
      go : (b : Bool) → nat_lt t setup.threads ≡ b → logs t ≡ firsts t ++ (shutdown_of stamp t ++ cond b (cs t).rows [])
      go true e = ended.logs_are t (ltb-true t setup.threads e) ∙ append_assoc (firsts t) (shutdown_of stamp t) (cs t).rows
      go false e =
          let le : setup.threads ≤ t = ltb-false t setup.threads e in
          ended.none_else t le ∙ sym (ap₂ (λ (xs ys : List Row). xs ++ (ys ++ [])) (ended.none_first t le) (none_shut t le))

  -- the rows before it have lower stamps
  early_all : (t : ℕ) → AllByRecursion (λ r. r.entry.stamp < stamp) (firsts t)
  early_all t = go (within_or t setup.threads)
    where
      go : (t < setup.threads) ⊎ (setup.threads ≤ t) → AllByRecursion (λ r. r.entry.stamp < stamp) (firsts t)
      go (inl lt) = ended.marked.early t lt
      go (inr le) = subst (λ (rows : List Row). AllByRecursion (λ r. r.entry.stamp < stamp) rows) (sym (ended.none_first t le)) tt

  -- the rows after it have higher ones
  late_all : (t : ℕ) → AllByRecursion (λ r. stamp < r.entry.stamp) (seconds t)
  late_all t = go (nat_lt t setup.threads) refl
    where
      go : (b : Bool) → nat_lt t setup.threads ≡ b → AllByRecursion (λ r. stamp < r.entry.stamp) (cond b (cs t).rows [])
      go true e = (course t (ltb-true t setup.threads e)).late
      go false e = tt

  -- the rows after it lead to where the thread ended
  ends_accept : (t : ℕ) → t < setup.threads → Accepts setup true t (marks t) (seconds t) (ls t).view
  ends_accept t lt =
      subst (λ (b : Bool). Accepts setup true t (marks t) (cond b (cs t).rows []) (ls t).view) (sym (lt-ltb t setup.threads lt))
      (subst (λ (b : Bool). Accepts setup b t (marks t) (cs t).rows (ls t).view) (ended.shut t lt) (course t lt).accepts)

  -- so the logs were shut down at rest, whatever the journal
  shut : (journal : List Entry) → AreShut setup told logs journal
  shut journal = record {
    stamp = stamp;
    firsts = firsts;
    seconds = seconds;
    marks = marks;
    ends = λ t. (ls t).view;
    some = ended.some;
    positive = ended.marked.positive;
    logs_are = logs_parts;
    none_else = ended.none_else;
    early = early_all;
    late = late_all;
    to_marks = ended.marked.accepted;
    to_ends = ends_accept;
    quiet_at_marks = record {
      none_due = λ t lt. (ended.marked.rested t lt).none_due;
      owed_idle = λ t lt. (
          ap (λ (owed : List Owed). list_all (is_idle_owed (registry_by setup (registry_at_start setup) (before (shutdown_at stamp) journal))) owed) (ended.marked.rested t lt).none_owed);
      closed = λ t lt. (ended.marked.rested t lt).closed;
      resting = λ t lt. (ended.marked.rested t lt).resting;
      untaken = ended.marked.untaken;
      all_taken = ended.marked.all_taken;
    };
    blocked = ended.marked.blocked;
    spent_at_ends = ended.spent;
    destructed = ended.destructed;
  }

  -- ---- they fit

  -- each row has its message
  carry_all : (t : ℕ) → AllByRecursion HasItsMessage (logs t)
  carry_all t = go (within_or t setup.threads)
    where
      go : (t < setup.threads) ⊎ (setup.threads ≤ t) → AllByRecursion HasItsMessage (logs t)
      go (inl lt) = subst (λ (rows : List Row). AllByRecursion HasItsMessage rows) (sym (ended.logs_are t lt)) (course t lt).carry
      go (inr le) = subst (λ (rows : List Row). AllByRecursion HasItsMessage rows) (sym (ended.none_else t le)) tt

  -- nothing was put to a thread that doesn't exist
  within_all : (t u : ℕ) → setup.threads ≤ u → put_to u (logs t) ≡ []
  within_all t u high = go (within_or t setup.threads)
    where
      go : (t < setup.threads) ⊎ (setup.threads ≤ t) → put_to u (logs t) ≡ []
      go (inl lt) =
          ap (put_to u) (ended.logs_are t lt)
          ∙ sym ((course t lt).puts u apart)
          ∙ ap₂ (λ ps ms. map message_of ps ++ ms) (ended.no_sent t u lt high) (ended.no_queues t u lt high)
        where
          apart : u ≢ t
          apart e = omega arith
      go (inr le) = ap (put_to u) (ended.none_else t le)

  -- between any two numbers, what was taken is what was put
  passed : AreDelivered setup.threads cs → (s t : ℕ) → Passed s t (logs s) (logs t)
  passed delivered s t = go (within_or s setup.threads) (within_or t setup.threads)
    where
      -- of threads that exist
      both : s < setup.threads → t < setup.threads → (s ≡ t) ⊎ (s ≡ t → ⊥) → Passed s t (rows_at s) (rows_at t)
      both low lt (inl e) =
          subst (λ (k : ℕ). Passed k t (rows_at k) (rows_at t)) (sym e)
          (own_passed setup t (phase_after setup told stamp firsts marks t) (cs t) (ls t) (delivered t t lt lt).0 (course t lt) (delivered t t lt lt).1)
      both low lt (inr apart) =
          let ring = delivered s t low lt in
          others_passed setup s t (phase_after setup told stamp firsts marks s) (phase_after setup told stamp firsts marks t) (cs s) (cs t) (ls s) (ls t) ring.0 apart (course s low) (course t lt) ring.1

      go : (s < setup.threads) ⊎ (setup.threads ≤ s) → (t < setup.threads) ⊎ (setup.threads ≤ t) → Passed s t (logs s) (logs t)
      go x (inr le) = subst (λ (rows : List Row). Passed s t (logs s) rows) (sym (ended.none_else t le)) (none_passed s t (logs s))
      go (inl low) (inl lt) =
          subst (λ (rows : List Row). Passed s t rows (logs t)) (sym (ended.logs_are s low))
          (subst (λ (rows : List Row). Passed s t (rows_at s) rows) (sym (ended.logs_are t lt)) (both low lt (cases_eq s t)))
      go (inr high) (inl lt) =
          subst (λ (rows : List Row). Passed s t rows (logs t)) (sym (ended.none_else s high))
          (subst (λ (rows : List Row). Passed s t [] rows) (sym (ended.logs_are t lt)) (absent_passed setup s t (phase_after setup told stamp firsts marks t) (cs t) (ls t) high lt (course t lt)))

  -- the journal's rows of each thread are the events of its log
  journal_all : (journal : List Entry) → IsJournalOf setup logs cs journal → (t : ℕ) → entries_of t journal ≡ events (entries (logs t))
  journal_all journal j t = go (within_or t setup.threads)
    where
      go : (t < setup.threads) ⊎ (setup.threads ≤ t) → entries_of t journal ≡ events (entries (logs t))
      go (inl lt) = j.rows t lt
      go (inr le) = j.others t le ∙ sym (ap (λ (rows : List Row). events (entries rows)) (ended.none_else t le))

  -- each with what had to follow
  events_all : (journal : List Entry) → IsJournalOf setup logs cs journal → (t : ℕ) → events_by t (followed_from setup (registry_at_start setup) journal) ≡ events_in (logs t)
  events_all journal j t = go (within_or t setup.threads)
    where
      go : (t < setup.threads) ⊎ (setup.threads ≤ t) → events_by t (followed_from setup (registry_at_start setup) journal) ≡ events_in (logs t)
      go (inl lt) =
          events_seen setup (registry_at_start setup) t journal (cs t).seen (j.seen t lt).0 (events (entries (rows_at t))) (j.seen t lt).1
          (j.rows t lt ∙ ap (λ (rows : List Row). events (entries rows)) (ended.logs_are t lt)) (course t lt).wrote
          ∙ (course t lt).followed
          ∙ sym (ap events_in (ended.logs_are t lt))
      go (inr le) = none_followed setup (registry_at_start setup) t journal (j.others t le) ∙ sym (ap events_in (ended.none_else t le))

  -- so the logs fit by their messages, by their stamps and with the journal
  fits : AreDelivered setup.threads cs → (journal : List Entry) → IsJournalOf setup logs cs journal → FitLoosely setup (registry_at_start setup) logs journal
  fits delivered journal j = record {
    messages = λ s t. (passed delivered s t).messages;
    later = λ s t. (passed delivered s t).later;
    carry = carry_all;
    within = within_all;
    journal_ordered = j.ordered;
    journal_rows = journal_all journal j;
    replay = j.replay;
    finds = journal_found setup (registry_at_start setup) logs journal j.ordered (events_all journal j);
  }

-- **Courses are a complete run**: the merge of the logs of all threads, each on its course to its end, is a complete run
pub courses_are_complete_run : CoursesAreCompleteRun
courses_are_complete_run setup told stamp firsts marks logs cs ls journal merged ended delivered j merge =
    loose_logs_are_complete_run setup told logs journal merged (shut setup told stamp firsts marks logs cs ls ended journal) (fits setup told stamp firsts marks logs cs ls ended delivered journal j) merge

-- **Courses end as seen**: the state that the merge leaves has for each thread what the thread saw at its end
pub courses_end_as_seen : CoursesEndAsSeen
unfolding shut
courses_end_as_seen setup told stamp firsts marks logs cs ls journal merged ended delivered j merge =
    loose_logs_end_as_seen setup told logs journal merged (shut setup told stamp firsts marks logs cs ls ended journal) (fits setup told stamp firsts marks logs cs ls ended delivered journal j) merge

-- each base device's home exists, so this is so of what it has of the device
pub bases_end_as_seen : BasesEndAsSeen
bases_end_as_seen setup told stamp firsts marks logs cs ls journal merged ended delivered j merge dev =
    ap (λ (p : Part). find (is_base dev) p.bases)
    (courses_end_as_seen setup told stamp firsts marks logs cs ls journal merged ended delivered j merge (home setup dev) (mod_below (base_of setup dev).0 setup.threads ended.some)).part

-- **Courses serve as seen**: what a thread served in the merge is what it served before the Shutdown and after it, which its course has
pub courses_serve_as_seen : CoursesServeAsSeen
unfolding shut
courses_serve_as_seen setup told stamp firsts marks logs cs ls journal merged ended delivered j merge t dev lt =
    merge_serves_as_seen setup told logs journal merged (shut setup told stamp firsts marks logs cs ls ended journal) (fits setup told stamp firsts marks logs cs ls ended delivered journal j) merge t dev lt
    ∙ ap₂ (λ (b c : Bool). served_on setup false t dev (view_at_start setup told t) (firsts t) ++ served_on setup b t dev (marks t) (cond c (cs t).rows [])) (sym (ended.shut t lt)) (lt-ltb t setup.threads lt)
    ∙ sym ((ended.courses t lt).served dev)

-- **and hold as seen**
pub courses_hold_as_seen : CoursesHoldAsSeen
unfolding shut
courses_hold_as_seen setup told stamp firsts marks logs cs ls journal merged ended delivered j merge t lt =
    merge_holds_as_seen setup told logs journal merged (shut setup told stamp firsts marks logs cs ls ended journal) (fits setup told stamp firsts marks logs cs ls ended delivered journal j) merge t lt
    ∙ ap₂ (λ (b c : Bool). held_on setup false t (view_at_start setup told t) (firsts t) ++ held_on setup b t (marks t) (cond c (cs t).rows [])) (sym (ended.shut t lt)) (lt-ltb t setup.threads lt)
    ∙ sym (ended.courses t lt).held
