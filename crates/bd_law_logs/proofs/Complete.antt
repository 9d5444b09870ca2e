-- Logs that fit and were shut down at rest are merged into a complete run, which ends where each thread saw that it ended.
use Rattle.std.proofs.Common.{◌≡◌, ℕ, ◌+◌, ◌<◌, ◌≤◌, Bool, true, false, cond, ◌&&◌, ◌||◌, ◌==◌, nat_lt, ◌⊎◌, inl, inr, List, [], ◌∷◌, ◌++◌, filter, None, refl, sym, ◌∙◌, ap, ap₂, subst, eq-eqb, ne_eqb, arith, append-nil}
use Rattle.std.specs.List.{AllByRecursion, list_any}
use Rattle.std.proofs.lemmas.Bool.{cases_eq, cases_lt, lt-ltb, le-ltb, ltb-true}
use Rattle.std.proofs.lemmas.List.{get_or_past}
use Rattle.bd_machine.specs.Asked.{is_script_blocked}
use Rattle.bd_machine.specs.Same.{same_dev}
use Rattle.bd_machine.specs.BlockMap.{home, base_of}
use Rattle.std.proofs.lemmas.Nat.{mod_below}
use Rattle.bd_base.specs.declared.act.Entry.{Entry}
use Rattle.bd_base.specs.declared.setup.Setup.{Setup}
use Rattle.bd_machine.specs.declared.state.Part.{Part}
use Rattle.bd_machine.specs.declared.state.Registry.{Registry}
use Rattle.bd_machine.specs.declared.state.State.{State}
use Rattle.bd_machine.specs.Content.{Told}
use Rattle.bd_machine.specs.Messages.{count_at}
use Rattle.bd_machine.specs.Rest.{is_nothing_owed}
use Rattle.bd_machine.specs.Run.{IsRunFrom, IsCompleteRun, after_all, is_finished, state_after}
use Rattle.bd_machine.specs.Start.{start, registry_at_start}
use Rattle.bd_machine.specs.Users.{dev_of}
use Rattle.bd_machine.specs.Step.{after}
use Rattle.bd_machine.specs.View.{View, part_of, blank_part, view}
use Rattle.bd_turns.specs.declared.queue.Message.{Message}
use Rattle.bd_machine.specs.Lines.{shutdown_at}
use Rattle.bd_turns.specs.Laws.{view_at_start, shared_at_start, is_left_open_in, is_resting_here, AreAtRest, AreDone, IsShut}
use Rattle.bd_turns.specs.Local.{Shared}
use Rattle.bd_turns.specs.Tied.{IsTied, count_from}
use Rattle.bd_turns.proofs.Rest.{shutdown_is_allowed, rest_is_complete}
use Rattle.bd_turns.proofs.Start.{start_is_tied}
use Rattle.bd_log.specs.Merge.{IsBefore, IsOrdered}
use Rattle.bd_turns.specs.declared.queue.Post.{Post}
use Rattle.bd_law_logs.specs.Rows.{Row, entries, Accepts}
use Rattle.bd_law_logs.specs.Journals.{before, registry_by, events}
use Rattle.bd_law_logs.specs.Fits.{FindsAt, sent, taken, Fits, IsMergeOf}
use Rattle.bd_law_logs.specs.Laws.{AreAllTaken, AreQuiet, AreSpent, shutdown_of, AreShut, IsSeenAs, LogsAreCompleteRun, LogsEndAsSeen}
use Rattle.bd_law_logs.proofs.Parts.{Before, Ordered, one_merge, filter_ordered, filter_filter}
use Rattle.bd_law_logs.proofs.Meeting.{Meets, thread_of, part, taken_next, sent_next, if_none}
use Rattle.bd_law_logs.proofs.Journal.{true_before, finds_next, registry_at}
use Rattle.bd_law_logs.proofs.Played.{IsNextLater, ArePlayed, are_played}
use Rattle.bd_law_logs.proofs.Merged.{AreRows, rows_of, fit, AreToPlay, playable_by, to_play_at_start, journal_of}

abbrev stamp_of : Row → ℕ
stamp_of r = r.entry.stamp

-- ---- lists

filter_append : {X : Type 0} (test : X → Bool) (xs ys : List X) → filter test (xs ++ ys) ≡ filter test xs ++ filter test ys
filter_append test [] ys = refl
filter_append {X = X} test (x ∷ xs) ys = go (test x) (filter_append test xs ys)
  where
    go : (b : Bool) → filter test (xs ++ ys) ≡ filter test xs ++ filter test ys → cond b (x ∷ filter test (xs ++ ys)) (filter test (xs ++ ys)) ≡ cond b (x ∷ filter test xs) (filter test xs) ++ filter test ys
    go true e = ap (λ (l : List X). x ∷ l) e
    go false e = e

filter_all : {X : Type 0} (test : X → Bool) (xs : List X) → AllByRecursion (λ x. test x ≡ true) xs → filter test xs ≡ xs
filter_all test [] h = refl
filter_all test (x ∷ xs) h = ap₂ (λ b l. cond b (x ∷ l) l) h.0 (filter_all test xs h.1)

filter_none : {X : Type 0} (test : X → Bool) (xs : List X) → AllByRecursion (λ x. test x ≡ false) xs → filter test xs ≡ []
filter_none test [] h = refl
filter_none test (x ∷ xs) h = ap₂ (λ b l. cond b (x ∷ l) l) h.0 (filter_none test xs h.1)

all_map : {X : Type 0} (P Q : X → Type 0) → ((x : X) → P x → Q x) → (xs : List X) → AllByRecursion P xs → AllByRecursion Q xs
all_map P Q f [] h = tt
all_map P Q f (x ∷ xs) h = (f x h.0, all_map P Q f xs h.1)

passing : {X : Type 0} (test : X → Bool) (xs : List X) → AllByRecursion (λ x. test x ≡ true) (filter test xs)
passing test [] = tt
passing {X = X} test (x ∷ xs) = go (test x) refl (passing test xs)
  where
    go : (b : Bool) → test x ≡ b → AllByRecursion (λ x. test x ≡ true) (filter test xs) → AllByRecursion (λ x. test x ≡ true) (cond b (x ∷ filter test xs) (filter test xs))
    go true e h = (e, h)
    go false e h = h

ordered_join : (xs ys : List Row) → Ordered thread_of stamp_of xs → Ordered thread_of stamp_of ys → AllByRecursion (λ x. AllByRecursion (Before thread_of stamp_of x) ys) xs → Ordered thread_of stamp_of (xs ++ ys)
ordered_join [] ys a b h = b
ordered_join (x ∷ xs) ys a b h = (all_append xs ys a.0 h.0, ordered_join xs ys a.1 b h.1)
  where
    all_append : (xs ys : List Row) → AllByRecursion (Before thread_of stamp_of x) xs → AllByRecursion (Before thread_of stamp_of x) ys → AllByRecursion (Before thread_of stamp_of x) (xs ++ ys)
    all_append [] ys h k = k
    all_append (y ∷ xs) ys h k = (h.0, all_append xs ys h.1 k)

rows_ordered : (rows : List Row) → IsOrdered (entries rows) → Ordered thread_of stamp_of rows
rows_ordered [] h = tt
rows_ordered (r ∷ rs) h = (all rs h.0, rows_ordered rs h.1)
  where
    all : (rs : List Row) → AllByRecursion (IsBefore r.entry) (entries rs) → AllByRecursion (Before thread_of stamp_of r) rs
    all [] h = tt
    all (s ∷ rs) h = (h.0, all rs h.1)

-- ---- the rows on either side of the Shutdown

abbrev pub shutdown_row : ℕ → Row
shutdown_row stamp = record { entry = shutdown_at stamp; post = None; between = None }

abbrev is_early : ℕ → Row → Bool
is_early stamp r = nat_lt r.entry.stamp stamp

abbrev is_late : ℕ → Row → Bool
is_late stamp r = nat_lt stamp r.entry.stamp

-- the rows are those before the Shutdown, the Shutdown, and those after it
pub record AreSplit (stamp : ℕ) (firsts seconds : ℕ → List Row) (rows : List Row) : Type 0 where
  pub before_it : List Row
  pub after_it : List Row
  pub is : rows ≡ before_it ++ (shutdown_row stamp ∷ after_it)
  pub firsts_are : (t : ℕ) → part t before_it ≡ firsts t
  pub seconds_are : (t : ℕ) → part t after_it ≡ seconds t

module _ (stamp : ℕ) (firsts seconds : ℕ → List Row) (rows : List Row) (ordered : IsOrdered (entries rows)) (parts : (t : ℕ) → part t rows ≡ firsts t ++ (shutdown_of stamp t ++ seconds t))
    (early : (t : ℕ) → AllByRecursion (λ r. r.entry.stamp < stamp) (firsts t)) (late : (t : ℕ) → AllByRecursion (λ r. stamp < r.entry.stamp) (seconds t)) where
  -- a test of the stamp, of a whole log
  of_log : (test : Row → Bool) (t : ℕ) → part t (filter test rows) ≡ filter test (firsts t) ++ (filter test (shutdown_of stamp t) ++ filter test (seconds t))
  of_log test t =
      filter_filter (λ r. r.entry.thread == t) test rows ∙ ap (filter test) (parts t)
      ∙ filter_append test (firsts t) (shutdown_of stamp t ++ seconds t)
      ∙ ap (λ (l : List Row). filter test (firsts t) ++ l) (filter_append test (shutdown_of stamp t) (seconds t))

  no_shutdown : (test : Row → Bool) → test (shutdown_row stamp) ≡ false → (t : ℕ) → filter test (shutdown_of stamp t) ≡ []
  no_shutdown test e t = go (t == 0)
    where
      go : (b : Bool) → filter test (cond b (shutdown_row stamp ∷ []) []) ≡ []
      go true = ap (λ c. cond c (shutdown_row stamp ∷ []) []) e
      go false = refl

  irreflexive : nat_lt stamp stamp ≡ false
  irreflexive = le-ltb stamp stamp (omega arith)

  before_part : (t : ℕ) → part t (filter (is_early stamp) rows) ≡ firsts t
  before_part t =
      of_log (is_early stamp) t
      ∙ ap₂ (λ (x y : List Row). x ++ y) (filter_all (is_early stamp) (firsts t) (all_map (λ r. r.entry.stamp < stamp) (λ r. is_early stamp r ≡ true) (λ r h. lt-ltb r.entry.stamp stamp h) (firsts t) (early t)))
      (ap₂ (λ (x y : List Row). x ++ y) (no_shutdown (is_early stamp) irreflexive t)
      (filter_none (is_early stamp) (seconds t) (all_map (λ r. stamp < r.entry.stamp) (λ r. is_early stamp r ≡ false) (λ r h. le-ltb r.entry.stamp stamp (omega arith)) (seconds t) (late t))))
      ∙ append-nil (firsts t)

  after_part : (t : ℕ) → part t (filter (is_late stamp) rows) ≡ seconds t
  after_part t =
      of_log (is_late stamp) t
      ∙ ap₂ (λ (x y : List Row). x ++ y) (filter_none (is_late stamp) (firsts t) (all_map (λ r. r.entry.stamp < stamp) (λ r. is_late stamp r ≡ false) (λ r h. le-ltb stamp r.entry.stamp (omega arith)) (firsts t) (early t)))
      (ap₂ (λ (x y : List Row). x ++ y) (no_shutdown (is_late stamp) irreflexive t)
      (filter_all (is_late stamp) (seconds t) (all_map (λ r. stamp < r.entry.stamp) (λ r. is_late stamp r ≡ true) (λ r h. lt-ltb stamp r.entry.stamp h) (seconds t) (late t))))

  shutdown_part : (t : ℕ) (after_it : List Row) → part t (shutdown_row stamp ∷ after_it) ≡ shutdown_of stamp t ++ part t after_it
  shutdown_part t after_it = go (cases_eq t 0)
    where
      go : (t ≡ 0) ⊎ (t ≡ 0 → ⊥) → part t (shutdown_row stamp ∷ after_it) ≡ shutdown_of stamp t ++ part t after_it
      go (inl e) =
          ap (λ b. cond b (shutdown_row stamp ∷ part t after_it) (part t after_it)) (eq-eqb 0 t (sym e))
          ∙ sym (ap (λ b. cond b (shutdown_row stamp ∷ []) [] ++ part t after_it) (eq-eqb t 0 e))
      go (inr ne) =
          ap (λ b. cond b (shutdown_row stamp ∷ part t after_it) (part t after_it)) (ne_eqb 0 t (λ e. ne (sym e)))
          ∙ sym (ap (λ b. cond b (shutdown_row stamp ∷ []) [] ++ part t after_it) (ne_eqb t 0 ne))

  pub split : AreSplit stamp firsts seconds rows
  split = record {
    before_it = filter (is_early stamp) rows;
    after_it = filter (is_late stamp) rows;
    is = one_merge thread_of stamp_of rows (filter (is_early stamp) rows ++ (shutdown_row stamp ∷ filter (is_late stamp) rows)) all_ordered
        (ordered_join (filter (is_early stamp) rows) (shutdown_row stamp ∷ filter (is_late stamp) rows) (filter_ordered thread_of stamp_of (is_early stamp) rows all_ordered)
        (lates, filter_ordered thread_of stamp_of (is_late stamp) rows all_ordered) earlies)
        (λ t. sym (filter_append (λ r. r.entry.thread == t) (filter (is_early stamp) rows) (shutdown_row stamp ∷ filter (is_late stamp) rows)
        ∙ ap₂ (λ (x y : List Row). x ++ y) (before_part t) (shutdown_part t (filter (is_late stamp) rows) ∙ ap (λ (l : List Row). shutdown_of stamp t ++ l) (after_part t)) ∙ sym (parts t)));
    firsts_are = before_part;
    seconds_are = after_part;
  }
    where
      all_ordered : Ordered thread_of stamp_of rows
      all_ordered = rows_ordered rows ordered

      lates : AllByRecursion (Before thread_of stamp_of (shutdown_row stamp)) (filter (is_late stamp) rows)
      lates = all_map (λ r. is_late stamp r ≡ true) (Before thread_of stamp_of (shutdown_row stamp)) (λ r h. inl (ltb-true stamp r.entry.stamp h)) (filter (is_late stamp) rows) (passing (is_late stamp) rows)

      earlies : AllByRecursion (λ x. AllByRecursion (Before thread_of stamp_of x) (shutdown_row stamp ∷ filter (is_late stamp) rows)) (filter (is_early stamp) rows)
      earlies = all_map (λ r. is_early stamp r ≡ true) (λ x. AllByRecursion (Before thread_of stamp_of x) (shutdown_row stamp ∷ filter (is_late stamp) rows))
          (λ r h. (let low : r.entry.stamp < stamp = ltb-true r.entry.stamp stamp h in
          (inl low, all_map (λ q. is_late stamp q ≡ true) (Before thread_of stamp_of r) (λ q k. let high : stamp < q.entry.stamp = ltb-true stamp q.entry.stamp k in inl (omega arith)) (filter (is_late stamp) rows) (passing (is_late stamp) rows))))
          (filter (is_early stamp) rows) (passing (is_early stamp) rows)

-- ---- at rest

-- threads that are quiet leave no queue a message
one_more : (b : Bool) (n : ℕ) → b ≡ true → cond b 1 0 + n ≡ 0 → ⊥
one_more true n e h = omega arith
one_more false n e h = cc

none_from : (ms : List Message) → ((a : ℕ) → count_from a ms ≡ 0) → ms ≡ []
none_from [] h = refl
none_from (m ∷ ms) h = absurd (one_more (m.sender == m.sender) (count_from m.sender ms) (eq-eqb m.sender m.sender refl) (h m.sender))

module _ (setup : Setup) (s : State) (views : ℕ → View) (shared : Shared) (ends : ℕ → View) (tied : IsTied setup s views shared) (outer : (u : ℕ) → setup.threads ≤ u → shared.queues u ≡ [])
    (views_are : (t : ℕ) → t < setup.threads → views t ≡ ends t) (all_taken : AreAllTaken setup.threads ends) where
  part_is : (t : ℕ) → t < setup.threads → part_of s t ≡ (ends t).part
  part_is t lt = ap (λ (v : View). v.part) (tied.views_are t lt ∙ views_are t lt)

  none_past : (t : ℕ) → setup.threads ≤ t → part_of s t ≡ blank_part
  none_past t ge = get_or_past s.parts t blank_part (subst (λ (n : ℕ). n ≤ t) (sym tied.threads_are) ge)

  none_queued : (r : ℕ) → shared.queues r ≡ []
  none_queued r = at (cases_lt r setup.threads)
    where
      from_each : r < setup.threads → (a : ℕ) → (a < setup.threads) ⊎ (setup.threads ≤ a) → count_from a (shared.queues r) ≡ 0
      from_each lt a (inl a_lt) =
          let counts : count_at (part_of s a).put r ≡ count_at (part_of s r).taken a + count_from a (shared.queues r) = tied.counts r a in
          let put : count_at (part_of s a).put r ≡ count_at (ends a).part.put r = ap (λ (p : Part). count_at p.put r) (part_is a a_lt) in
          let took : count_at (part_of s r).taken a ≡ count_at (ends r).part.taken a = ap (λ (p : Part). count_at p.taken a) (part_is r lt) in
          let same : count_at (ends a).part.put r ≡ count_at (ends r).part.taken a = all_taken a r a_lt lt in
          omega arith
      from_each lt a (inr ge) =
          let counts : count_at (part_of s a).put r ≡ count_at (part_of s r).taken a + count_from a (shared.queues r) = tied.counts r a in
          let none : count_at (part_of s a).put r ≡ 0 = ap (λ (p : Part). count_at p.put r) (none_past a ge) in
          omega arith

      at : (r < setup.threads) ⊎ (setup.threads ≤ r) → shared.queues r ≡ []
      at (inl lt) = none_from (shared.queues r) (λ a. from_each lt a (cases_lt a setup.threads))
      at (inr ge) = outer r ge

  pub at_rest : 0 < setup.threads → AreQuiet setup shared.registry ends → AreAtRest setup views shared
  at_rest some quiet = record {
    none_queued = none_queued;
    none_due = λ t lt. ap (λ (v : View). v.part.due) (views_are t lt) ∙ quiet.none_due t lt;
    owed_idle = λ t lt. ap (λ (v : View). is_nothing_owed shared.registry v.part) (views_are t lt) ∙ quiet.owed_idle t lt;
    closed = λ t lt. ap (λ (v : View). list_any (is_left_open_in setup v) v.handles) (views_are t lt) ∙ quiet.closed t lt;
    resting = λ t lt id. ap (λ (v : View). is_resting_here setup t v id (v.here id)) (views_are t lt) ∙ quiet.resting t lt id;
    untaken = ap (λ (v : View). v.part.prior) (views_are 0 some) ∙ quiet.untaken;
  }

  pub done : AreSpent setup.threads ends → AreDone setup views shared
  done spent = record {
    none_queued = none_queued;
    none_here = λ t lt id. ap (λ (v : View). v.here id) (views_are t lt) ∙ spent.none_here t lt id;
    none_due = λ t lt. ap (λ (v : View). v.part.due) (views_are t lt) ∙ spent.none_due t lt;
    none_owed = λ t lt. ap (λ (v : View). v.part.owed) (views_are t lt) ∙ spent.none_owed t lt;
  }

-- ---- runs

run_on : (setup : Setup) (s : State) (es fs : List Entry) → IsRunFrom setup s es → IsRunFrom setup (after_all setup s es) fs → IsRunFrom setup s (es ++ fs)
run_on setup s [] fs a b = b
run_on setup s (e ∷ es) fs a b = (a.0, run_on setup (after setup s e) es fs a.1 b)

after_on : (setup : Setup) (s : State) (es fs : List Entry) → after_all setup s (es ++ fs) ≡ after_all setup (after_all setup s es) fs
after_on setup s [] fs = refl
after_on setup s (e ∷ es) fs = after_on setup (after setup s e) es fs

pub entries_on : (xs ys : List Row) → entries (xs ++ ys) ≡ entries xs ++ entries ys
entries_on [] ys = refl
entries_on (x ∷ xs) ys = ap (λ (l : List Entry). x.entry ∷ l) (entries_on xs ys)

-- ---- the law

module _ (setup : Setup) (told : Told) (logs : ℕ → List Row) (journal merged : List Entry) (sh : AreShut setup told logs journal) (fits : Fits setup (registry_at_start setup) logs journal) (merge : IsMergeOf logs merged) where
  pub m : AreRows logs merged
  m = rows_of merged logs merge.parts

  pub ordered : IsOrdered (entries m.rows)
  ordered = subst IsOrdered (sym m.entries_are) merge.ordered

  pub sides : AreSplit sh.stamp sh.firsts sh.seconds m.rows
  sides = split sh.stamp sh.firsts sh.seconds m.rows ordered (λ t. m.parts t ∙ sh.logs_are t) sh.early sh.late

  pub early : ArePlayed setup false (start setup told) (registry_at_start setup) sides.before_it (shutdown_row sh.stamp ∷ sides.after_it) sh.marks
  early = are_played setup false (start setup told) (view_at_start setup told) (shared_at_start setup) sides.before_it (shutdown_row sh.stamp ∷ sides.after_it) sh.marks
      (playable_by setup false (start setup told) (view_at_start setup told) (shared_at_start setup) m.rows sides.before_it (shutdown_row sh.stamp ∷ sides.after_it) sh.marks
      (to_play_at_start setup told m.rows (fit setup (registry_at_start setup) logs journal m.rows fits sh.none_else ordered m.parts))
      sides.is (start_is_tied setup told) refl
      (λ t lt. subst (λ (rs : List Row). Accepts setup false t (view_at_start setup told t) rs (sh.marks t)) (sym (sides.firsts_are t)) (sh.to_marks t lt)))

  abbrev pub middle : State
  middle = after_all setup (start setup told) (entries sides.before_it)

  lower : early.shared.stamp < sh.stamp
  lower = go (nat_lt middle.stamp sh.stamp) refl (early.playable.later (lt-ltb 0 sh.stamp sh.positive))
    where
      below_zero : (n : ℕ) → nat_lt n 0 ≡ false
      below_zero n = le-ltb n 0 (omega arith)

      none : (b : Bool) → (b && false) ≡ false
      none true = refl
      none false = refl

      go : (b : Bool) → nat_lt middle.stamp sh.stamp ≡ b → (b || ((middle.stamp == sh.stamp) && nat_lt middle.thread 0)) ≡ true → early.shared.stamp < sh.stamp
      go true e h = subst (λ (n : ℕ). n < sh.stamp) early.playable.tied.stamp_is (ltb-true middle.stamp sh.stamp e)
      go false e h = let bad : false ≡ true = sym (ap (λ b. (middle.stamp == sh.stamp) && b) (below_zero middle.thread) ∙ none (middle.stamp == sh.stamp)) ∙ h in cc

  -- the registry at the Shutdown is that of the journal's rows before it
  registry_is : registry_by setup (registry_at_start setup) (before (shutdown_at sh.stamp) journal) ≡ early.shared.registry
  registry_is =
      ap (λ (es : List Entry). registry_by setup (registry_at_start setup) (before (shutdown_at sh.stamp) es))
      (journal_of setup (registry_at_start setup) logs journal m.rows fits ordered m.parts ∙ ap events rows_are)
      ∙ registry_at setup (registry_at_start setup) (entries sides.before_it) (shutdown_at sh.stamp) (entries sides.after_it) (subst IsOrdered rows_are ordered)
      ∙ sym early.registry_is
    where
      rows_are : entries m.rows ≡ entries sides.before_it ++ (shutdown_at sh.stamp ∷ entries sides.after_it)
      rows_are = ap entries sides.is ∙ entries_on sides.before_it (shutdown_row sh.stamp ∷ sides.after_it)

  quiet : AreQuiet setup early.shared.registry sh.marks
  quiet = subst (λ (r : Registry). AreQuiet setup r sh.marks) registry_is sh.quiet_at_marks

  pub shut : IsShut setup middle early.views early.shared sh.stamp
  shut = shutdown_is_allowed setup middle early.views early.shared sh.stamp early.playable.tied sh.some
      (at_rest setup middle early.views early.shared sh.marks early.playable.tied early.playable.outer early.playable.accepts sh.quiet_at_marks.all_taken sh.some quiet)
      (λ t lt. ap (λ (v : View). is_script_blocked setup t v) (early.playable.accepts t lt) ∙ sh.blocked t lt)
      early.playable.shut_is lower

  abbrev pub shared_shut : Shared
  shared_shut = record early.shared { stamp = sh.stamp; shut = true }

  later_than_shutdown : (rs : List Row) → AllByRecursion (IsBefore (shutdown_at sh.stamp)) (entries rs) → IsNextLater (after setup middle (shutdown_at sh.stamp)) rs
  unfolding after
  later_than_shutdown [] h = tt
  later_than_shutdown (r ∷ rs) h = λ p. true_before (shutdown_at sh.stamp) r.entry h.0

  finds_later : (rs : List Row) → AllByRecursion (IsBefore (shutdown_at sh.stamp)) (entries rs) → AllByRecursion (FindsAt setup early.shared.registry (events (shutdown_at sh.stamp ∷ entries sides.after_it))) rs
      → AllByRecursion (FindsAt setup early.shared.registry (events (entries sides.after_it))) rs
  finds_later [] h u = tt
  finds_later (r ∷ rs) h u = (finds_next setup early.shared.registry (shutdown_at sh.stamp) r (entries sides.after_it) h.0 u.0, finds_later rs h.1 u.1)

  pub to_play : AreToPlay setup (after setup middle (shutdown_at sh.stamp)) shared_shut sides.after_it
  to_play = record {
    later = later_than_shutdown sides.after_it early.playable.ordered.0;
    ordered = early.playable.ordered.1;
    within = early.playable.within.1;
    meets = λ a u. subst (λ (ts : List Post). Meets a (early.shared.queues u) ts (sent u (part a sides.after_it))) (taken_next a u (shutdown_row sh.stamp) sides.after_it ∙ if_none (0 == u) (taken a (part u sides.after_it)))
        (subst (λ (ss : List Post). Meets a (early.shared.queues u) (taken a (part u (shutdown_row sh.stamp ∷ sides.after_it))) ss) (sent_next u a (shutdown_row sh.stamp) sides.after_it ∙ if_none (0 == a) (sent u (part a sides.after_it)))
        (early.playable.meets a u));
    stamped = early.playable.stamped.1;
    goes = early.playable.goes.1;
    outer = early.playable.outer;
    replay = early.playable.replay.1;
    finds = finds_later sides.after_it early.playable.ordered.0 early.playable.finds.1;
  }

  late : ArePlayed setup true (after setup middle (shutdown_at sh.stamp)) shared_shut.registry sides.after_it [] sh.ends
  late = are_played setup true (after setup middle (shutdown_at sh.stamp)) early.views shared_shut sides.after_it [] sh.ends
      (playable_by setup true (after setup middle (shutdown_at sh.stamp)) early.views shared_shut sides.after_it sides.after_it [] sh.ends to_play (sym (append-nil sides.after_it)) shut.tied refl
      (λ t lt. subst (λ (v : View). Accepts setup true t v (part t sides.after_it) (sh.ends t)) (sym (early.playable.accepts t lt))
      (subst (λ (rs : List Row). Accepts setup true t (sh.marks t) rs (sh.ends t)) (sym (sides.seconds_are t)) (sh.to_ends t lt))))

  abbrev last : State
  last = after_all setup (after setup middle (shutdown_at sh.stamp)) (entries sides.after_it)

  finished : is_finished setup last ≡ true
  finished = rest_is_complete setup last late.views late.shared late.playable.tied sh.some
      (done setup last late.views late.shared sh.ends late.playable.tied late.playable.outer late.playable.accepts sh.spent_at_ends.all_taken sh.spent_at_ends)
      late.playable.shut_is
      (λ n lt. ap (λ (v : View). list_any (same_dev (dev_of n)) v.part.destructed) (late.playable.accepts (home setup (dev_of n)) (home_lt n)) ∙ sh.destructed n lt)
    where
      home_lt : (n : ℕ) → home setup (dev_of n) < setup.threads
      home_lt n = mod_below (base_of setup (dev_of n)).0 setup.threads sh.some

  pub entries_are : entries sides.before_it ++ (shutdown_at sh.stamp ∷ entries sides.after_it) ≡ merged
  entries_are = sym (ap entries sides.is ∙ entries_on sides.before_it (shutdown_row sh.stamp ∷ sides.after_it)) ∙ m.entries_are

  pub complete : IsCompleteRun setup told merged
  complete =
      subst (IsCompleteRun setup told) entries_are (
        run_on setup (start setup told) (entries sides.before_it) (shutdown_at sh.stamp ∷ entries sides.after_it) early.run (shut.allowed, late.run),
        ap (is_finished setup) (after_on setup (start setup told) (entries sides.before_it) (shutdown_at sh.stamp ∷ entries sides.after_it)) ∙ finished,
      )

  -- the merge leaves the state after the rows on both sides, which shows each thread what it saw at its end
  pub end_is_seen : (t : ℕ) → t < setup.threads → view (state_after setup told merged) t ≡ sh.ends t
  end_is_seen t lt =
      subst (λ (es : List Entry). view (state_after setup told es) t ≡ sh.ends t) entries_are (
      ap (λ (s : State). view s t) (after_on setup (start setup told) (entries sides.before_it) (shutdown_at sh.stamp ∷ entries sides.after_it))
      ∙ late.playable.tied.views_are t lt ∙ late.playable.accepts t lt)

pub logs_are_complete_run : LogsAreCompleteRun
logs_are_complete_run setup told logs journal merged sh fits merge = complete setup told logs journal merged sh fits merge

-- a state that shows a thread this view has for it what the view has
seen_as : (s : State) (t : ℕ) (v : View) → view s t ≡ v → IsSeenAs s t v
seen_as s t v e = record {
  part = ap (λ (w : View). w.part) e;
  here = λ id. ap (λ (w : View). w.here id) e;
  handles = ap (λ (w : View). w.handles) e;
  channels = λ dev. ap (λ (w : View). w.channels dev) e;
}

pub logs_end_as_seen : LogsEndAsSeen
logs_end_as_seen setup told logs journal merged sh fits merge t lt = seen_as (state_after setup told merged) t (sh.ends t) (end_is_seen setup told logs journal merged sh fits merge t lt)
