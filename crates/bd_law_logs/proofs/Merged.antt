-- Logs that fit, merged by stamp and thread: the rows of the merge, and what they bring to the induction.
use Rattle.std.proofs.Common.{◌≡◌, ℕ, ◌<◌, ◌≤◌, Bool, true, false, cond, ◌&&◌, ◌||◌, ◌==◌, nat_lt, ◌⊎◌, inl, inr, List, [], ◌∷◌, ◌++◌, refl, sym, ◌∙◌, ap, ap₂, subst, eq-eqb, ne_eqb, append-nil}
use Rattle.std.specs.List.{AllByRecursion}
use Rattle.std.proofs.lemmas.Bool.{cases_eq, cases_lt}
use Rattle.bd_base.specs.declared.act.Entry.{Entry}
use Rattle.bd_base.specs.declared.setup.Setup.{Setup}
use Rattle.bd_machine.specs.declared.state.Registry.{Registry}
use Rattle.bd_machine.specs.declared.state.State.{State}
use Rattle.bd_machine.specs.Content.{Told}
use Rattle.bd_machine.specs.Run.{IsRun}
use Rattle.bd_machine.specs.Start.{start, registry_at_start}
use Rattle.bd_machine.specs.View.{View}
use Rattle.bd_turns.specs.Laws.{view_at_start, shared_at_start}
use Rattle.bd_turns.specs.Local.{Shared}
use Rattle.bd_turns.specs.Tied.{IsTied}
use Rattle.bd_turns.proofs.Start.{start_is_tied}
use Rattle.bd_log.specs.Merge.{IsOrdered, entries_of}
use Rattle.bd_law_logs.specs.Rows.{Row, entries, Accepts}
use Rattle.bd_law_logs.specs.Journals.{is_event, events, IsReplay}
use Rattle.bd_law_logs.specs.Fits.{IsPrefixOf, IsStamped, GoesWithin, FindsAt, sent, taken, Fits}
use Rattle.bd_law_logs.specs.Laws.{LogsAreRun}
use Rattle.bd_law_logs.proofs.Parts.{In, all_in, mine, mine-head, mine-other, in_mine, all_parts, one_merge, filter_ordered, filter_filter}
use Rattle.bd_law_logs.proofs.Meeting.{Meets, thread_of, part}
use Rattle.bd_law_logs.proofs.Journal.{replay_all}
use Rattle.bd_law_logs.proofs.Played.{IsPlayable, IsNextLater, ArePlayed, are_played}

abbrev pub thread_in : Entry → ℕ
thread_in e = e.thread

abbrev pub stamp_in : Entry → ℕ
stamp_in e = e.stamp

-- ---- the rows of a merge

pub record AreRows (logs : ℕ → List Row) (merged : List Entry) : Type 0 where
  pub rows : List Row
  pub entries_are : entries rows ≡ merged
  pub parts : (t : ℕ) → part t rows ≡ logs t

none_there : (rs : List Row) → [] ≡ entries rs → [] ≡ rs
none_there [] e = refl
none_there (r ∷ rs) e = let bad : [] ≡ r.entry ∷ entries rs = e in cc

-- the first row of a log whose first entry is known
record Begins (log : List Row) (e : Entry) (es : List Entry) : Type 0 where
  first : Row
  later : List Row
  is : first ∷ later ≡ log
  entry_is : first.entry ≡ e
  entries_later : es ≡ entries later

begins : (log : List Row) (e : Entry) (es : List Entry) → e ∷ es ≡ entries log → Begins log e es
begins [] e es h = cc
begins (r ∷ rs) e es h = record { first = r; later = rs; is = refl; entry_is = head_same r.entry e (entries rs) es (sym h); entries_later = tail_same e r.entry es (entries rs) h }
  where
    head_same : (x y : Entry) (xs ys : List Entry) → x ∷ xs ≡ y ∷ ys → x ≡ y
    head_same x y xs ys e = cc

    tail_same : (x y : Entry) (xs ys : List Entry) → x ∷ xs ≡ y ∷ ys → xs ≡ ys
    tail_same x y xs ys e = cc

pub rows_of : (merged : List Entry) (logs : ℕ → List Row) → ((t : ℕ) → entries_of t merged ≡ entries (logs t)) → AreRows logs merged
rows_of [] logs h = record { rows = []; entries_are = refl; parts = λ t. none_there (logs t) (h t) }
rows_of (e ∷ es) logs h =
    let b = begins (logs e.thread) e (entries_of e.thread es) (sym (mine-head thread_in e es) ∙ h e.thread) in
    let rest = rows_of es (left b) (λ t. left_entries b t (cases_eq t e.thread)) in
    record {
      rows = b.first ∷ rest.rows;
      entries_are = ap₂ (λ (x : Entry) (xs : List Entry). x ∷ xs) b.entry_is rest.entries_are;
      parts = λ t. parts_are b t rest.rows (rest.parts t) (cases_eq t e.thread);
    }
  where
    left : Begins (logs e.thread) e (entries_of e.thread es) → ℕ → List Row
    left b t = cond (t == e.thread) b.later (logs t)

    left_entries : (b : Begins (logs e.thread) e (entries_of e.thread es)) (t : ℕ) → (t ≡ e.thread) ⊎ (t ≡ e.thread → ⊥) → entries_of t es ≡ entries (left b t)
    left_entries b t (inl is) =
        ap (λ (u : ℕ). entries_of u es) is ∙ b.entries_later ∙ sym (ap (λ c. entries (cond c b.later (logs t))) (eq-eqb t e.thread is))
    left_entries b t (inr ne) =
        sym (mine-other thread_in t e es (λ i. ne (sym i))) ∙ h t ∙ sym (ap (λ c. entries (cond c b.later (logs t))) (ne_eqb t e.thread ne))

    parts_are : (b : Begins (logs e.thread) e (entries_of e.thread es)) (t : ℕ) (rows : List Row) → part t rows ≡ left b t → (t ≡ e.thread) ⊎ (t ≡ e.thread → ⊥) → part t (b.first ∷ rows) ≡ logs t
    parts_are b t rows k (inl is) =
        let own : b.first.entry.thread ≡ t = ap (λ (x : Entry). x.thread) b.entry_is ∙ sym is in
        ap (λ c. cond c (b.first ∷ part t rows) (part t rows)) (eq-eqb b.first.entry.thread t own)
        ∙ ap (λ (rs : List Row). b.first ∷ rs) (k ∙ ap (λ c. cond c b.later (logs t)) (eq-eqb t e.thread is))
        ∙ b.is ∙ ap logs (sym is)
    parts_are b t rows k (inr ne) =
        mine-other thread_of t b.first rows (λ i. ne (sym i ∙ ap (λ (x : Entry). x.thread) b.entry_is))
        ∙ k ∙ ap (λ c. cond c b.later (logs t)) (ne_eqb t e.thread ne)

-- ---- what the rows of a merge bring

pub record AreFit (setup : Setup) (registry : Registry) (rows : List Row) : Type 0 where
  pub ordered : IsOrdered (entries rows)
  pub within : AllByRecursion (λ r. r.entry.thread < setup.threads) rows
  pub prefixes : (a u : ℕ) → IsPrefixOf (taken a (part u rows)) (sent u (part a rows))
  pub stamped : AllByRecursion IsStamped rows
  pub goes : AllByRecursion (λ r. GoesWithin setup.threads r.entry.act) rows
  pub replay : IsReplay setup registry (entries rows)
  pub finds : AllByRecursion (FindsAt setup registry (events (entries rows))) rows

entries_part : (t : ℕ) (rows : List Row) → mine thread_in t (entries rows) ≡ entries (part t rows)
entries_part t [] = refl
entries_part t (r ∷ rs) = go (r.entry.thread == t) (entries_part t rs)
  where
    go : (b : Bool) → mine thread_in t (entries rs) ≡ entries (part t rs) → cond b (r.entry ∷ mine thread_in t (entries rs)) (mine thread_in t (entries rs)) ≡ entries (cond b (r ∷ part t rs) (part t rs))
    go true e = ap (λ (es : List Entry). r.entry ∷ es) e
    go false e = e

-- the journal is the merged rows' events
pub journal_of : (setup : Setup) (registry : Registry) (logs : ℕ → List Row) (journal : List Entry) (rows : List Row) → Fits setup registry logs journal → IsOrdered (entries rows) → ((t : ℕ) → part t rows ≡ logs t) → journal ≡ events (entries rows)
journal_of setup registry logs journal rows fits ordered parts =
    one_merge thread_in stamp_in journal (events (entries rows)) fits.journal_ordered (filter_ordered thread_in stamp_in is_event (entries rows) ordered)
    (λ t. fits.journal_rows t ∙ sym (filter_filter (λ e. e.thread == t) is_event (entries rows) ∙ ap events (entries_part t rows ∙ ap entries (parts t))))

pub fit : (setup : Setup) (registry : Registry) (logs : ℕ → List Row) (journal : List Entry) (rows : List Row) → Fits setup registry logs journal → ((t : ℕ) → setup.threads ≤ t → logs t ≡ [])
    → IsOrdered (entries rows) → ((t : ℕ) → part t rows ≡ logs t) → AreFit setup registry rows
fit setup registry logs journal rows fits none ordered parts = record {
  ordered = ordered;
  within = all_in (λ r. r.entry.thread < setup.threads) rows (λ r i. below r i (cases_lt r.entry.thread setup.threads));
  prefixes = λ a u. subst (λ (rs : List Row). IsPrefixOf (taken a rs) (sent u (part a rows))) (sym (parts u)) (subst (λ (rs : List Row). IsPrefixOf (taken a (logs u)) (sent u rs)) (sym (parts a)) (fits.messages a u));
  stamped = of_each IsStamped fits.stamped;
  goes = of_each (λ r. GoesWithin setup.threads r.entry.act) fits.goes;
  replay = replay_all setup registry (entries rows) (subst (IsReplay setup registry) journal_is fits.replay);
  finds = subst (λ (es : List Entry). AllByRecursion (FindsAt setup registry es) rows) journal_is (of_each (FindsAt setup registry journal) fits.finds);
}
  where
    below : (r : Row) → In r rows → (r.entry.thread < setup.threads) ⊎ (setup.threads ≤ r.entry.thread) → r.entry.thread < setup.threads
    below r i (inl lt) = lt
    below r i (inr ge) = absurd (subst (In r) (parts r.entry.thread ∙ none r.entry.thread ge) (in_mine thread_of r rows i))

    of_each : (P : Row → Type 0) → ((t : ℕ) → AllByRecursion P (logs t)) → AllByRecursion P rows
    of_each P h = all_parts thread_of P rows (λ t. subst (AllByRecursion P) (sym (parts t)) (h t))

    journal_is : journal ≡ events (entries rows)
    journal_is = journal_of setup registry logs journal rows fits ordered parts

-- the rows fit a state and what is shared, so that they may be played next
pub record AreToPlay (setup : Setup) (s : State) (shared : Shared) (rows : List Row) : Type 0 where
  pub later : IsNextLater s rows
  pub ordered : IsOrdered (entries rows)
  pub within : AllByRecursion (λ r. r.entry.thread < setup.threads) rows
  pub meets : (a u : ℕ) → Meets a (shared.queues u) (taken a (part u rows)) (sent u (part a rows))
  pub stamped : AllByRecursion IsStamped rows
  pub goes : AllByRecursion (λ r. GoesWithin setup.threads r.entry.act) rows
  pub outer : (u : ℕ) → setup.threads ≤ u → shared.queues u ≡ []
  pub replay : IsReplay setup shared.registry (entries rows)
  pub finds : AllByRecursion (FindsAt setup shared.registry (events (entries rows))) rows

pub playable_by : (setup : Setup) (shut : Bool) (s : State) (views : ℕ → View) (shared : Shared) (all rows more : List Row) (marks : ℕ → View) → AreToPlay setup s shared all → all ≡ rows ++ more → IsTied setup s views shared → shared.shut ≡ shut
    → ((t : ℕ) → t < setup.threads → Accepts setup shut t (views t) (part t rows) (marks t)) → IsPlayable setup shut s views shared rows more marks
playable_by setup shut s views shared all rows more marks to_play is tied shut_is accepts =
    let h : AreToPlay setup s shared (rows ++ more) = subst (AreToPlay setup s shared) is to_play in
    record { tied = tied; shut_is = shut_is; later = h.later; ordered = h.ordered; within = h.within; accepts = accepts; meets = h.meets; stamped = h.stamped; goes = h.goes; outer = h.outer; replay = h.replay; finds = h.finds }

pub to_play_at_start : (setup : Setup) (told : Told) (rows : List Row) → AreFit setup (registry_at_start setup) rows → AreToPlay setup (start setup told) (shared_at_start setup) rows
to_play_at_start setup told rows f = record {
  later = later rows;
  ordered = f.ordered;
  within = f.within;
  meets = λ a u. record { waiting = []; waiting_is = refl; prefix = f.prefixes a u };
  stamped = f.stamped;
  goes = f.goes;
  outer = λ u le. refl;
  replay = f.replay;
  finds = f.finds;
}
  where
    later : (rs : List Row) → IsNextLater (start setup told) rs
    later [] = tt
    later (r ∷ rs) = λ p. ap (λ b. b || ((0 == r.entry.stamp) && nat_lt 0 r.entry.thread)) p

-- **Logs that fit are merged into a run**
pub logs_are_run : LogsAreRun
logs_are_run setup told logs journal merged ends accepted fits merge = subst (IsRun setup told) m.entries_are played.run
  where
    m : AreRows logs merged
    m = rows_of merged logs merge.parts

    rows : List Row
    rows = m.rows

    played : ArePlayed setup false (start setup told) (registry_at_start setup) (rows_of merged logs merge.parts).rows [] ends
    played = are_played setup false (start setup told) (view_at_start setup told) (shared_at_start setup) m.rows [] ends
        (playable_by setup false (start setup told) (view_at_start setup told) (shared_at_start setup) m.rows m.rows [] ends
        (to_play_at_start setup told m.rows (fit setup (registry_at_start setup) logs journal m.rows fits accepted.none_else (subst IsOrdered (sym m.entries_are) merge.ordered) m.parts))
        (sym (append-nil m.rows)) (start_is_tied setup told) refl
        (λ t lt. subst (λ (rs : List Row). Accepts setup false t (view_at_start setup told t) rs (ends t)) (sym (m.parts t)) (accepted.accepted t lt)))
