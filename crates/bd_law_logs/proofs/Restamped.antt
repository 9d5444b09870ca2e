-- Rows with the stamps that their messages' Puts have: they are accepted as the rows are, and they fit by message and stamp.
use Rattle.std.proofs.Common.{◌≡◌, ℕ, ◌<◌, ◌≤◌, Bool, true, false, cond, ◌==◌, nat_lt, ◌⊎◌, inl, inr, List, [], ◌∷◌, ◌++◌, drop, map, Option, Some, None, refl, sym, ◌∙◌, ap, subst, eq-eqb, eqb-true, ne_eqb, ltb-true, ltb-false}
use Rattle.std.specs.List.{AllByRecursion}
use Rattle.std.proofs.lemmas.Bool.{cases_eq}
use Rattle.std.proofs.lemmas.List.{map-append}
use Rattle.bd_base.specs.declared.act.Act.{Act}
use Rattle.bd_base.specs.declared.act.Act.TheVariants as acts
use Rattle.bd_base.specs.declared.act.Entry.{Entry}
use Rattle.bd_base.specs.declared.setup.Setup.{Setup}
use Rattle.bd_machine.specs.declared.guard.TheConstants.{UNBUILT, IN_ORDER}
use Rattle.bd_machine.specs.declared.state.Between.{Between}
use Rattle.bd_machine.specs.Alone.{view_by}
use Rattle.bd_machine.specs.Content.{Told}
use Rattle.bd_machine.specs.Guards.{guards, change, is_built}
use Rattle.bd_machine.specs.Lines.{shutdown_at}
use Rattle.bd_machine.specs.Start.{registry_at_start}
use Rattle.bd_machine.specs.Step.{first_failing}
use Rattle.bd_machine.specs.View.{View, asked}
use Rattle.bd_turns.specs.declared.queue.Message.{Message}
use Rattle.bd_turns.specs.declared.queue.Post.{Post}
use Rattle.bd_turns.specs.Laws.{view_at_start}
use Rattle.bd_law_logs.specs.Rows.{Row, entries, posts, message_of, came_with, view_after, CarriesBy, Accepts}
use Rattle.bd_law_logs.specs.Journals.{IsBetweenIfAny, events, before, registry_by}
use Rattle.bd_law_logs.specs.Fits.{Fits, GoesWithin, IsMergeOf, IsStamped, IsStampedBy, sent, taken, sent_in, taken_in}
use Rattle.bd_law_logs.specs.Laws.{AreShut, shutdown_of}
use Rattle.bd_law_logs.specs.Turning.{CarriesOne, HasItsMessage, put_to, took_from}
use Rattle.bd_law_logs.specs.Loose.{AreLower, FitLoosely, LooseLogsAreCompleteRun, LooseLogsEndAsSeen, put_stamp, put_stamps, took_stamp, took_stamps}
use Rattle.bd_law_logs.proofs.Complete.{logs_are_complete_run, logs_end_as_seen}

-- ---- restamped rows

abbrev first_or : List ℕ → ℕ
first_or [] = 0
first_or (x ∷ xs) = x

abbrev with_stamp : ℕ → Option Post → Option Post
with_stamp stamp None = None
with_stamp stamp (Some p) = Some (record { message = p.message; stamp = stamp })

-- the stamp of an act's message: of a Put the entry's, of a Took the first of those that its sender still has for it
abbrev stamp_for : (ℕ → List ℕ) → ℕ → Act → ℕ
stamp_for stamps n (acts.Took source number what) = first_or (stamps source)
stamp_for stamps n _ = n

abbrev pub stamps_left : (ℕ → List ℕ) → Act → ℕ → List ℕ
stamps_left stamps (acts.Took source number what) = λ s. cond (source == s) (drop 1 (stamps s)) (stamps s)
stamps_left stamps _ = stamps

abbrev pub row_stamped : (ℕ → List ℕ) → Row → Row
row_stamped stamps r = record { entry = r.entry; post = with_stamp (stamp_for stamps r.entry.stamp r.entry.act) r.post; between = r.between }

abbrev pub restamped : (ℕ → List ℕ) → List Row → List Row
restamped stamps [] = []
restamped stamps (r ∷ rs) = row_stamped stamps r ∷ restamped (stamps_left stamps r.entry.act) rs

abbrev pub all_left : (ℕ → List ℕ) → List Row → ℕ → List ℕ
all_left stamps [] = stamps
all_left stamps (r ∷ rs) = all_left (stamps_left stamps r.entry.act) rs

pub restamped_on : (stamps : ℕ → List ℕ) (as' bs : List Row) → restamped stamps (as' ++ bs) ≡ restamped stamps as' ++ restamped (all_left stamps as') bs
restamped_on stamps [] bs = refl
restamped_on stamps (a ∷ as') bs = ap (λ (rs : List Row). row_stamped stamps a ∷ rs) (restamped_on (stamps_left stamps a.entry.act) as' bs)

entries_same : (stamps : ℕ → List ℕ) (rows : List Row) → entries (restamped stamps rows) ≡ entries rows
entries_same stamps [] = refl
entries_same stamps (r ∷ rs) = ap (λ (es : List Entry). r.entry ∷ es) (entries_same (stamps_left stamps r.entry.act) rs)

messages_same : (stamp : ℕ) (o : Option Post) → map message_of (posts (with_stamp stamp o)) ≡ map message_of (posts o)
messages_same stamp None = refl
messages_same stamp (Some p) = refl

-- what is said of entries and of what they find
pub all_same : (P : Entry → Option Between → Type 0) (stamps : ℕ → List ℕ) (rows : List Row) → AllByRecursion (λ r. P r.entry r.between) rows → AllByRecursion (λ r. P r.entry r.between) (restamped stamps rows)
all_same P stamps [] h = tt
all_same P stamps (r ∷ rs) h = (h.0, all_same P (stamps_left stamps r.entry.act) rs h.1)

-- ---- they are accepted

-- a row is refused, changes and carries by its messages alone
abbrev refusal_with : Setup → Bool → ℕ → View → Row → List Message → Option ℕ
refusal_with setup shut t v r ms = first_failing ((UNBUILT, is_built r.entry.act) ∷ (IN_ORDER, nat_lt 0 r.entry.stamp) ∷ guards setup t v r.entry.act (came_with shut t r.entry.act ms r.between))

abbrev Carried : Setup → Bool → ℕ → View → Row → List Message → Type 0
Carried setup shut t v r ms = CarriesBy r.entry.act t (change setup t v r.entry.act (came_with shut t r.entry.act ms r.between)) ms

pub view_same : (setup : Setup) (shut : Bool) (t : ℕ) (v : View) (stamps : ℕ → List ℕ) (r : Row) → view_after setup shut t v (row_stamped stamps r) ≡ view_after setup shut t v r
unfolding view_after
view_same setup shut t v stamps r =
    ap (λ (ms : List Message). view_by setup t v (change setup t v r.entry.act (came_with shut t r.entry.act ms r.between)) (asked r.entry.act)) (messages_same (stamp_for stamps r.entry.stamp r.entry.act) r.post)

pub accepts_same : (setup : Setup) (shut : Bool) (t : ℕ) (v w : View) (stamps : ℕ → List ℕ) (rows : List Row) → Accepts setup shut t v rows w → Accepts setup shut t v (restamped stamps rows) w
accepts_same setup shut t v w stamps [] h = h
accepts_same setup shut t v w stamps (r ∷ rs) h =
    let same = sym (messages_same (stamp_for stamps r.entry.stamp r.entry.act) r.post) in (
      h.0,
      h.1,
      subst (λ (ms : List Message). refusal_with setup shut t v r ms ≡ None) same h.2,
      subst (λ (ms : List Message). Carried setup shut t v r ms) same h.3,
      subst (λ (x : View). Accepts setup shut t x (restamped (stamps_left stamps r.entry.act) rs) w) (sym (view_same setup shut t v stamps r))
          (accepts_same setup shut t (view_after setup shut t v r) w (stamps_left stamps r.entry.act) rs h.4),
    )

-- ---- they fit

-- messages with these stamps
abbrev with_stamps : List Message → List ℕ → List Post
with_stamps [] stamps = []
with_stamps (m ∷ ms) stamps = record { message = m; stamp = first_or stamps } ∷ with_stamps ms (drop 1 stamps)

with_stamps_on : (as' bs : List Message) (stamps : List ℕ) → (rest : List ℕ) × (with_stamps (as' ++ bs) stamps ≡ with_stamps as' stamps ++ with_stamps bs rest)
with_stamps_on [] bs stamps = (stamps, refl)
with_stamps_on (a ∷ as') bs stamps =
    let h = with_stamps_on as' bs (drop 1 stamps) in
    (h.0, ap (λ (ps : List Post). record { message = a; stamp = first_or stamps } ∷ ps) h.1)

-- what a Put's row adds to what was sent
sent_step : (u : ℕ) (act : Act) (n : ℕ) (stamps : ℕ → List ℕ) (o : Option Post) (more : List Message) (rest : List ℕ) → CarriesOne act (posts o)
    → sent_in u act (posts (with_stamp (stamp_for stamps n act) o)) ++ with_stamps more rest ≡ with_stamps (map message_of (sent_in u act (posts o)) ++ more) (put_stamp u act n ++ rest)
sent_step u (acts.Put receiver number what) n stamps None more rest h = absurd h
sent_step u (acts.Put receiver number what) n stamps (Some p) more rest h = go (receiver == u)
  where
    go : (b : Bool) → cond b (record { message = p.message; stamp = n } ∷ []) [] ++ with_stamps more rest ≡ with_stamps (map message_of (cond b (p ∷ []) []) ++ more) (cond b (n ∷ []) [] ++ rest)
    go true = refl
    go false = refl
sent_step u _ n stamps o more rest h = refl

sent_is : (u : ℕ) (stamps : ℕ → List ℕ) (rows : List Row) → AllByRecursion HasItsMessage rows → sent u (restamped stamps rows) ≡ with_stamps (put_to u rows) (put_stamps u rows)
sent_is u stamps [] h = refl
sent_is u stamps (r ∷ rs) h =
    ap (λ (ps : List Post). sent_in u r.entry.act (posts (with_stamp (stamp_for stamps r.entry.stamp r.entry.act) r.post)) ++ ps) (sent_is u (stamps_left stamps r.entry.act) rs h.1)
    ∙ sent_step u r.entry.act r.entry.stamp stamps r.post (put_to u rs) (put_stamps u rs) h.0
    ∙ ap (λ (ms : List Message). with_stamps ms (put_stamps u (r ∷ rs))) (sym (map-append message_of (sent_in u r.entry.act (posts r.post)) (sent u rs)))

-- what a Took's row adds to what was taken
taken_step : (s : ℕ) (act : Act) (n : ℕ) (stamps : ℕ → List ℕ) (o : Option Post) (more : List Message) → CarriesOne act (posts o)
    → taken_in s act (posts (with_stamp (stamp_for stamps n act) o)) ++ with_stamps more (stamps_left stamps act s) ≡ with_stamps (map message_of (taken_in s act (posts o)) ++ more) (stamps s)
taken_step s (acts.Took source number what) n stamps None more h = absurd h
taken_step s (acts.Took source number what) n stamps (Some p) more h = go (cases_eq source s)
  where
    goes : (b : Bool) (x : ℕ) (st : List ℕ) → (b ≡ true → x ≡ first_or st)
        → cond b (record { message = p.message; stamp = x } ∷ []) [] ++ with_stamps more (cond b (drop 1 st) st) ≡ with_stamps (map message_of (cond b (p ∷ []) []) ++ more) st
    goes true x st e = ap (λ (k : ℕ). record { message = p.message; stamp = k } ∷ with_stamps more (drop 1 st)) (e refl)
    goes false x st e = refl

    go : (source ≡ s) ⊎ (source ≡ s → ⊥)
        → cond (source == s) (record { message = p.message; stamp = first_or (stamps source) } ∷ []) [] ++ with_stamps more (cond (source == s) (drop 1 (stamps s)) (stamps s))
        ≡ with_stamps (map message_of (cond (source == s) (p ∷ []) []) ++ more) (stamps s)
    go (inl e) = goes (source == s) (first_or (stamps source)) (stamps s) (λ b. ap (λ (k : ℕ). first_or (stamps k)) e)
    go (inr ne) = goes (source == s) (first_or (stamps source)) (stamps s) (λ b. (let bad : source ≡ s = eqb-true source s b in absurd (ne bad)))
taken_step s _ n stamps o more h = refl

taken_is : (s : ℕ) (stamps : ℕ → List ℕ) (rows : List Row) → AllByRecursion HasItsMessage rows → taken s (restamped stamps rows) ≡ with_stamps (took_from s rows) (stamps s)
taken_is s stamps [] h = refl
taken_is s stamps (r ∷ rs) h =
    ap (λ (ps : List Post). taken_in s r.entry.act (posts (with_stamp (stamp_for stamps r.entry.stamp r.entry.act) r.post)) ++ ps) (taken_is s (stamps_left stamps r.entry.act) rs h.1)
    ∙ taken_step s r.entry.act r.entry.stamp stamps r.post (took_from s rs) h.0
    ∙ ap (λ (ms : List Message). with_stamps ms (stamps s)) (sym (map-append message_of (taken_in s r.entry.act (posts r.post)) (taken s rs)))

-- ---- their stamps

lower_left : (xs : List ℕ) (y : ℕ) (ys : List ℕ) → AreLower xs (y ∷ ys) → (first_or xs < y) × AreLower (drop 1 xs) ys
lower_left [] y ys h = absurd h
lower_left (x ∷ xs) y ys h = h

stamped_step : (act : Act) (n : ℕ) (stamps : ℕ → List ℕ) (o : Option Post) (rows : List Row) → CarriesOne act (posts o) → ((s : ℕ) → AreLower (stamps s) (took_stamp s act n ++ took_stamps s rows))
    → IsStampedBy n act (posts (with_stamp (stamp_for stamps n act) o)) × ((s : ℕ) → AreLower (stamps_left stamps act s) (took_stamps s rows))
stamped_step (acts.Put to number what) n stamps None rows h lower = absurd h
stamped_step (acts.Put to number what) n stamps (Some p) rows h lower = ((refl, tt), lower)
stamped_step (acts.Took source number what) n stamps None rows h lower = absurd h
stamped_step (acts.Took source number what) n stamps (Some p) rows h lower = ((own.0, tt), λ s. left s (cases_eq source s))
  where
    at : (s : ℕ) → (source ≡ s) → AreLower (stamps s) (n ∷ took_stamps s rows)
    at s e = subst (λ b. AreLower (stamps s) (cond b (n ∷ []) [] ++ took_stamps s rows)) (eq-eqb source s e) (lower s)

    own : (first_or (stamps source) < n) × AreLower (drop 1 (stamps source)) (took_stamps source rows)
    own = lower_left (stamps source) n (took_stamps source rows) (at source refl)

    left : (s : ℕ) → (source ≡ s) ⊎ (source ≡ s → ⊥) → AreLower (cond (source == s) (drop 1 (stamps s)) (stamps s)) (took_stamps s rows)
    left s (inl e) = subst (λ b. AreLower (cond b (drop 1 (stamps s)) (stamps s)) (took_stamps s rows)) (sym (eq-eqb source s e)) (lower_left (stamps s) n (took_stamps s rows) (at s e)).1
    left s (inr ne) =
        subst (λ b. AreLower (cond b (drop 1 (stamps s)) (stamps s)) (took_stamps s rows)) (sym (ne_eqb source s ne))
        (subst (λ b. AreLower (stamps s) (cond b (n ∷ []) [] ++ took_stamps s rows)) (ne_eqb source s ne) (lower s))
stamped_step _ n stamps o rows h lower = (tt, lower)

stamped_all : (stamps : ℕ → List ℕ) (rows : List Row) → AllByRecursion HasItsMessage rows → ((s : ℕ) → AreLower (stamps s) (took_stamps s rows)) → AllByRecursion IsStamped (restamped stamps rows)
stamped_all stamps [] h lower = tt
stamped_all stamps (r ∷ rs) h lower =
    let x = stamped_step r.entry.act r.entry.stamp stamps r.post rs h.0 lower in
    (x.0, stamped_all (stamps_left stamps r.entry.act) rs h.1 x.1)

-- ---- where they go

goes_step : (threads : ℕ) (act : Act) (o : Option Post) (more : List Message) → CarriesOne act (posts o) → ((u : ℕ) → threads ≤ u → map message_of (sent_in u act (posts o)) ++ more ≡ []) → GoesWithin threads act
goes_step threads (acts.Put to number what) None more h none = absurd h
goes_step threads (acts.Put to number what) (Some p) more h none = go (nat_lt to threads) refl
  where
    go : (b : Bool) → nat_lt to threads ≡ b → to < threads
    go true e = ltb-true to threads e
    go false e =
        let le : threads ≤ to = ltb-false to threads e in
        let bad : p.message ∷ more ≡ [] = subst (λ b. map message_of (cond b (p ∷ []) []) ++ more ≡ []) (eq-eqb to to refl) (none to le) in cc
goes_step threads _ o more h none = tt

nil_after : {X : Type 0} (xs ys : List X) → xs ++ ys ≡ [] → ys ≡ []
nil_after [] ys h = h
nil_after (x ∷ xs) ys h = cc

goes_all : (threads : ℕ) (rows : List Row) → AllByRecursion HasItsMessage rows → ((u : ℕ) → threads ≤ u → put_to u rows ≡ []) → AllByRecursion (λ r. GoesWithin threads r.entry.act) rows
goes_all threads [] h none = tt
goes_all threads (r ∷ rs) h none =
    (goes_step threads r.entry.act r.post [] h.0 (λ u le. first u (split u le)), goes_all threads rs h.1 (λ u le. nil_after (map message_of (sent_in u r.entry.act (posts r.post))) (put_to u rs) (split u le)))
  where
    split : (u : ℕ) → threads ≤ u → map message_of (sent_in u r.entry.act (posts r.post)) ++ put_to u rs ≡ []
    split u le = sym (map-append message_of (sent_in u r.entry.act (posts r.post)) (sent u rs)) ∙ none u le

    first : (u : ℕ) → map message_of (sent_in u r.entry.act (posts r.post)) ++ put_to u rs ≡ [] → map message_of (sent_in u r.entry.act (posts r.post)) ++ [] ≡ []
    first u e = ap (λ (ms : List Message). map message_of (sent_in u r.entry.act (posts r.post)) ++ ms) (sym (nil_after (map message_of (sent_in u r.entry.act (posts r.post))) (put_to u rs) e)) ∙ e

-- ---- the law

pub shut_on : (stamp : ℕ) (stamps : ℕ → List ℕ) (t : ℕ) (rows : List Row) → restamped stamps (shutdown_of stamp t ++ rows) ≡ shutdown_of stamp t ++ restamped stamps rows
shut_on stamp stamps t rows = go (t == 0)
  where
    go : (b : Bool) → restamped stamps (cond b (record { entry = shutdown_at stamp; post = None; between = None } ∷ []) [] ++ rows) ≡ cond b (record { entry = shutdown_at stamp; post = None; between = None } ∷ []) [] ++ restamped stamps rows
    go true = refl
    go false = refl

module _ (setup : Setup) (told : Told) (logs : ℕ → List Row) (journal merged : List Entry) (sh : AreShut setup told logs journal) (fit : FitLoosely setup (registry_at_start setup) logs journal) (merge : IsMergeOf logs merged) where
  pub fits : Fits setup (registry_at_start setup) (λ t. restamped (λ s. put_stamps t (logs s)) (logs t)) journal
  fits = record {
    messages = λ s t. (
        let p = fit.messages s t in
        let w = with_stamps_on (took_from s (logs t)) p.0 (put_stamps t (logs s)) in (
          with_stamps p.0 w.0,
          ap (λ (ps : List Post). ps ++ with_stamps p.0 w.0) (taken_is s (λ a. put_stamps t (logs a)) (logs t) (fit.carry t))
              ∙ sym w.1
              ∙ ap (λ (ms : List Message). with_stamps ms (put_stamps t (logs s))) p.1
              ∙ sym (sent_is t (λ a. put_stamps s (logs a)) (logs s) (fit.carry s)),
        ));
    stamped = λ t. stamped_all (λ s. put_stamps t (logs s)) (logs t) (fit.carry t) (λ s. fit.later s t);
    goes = λ t. all_same (λ e b. GoesWithin setup.threads e.act) (λ s. put_stamps t (logs s)) (logs t) (goes_all setup.threads (logs t) (fit.carry t) (fit.within t));
    journal_ordered = fit.journal_ordered;
    journal_rows = λ t. fit.journal_rows t ∙ ap events (sym (entries_same (λ s. put_stamps t (logs s)) (logs t)));
    replay = fit.replay;
    finds = λ t. all_same (λ e b. IsBetweenIfAny (registry_by setup (registry_at_start setup) (before e journal)) b (asked e.act)) (λ s. put_stamps t (logs s)) (logs t) (fit.finds t);
  }

  unfoldable pub shut : AreShut setup told (λ t. restamped (λ s. put_stamps t (logs s)) (logs t)) journal
  shut = record {
    stamp = sh.stamp;
    firsts = λ t. restamped (λ s. put_stamps t (logs s)) (sh.firsts t);
    seconds = λ t. restamped (all_left (λ s. put_stamps t (logs s)) (sh.firsts t)) (sh.seconds t);
    marks = sh.marks;
    ends = sh.ends;
    some = sh.some;
    positive = sh.positive;
    logs_are = λ t. (
        ap (λ (rows : List Row). restamped (λ s. put_stamps t (logs s)) rows) (sh.logs_are t)
        ∙ restamped_on (λ s. put_stamps t (logs s)) (sh.firsts t) (shutdown_of sh.stamp t ++ sh.seconds t)
        ∙ ap (λ (rows : List Row). restamped (λ s. put_stamps t (logs s)) (sh.firsts t) ++ rows) (shut_on sh.stamp (all_left (λ s. put_stamps t (logs s)) (sh.firsts t)) t (sh.seconds t)));
    none_else = λ t le. ap (λ (rows : List Row). restamped (λ s. put_stamps t (logs s)) rows) (sh.none_else t le);
    early = λ t. all_same (λ e b. e.stamp < sh.stamp) (λ s. put_stamps t (logs s)) (sh.firsts t) (sh.early t);
    late = λ t. all_same (λ e b. sh.stamp < e.stamp) (all_left (λ s. put_stamps t (logs s)) (sh.firsts t)) (sh.seconds t) (sh.late t);
    to_marks = λ t lt. accepts_same setup false t (view_at_start setup told t) (sh.marks t) (λ s. put_stamps t (logs s)) (sh.firsts t) (sh.to_marks t lt);
    to_ends = λ t lt. accepts_same setup true t (sh.marks t) (sh.ends t) (all_left (λ s. put_stamps t (logs s)) (sh.firsts t)) (sh.seconds t) (sh.to_ends t lt);
    quiet_at_marks = sh.quiet_at_marks;
    blocked = sh.blocked;
    spent_at_ends = sh.spent_at_ends;
    destructed = sh.destructed;
  }

  pub merge_same : IsMergeOf (λ t. restamped (λ s. put_stamps t (logs s)) (logs t)) merged
  merge_same = record { ordered = merge.ordered; parts = λ t. merge.parts t ∙ sym (entries_same (λ s. put_stamps t (logs s)) (logs t)) }

pub loose_logs_are_complete_run : LooseLogsAreCompleteRun
loose_logs_are_complete_run setup told logs journal merged sh fit merge =
    logs_are_complete_run setup told (λ t. restamped (λ s. put_stamps t (logs s)) (logs t)) journal merged (shut setup told logs journal merged sh fit merge) (fits setup told logs journal merged sh fit merge)
    (merge_same setup told logs journal merged sh fit merge)

pub loose_logs_end_as_seen : LooseLogsEndAsSeen
unfolding shut
loose_logs_end_as_seen setup told logs journal merged sh fit merge =
    logs_end_as_seen setup told (λ t. restamped (λ s. put_stamps t (logs s)) (logs t)) journal merged (shut setup told logs journal merged sh fit merge) (fits setup told logs journal merged sh fit merge)
    (merge_same setup told logs journal merged sh fit merge)
