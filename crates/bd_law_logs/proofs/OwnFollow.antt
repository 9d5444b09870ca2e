-- Each log finds what it names, where it names what its own entries left to follow and asks for that next, with the stamp one above: no other entry of the journal comes between the two.
use Rattle.std.proofs.Common.{◌≡◌, ℕ, ◌+◌, ◌<◌, Bool, true, false, cond, ◌||◌, ◌==◌, ◌⊎◌, inl, inr, List, [], ◌∷◌, filter, map, Option, Some, None, is_some, refl, sym, ◌∙◌, ap, subst, arith}
use Rattle.std.specs.List.{AllByRecursion}
use Rattle.std.proofs.lemmas.Bool.{cases_eq}
use Rattle.bd_base.specs.declared.act.Entry.{Entry}
use Rattle.bd_base.specs.declared.setup.Setup.{Setup}
use Rattle.bd_machine.specs.declared.state.Between.{Between}
use Rattle.bd_machine.specs.declared.state.Registry.{Registry}
use Rattle.bd_machine.specs.Changes.{registry_after}
use Rattle.bd_machine.specs.Registry.{Question}
use Rattle.bd_machine.specs.Step.{is_shutdown}
use Rattle.bd_machine.specs.View.{asked}
use Rattle.bd_log.specs.Merge.{IsBefore, IsOrdered, Rises}
use Rattle.bd_law_logs.specs.Rows.{Row, entries}
use Rattle.bd_law_logs.specs.Journals.{is_event, events, registry_next, Event, entry_in, events_by, IsBetweenIfAny, IsFollowed}
use Rattle.bd_law_logs.specs.Fits.{FindsAt, event_of, between_by, between_next, IsNamedIfAny, IsAskedNext, IsOwnFollowed}
use Rattle.bd_law_logs.specs.Laws.{OwnIsFound}
use Rattle.bd_law_logs.proofs.Parts.{In, in_all, mine_in, mine-head, mine-other}
use Rattle.bd_law_logs.proofs.Meeting.{thread_of, part}
use Rattle.bd_law_logs.proofs.Journal.{none_asked}
use Rattle.bd_law_logs.proofs.Merged.{AreRows, rows_of}
use Rattle.bd_law_logs.proofs.Follow.{followed_is_found}

abbrev is_event_row : Row → Bool
is_event_row r = is_event r.entry

abbrev event_rows : List Row → List Row
event_rows rows = filter is_event_row rows

-- ---- the events of a log alone

asked_is_event : (o : Option Question) (b : Bool) → is_some o ≡ true → (is_some o || b) ≡ true
asked_is_event None b h = cc
asked_is_event (Some q) b h = refl

asked_next_events : (between : Option Between) (stamp : ℕ) (rows : List Row) → IsAskedNext between stamp rows → IsAskedNext between stamp (event_rows rows)
asked_next_events None stamp rows h = tt
asked_next_events (Some between) stamp [] h = h
asked_next_events (Some between) stamp (r ∷ rs) h =
    subst (λ (b : Bool). IsAskedNext (Some between) stamp (cond b (r ∷ event_rows rs) (event_rows rs))) (sym (asked_is_event (asked r.entry.act) (is_shutdown r.entry.act) h.1)) h

followed_events : (between : Option Between) (rows : List Row) → IsOwnFollowed between rows → IsOwnFollowed between (event_rows rows)
followed_events between [] h = tt
followed_events between (r ∷ rs) h = go (is_event r.entry) refl (followed_events (between_next between r) rs h.2)
  where
    go : (b : Bool) → is_event r.entry ≡ b → IsOwnFollowed (between_next between r) (event_rows rs) → IsOwnFollowed between (cond b (r ∷ event_rows rs) (event_rows rs))
    go true is rest = (h.0, asked_next_events (between_next between r) r.entry.stamp rs h.1, rest)
    go false is rest =
        subst (λ (o : Option Question). IsOwnFollowed (between_by r.entry.thread between o) (event_rows rs)) (none_asked (asked r.entry.act) (is_shutdown r.entry.act) is) rest

entries_of_events : (rows : List Row) → events (entries rows) ≡ entries (event_rows rows)
entries_of_events [] = refl
entries_of_events (r ∷ rs) = go (is_event r.entry) (entries_of_events rs)
  where
    go : (b : Bool) → events (entries rs) ≡ entries (event_rows rs) → cond b (r.entry ∷ events (entries rs)) (events (entries rs)) ≡ entries (cond b (r ∷ event_rows rs) (event_rows rs))
    go true e = ap (λ (es : List Entry). r.entry ∷ es) e
    go false e = e

-- ---- the journal's rows

abbrev AreAbove : ℕ → List Row → Type 0
AreAbove stamp rows = AllByRecursion (λ r. stamp < r.entry.stamp) rows

-- what has to follow is what thread u left, and u asks for it next; the others left nothing
record IsLeft (between : Option Between) (u stamp : ℕ) (rows : List Row) : Type 0 where
  by : IsOwnFollowed between (part u rows)
  next : IsAskedNext between stamp (part u rows)
  others : (t : ℕ) → (t ≡ u → ⊥) → IsOwnFollowed None (part t rows)
  above : AreAbove stamp rows

above_first : (x : Entry) (rows : List Row) → AllByRecursion (λ y. x.stamp < y.stamp) (entries rows) → AreAbove x.stamp rows
above_first x [] h = tt
above_first x (r ∷ rs) h = (h.0, above_first x rs h.1)

-- another thread's row doesn't come first where something has to follow
none_between : (between : Option Between) (u stamp : ℕ) (x : Row) (rows : List Row) → stamp < x.entry.stamp → AreAbove x.entry.stamp rows → IsAskedNext between stamp (part u rows) → between ≡ None
none_between None u stamp x rows low above next = refl
none_between (Some between) u stamp x rows low above next = absurd (go (part u rows) (λ r i. (mine_in thread_of u r rows i).0) next)
  where
    go : (own : List Row) → ((r : Row) → In r own → In r rows) → IsAskedNext (Some between) stamp own → ⊥
    go [] all n = n
    go (r ∷ rs) all n =
        let high : x.entry.stamp < r.entry.stamp = in_all (λ y. x.entry.stamp < y.entry.stamp) rows above r (all r (inl refl)) in
        let one : r.entry.stamp ≡ stamp + 1 = n.0 in
        omega arith

named_is : (registry : Registry) (between named : Option Between) (o : Option Question) → registry.between ≡ between → IsNamedIfAny between named o → IsBetweenIfAny registry named o
named_is registry between named None is h = tt
named_is registry between named (Some q) is h = is ∙ sym h

next_is : (setup : Setup) (registry : Registry) (x : Row) (between : Option Between) (o : Option Question) → registry.between ≡ between → asked x.entry.act ≡ o → (registry_next setup registry x.entry).between ≡ between_next between x
next_is setup registry x between None is e =
    ap (λ (o : Option Question). (registry_after setup registry x.entry.thread o).between) e ∙ is ∙ sym (ap (between_by x.entry.thread between) e)
next_is setup registry x between (Some q) is e =
    ap (λ (o : Option Question). (registry_after setup registry x.entry.thread o).between) e ∙ sym (ap (between_by x.entry.thread between) e)

-- the rows after x are followed, whichever thread left what has to follow
abbrev FollowsOn : Setup → Registry → Option Between → Row → List Row → Type 0
FollowsOn setup registry between x rows = (v : ℕ) → IsLeft (between_next between x) v x.entry.stamp rows → IsFollowed setup (registry_next setup registry x.entry) (map event_of rows)

are_followed : (setup : Setup) (registry : Registry) (between : Option Between) (u stamp : ℕ) (rows : List Row) → registry.between ≡ between → Rises (entries rows) → IsLeft between u stamp rows → IsFollowed setup registry (map event_of rows)
are_followed setup registry between u stamp [] is rises left = tt
are_followed setup registry between u stamp (x ∷ rows) is rises left =
    go (cases_eq x.entry.thread u)
    (λ v later. are_followed setup (registry_next setup registry x.entry) (between_next between x) v x.entry.stamp rows (next_is setup registry x between (asked x.entry.act) is refl) rises.1 later)
  where
    above : AreAbove x.entry.stamp rows
    above = above_first x.entry rows rises.0

    -- x is of thread v, which left what has to follow
    step : (v : ℕ) → x.entry.thread ≡ v → IsOwnFollowed between (x ∷ part v rows) → ((t : ℕ) → (t ≡ v → ⊥) → IsOwnFollowed None (part t rows)) → FollowsOn setup registry between x rows → IsFollowed setup registry (map event_of (x ∷ rows))
    step v same by others rest = (named_is registry between x.between (asked x.entry.act) is by.0, rest v (record { by = by.2; next = by.1; others = others; above = above }))

    head : (v : ℕ) → x.entry.thread ≡ v → (b : Option Between) → IsOwnFollowed b (part v (x ∷ rows)) → IsOwnFollowed b (x ∷ part v rows)
    head v same b h = subst (λ (rs : List Row). IsOwnFollowed b rs) (subst (λ (w : ℕ). part w (x ∷ rows) ≡ x ∷ part w rows) same (mine-head thread_of x rows)) h

    other : (t : ℕ) → (x.entry.thread ≡ t → ⊥) → (b : Option Between) → IsOwnFollowed b (part t (x ∷ rows)) → IsOwnFollowed b (part t rows)
    other t ne b h = subst (λ (rs : List Row). IsOwnFollowed b rs) (mine-other thread_of t x rows ne) h

    go : (x.entry.thread ≡ u) ⊎ (x.entry.thread ≡ u → ⊥) → FollowsOn setup registry between x rows → IsFollowed setup registry (map event_of (x ∷ rows))
    go (inl same) after = step u same (head u same between left.by) (λ t ne. other t (λ e. ne (sym e ∙ same)) None (left.others t ne)) after
    go (inr ne) after =
        let none : between ≡ None = none_between between u stamp x rows left.above.0 above (subst (λ (rs : List Row). IsAskedNext between stamp rs) (mine-other thread_of u x rows ne) left.next) in
        step x.entry.thread refl (subst (λ (b : Option Between). IsOwnFollowed b (x ∷ part x.entry.thread rows)) (sym none) (head x.entry.thread refl None (left.others x.entry.thread ne)))
        (λ t apart. rest t (cases_eq t u) none (λ e. apart (sym e))) after
      where
        rest : (t : ℕ) → (t ≡ u) ⊎ (t ≡ u → ⊥) → between ≡ None → (x.entry.thread ≡ t → ⊥) → IsOwnFollowed None (part t rows)
        rest t (inl is_u) none apart =
            subst (λ (w : ℕ). IsOwnFollowed None (part w rows)) (sym is_u) (subst (λ (b : Option Between). IsOwnFollowed b (part u rows)) none (other u ne between left.by))
        rest t (inr not_u) none apart = other t apart None (left.others t not_u)

-- ---- the law

pub ordered_rising : (es : List Entry) → Rises es → IsOrdered es
ordered_rising [] h = tt
ordered_rising (x ∷ xs) h = (all xs h.0, ordered_rising xs h.1)
  where
    all : (ys : List Entry) → AllByRecursion (λ y. x.stamp < y.stamp) ys → AllByRecursion (IsBefore x) ys
    all [] h = tt
    all (y ∷ ys) h = (inl h.0, all ys h.1)

entries_kept : (rows : List Row) → map entry_in (map event_of rows) ≡ entries rows
entries_kept [] = refl
entries_kept (r ∷ rs) = ap (λ (es : List Entry). r.entry ∷ es) (entries_kept rs)

events_kept : (t : ℕ) (rows : List Row) → events_by t (map event_of rows) ≡ map event_of (part t rows)
events_kept t [] = refl
events_kept t (r ∷ rs) = go (r.entry.thread == t) (events_kept t rs)
  where
    go : (b : Bool) → events_by t (map event_of rs) ≡ map event_of (part t rs) → cond b (event_of r ∷ events_by t (map event_of rs)) (events_by t (map event_of rs)) ≡ map event_of (cond b (r ∷ part t rs) (part t rs))
    go true e = ap (λ (js : List Event). event_of r ∷ js) e
    go false e = e

-- **What its own entries left**: each log finds what it names
pub own_is_found : OwnIsFound
own_is_found setup registry logs journal none rises rows_are followed = result
  where
    m : AreRows (λ t. event_rows (logs t)) journal
    m = rows_of journal (λ t. event_rows (logs t)) (λ t. rows_are t ∙ entries_of_events (logs t))

    each : (t : ℕ) → IsOwnFollowed None (part t m.rows)
    each t = subst (λ (rs : List Row). IsOwnFollowed None rs) (sym (m.parts t)) (followed_events None (logs t) (followed t))

    rising : Rises (entries m.rows)
    rising = subst Rises (sym m.entries_are) rises

    are : IsFollowed setup registry (map event_of m.rows)
    are = first m.rows each rising
      where
        first : (rows : List Row) → ((t : ℕ) → IsOwnFollowed None (part t rows)) → Rises (entries rows) → IsFollowed setup registry (map event_of rows)
        first [] e r = tt
        first (x ∷ rows) e r =
            let by : IsOwnFollowed None (x ∷ part x.entry.thread rows) = subst (λ (rs : List Row). IsOwnFollowed None rs) (mine-head thread_of x rows) (e x.entry.thread) in (
              named_is registry None x.between (asked x.entry.act) none by.0,
              are_followed setup (registry_next setup registry x.entry) (between_next None x) x.entry.thread x.entry.stamp rows (next_is setup registry x None (asked x.entry.act) none refl) r.1
                  (record {
                    by = by.2;
                    next = by.1;
                    others = λ t ne. subst (λ (rs : List Row). IsOwnFollowed None rs) (mine-other thread_of t x rows (λ i. ne (sym i))) (e t);
                    above = above_first x.entry rows r.0;
                  }),
            )

    journal_is : map entry_in (map event_of m.rows) ≡ journal
    journal_is = entries_kept m.rows ∙ m.entries_are

    result : (t : ℕ) → AllByRecursion (FindsAt setup registry journal) (logs t)
    result t = subst (λ (es : List Entry). AllByRecursion (FindsAt setup registry es) (logs t)) journal_is
        (followed_is_found setup registry logs (map event_of m.rows) (subst IsOrdered (sym journal_is) (ordered_rising journal rises))
        (λ u. events_kept u m.rows ∙ ap (map event_of) (m.parts u)) are t)
