-- A log's row finds what it names, where the journal is followed as its events name.
use Rattle.std.proofs.Common.{◌≡◌, Bool, true, false, cond, ◌==◌, inl, inr, List, [], ◌∷◌, filter, map, Option, refl, sym, ◌∙◌, ap, subst}
use Rattle.bd_base.specs.declared.act.Entry.{Entry}
use Rattle.bd_base.specs.declared.setup.Setup.{Setup}
use Rattle.bd_machine.specs.declared.state.Registry.{Registry}
use Rattle.bd_machine.specs.Changes.{registry_after}
use Rattle.bd_machine.specs.Registry.{Question}
use Rattle.bd_machine.specs.Step.{is_shutdown}
use Rattle.bd_machine.specs.View.{asked}
use Rattle.bd_log.specs.Merge.{IsBefore, IsOrdered}
use Rattle.bd_law_logs.specs.Rows.{Row}
use Rattle.bd_law_logs.specs.Journals.{is_event, before, registry_by, IsBetweenIfAny, Event, entry_in, IsFollowed}
use Rattle.bd_law_logs.specs.Fits.{FindsAt, event_of, events_in}
use Rattle.bd_law_logs.specs.Laws.{FollowedIsFound}
use Rattle.bd_law_logs.proofs.Parts.{In, all_in, in_all}
use Rattle.bd_law_logs.proofs.Journal.{none_asked, false_unless, not_self, none_before, true_before}

in_filter : {X : Type 0} (test : X → Bool) (x : X) (xs : List X) → In x (filter test xs) → In x xs
in_filter test x [] h = elim h [ ]
in_filter {X = X} test x (y ∷ xs) h = go (test y) h (in_filter test x xs)
  where
    go : (b : Bool) → In x (cond b (y ∷ filter test xs) (filter test xs)) → (In x (filter test xs) → In x xs) → In x (y ∷ xs)
    go true (inl e) k = inl e
    go true (inr i) k = inr (k i)
    go false i k = inr (k i)

in_map : (j : Event) (js : List Event) → In j js → In j.entry (map entry_in js)
in_map j [] h = elim h [ ]
in_map j (x ∷ js) (inl e) = inl (ap entry_in e)
in_map j (x ∷ js) (inr i) = inr (in_map j js i)

in_events : (r : Row) (rows : List Row) → In r rows → is_event r.entry ≡ true → In (event_of r) (events_in rows)
in_events r [] h is = elim h [ ]
in_events r (x ∷ rows) (inl e) is =
    subst (λ (b : Bool). In (event_of r) (map event_of (cond b (x ∷ filter (λ q. is_event q.entry) rows) (filter (λ q. is_event q.entry) rows))))
    (sym (ap (λ (q : Row). is_event q.entry) e ∙ is)) (inl (ap event_of e))
in_events r (x ∷ rows) (inr i) is = go (is_event x.entry) (in_events r rows i is)
  where
    go : (b : Bool) → In (event_of r) (events_in rows) → In (event_of r) (map event_of (cond b (x ∷ filter (λ q. is_event q.entry) rows) (filter (λ q. is_event q.entry) rows)))
    go true k = inr k
    go false k = k

-- in the registry at an event of the journal, what has to follow is what the event names
found_at : (setup : Setup) (registry : Registry) (js : List Event) (j : Event) → IsOrdered (map entry_in js) → IsFollowed setup registry js → In j js
    → IsBetweenIfAny (registry_by setup registry (before j.entry (map entry_in js))) j.between (asked j.entry.act)
found_at setup registry [] j o f i = elim i [ ]
found_at setup registry (x ∷ js) j o f (inl e) =
    subst (λ (k : Event). IsBetweenIfAny (registry_by setup registry (before k.entry (x.entry ∷ map entry_in js))) k.between (asked k.entry.act)) e
    (subst (λ (l : List Entry). IsBetweenIfAny (registry_by setup registry l) x.between (asked x.entry.act)) (sym none) f.0)
  where
    none : before x.entry (x.entry ∷ map entry_in js) ≡ []
    none = ap (λ b. cond b (x.entry ∷ before x.entry (map entry_in js)) (before x.entry (map entry_in js))) (false_unless x.entry x.entry (not_self x.entry)) ∙ none_before x.entry (map entry_in js) o.0
found_at setup registry (x ∷ js) j o f (inr i) =
    subst (λ (b : Bool). IsBetweenIfAny (registry_by setup registry (cond b (x.entry ∷ before j.entry (map entry_in js)) (before j.entry (map entry_in js)))) j.between (asked j.entry.act))
    (sym (true_before x.entry j.entry (in_all (IsBefore x.entry) (map entry_in js) o.0 j.entry (in_map j js i))))
    (found_at setup (registry_after setup registry x.entry.thread (asked x.entry.act)) js j o.1 f.1 i)

pub followed_is_found : FollowedIsFound
followed_is_found setup registry logs js ordered rows_are followed t = all_in (FindsAt setup registry (map entry_in js)) (logs t) (λ r i. go r i (is_event r.entry) refl)
  where
    go : (r : Row) → In r (logs t) → (b : Bool) → is_event r.entry ≡ b → FindsAt setup registry (map entry_in js) r
    go r i true is = found_at setup registry js (event_of r) ordered followed (in_filter (λ j. j.entry.thread == t) (event_of r) js (subst (In (event_of r)) (sym (rows_are t)) (in_events r (logs t) i is)))
    go r i false is = subst (λ (o : Option Question). IsBetweenIfAny (registry_by setup registry (before r.entry (map entry_in js))) r.between o) (sym (none_asked (asked r.entry.act) (is_shutdown r.entry.act) is)) tt
