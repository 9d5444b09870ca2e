-- What had to follow in the registry, where its journal begins with what each thread saw of it.
use Rattle.std.proofs.Common.{◌≡◌, ℕ, ◌==◌, List, [], ◌∷◌, ◌++◌, map, Option, Some, None, option_and_then, refl, sym, ◌∙◌, ap, subst}
use Rattle.std.specs.List.{AllByRecursion}
use Rattle.std.proofs.lemmas.List.{append-nil, append_cancel_left}
use Rattle.std.proofs.lemmas.List.Elements.{filter-append}
use Rattle.bd_base.specs.declared.act.Entry.{Entry}
use Rattle.bd_base.specs.declared.setup.Setup.{Setup}
use Rattle.bd_machine.specs.declared.state.Registry.{Registry}
use Rattle.bd_machine.specs.Registry.{Question}
use Rattle.bd_machine.specs.View.{asked}
use Rattle.bd_log.specs.Merge.{entries_of, IsOrdered}
use Rattle.bd_law_logs.specs.Rows.{Row}
use Rattle.bd_law_logs.specs.Journals.{entry_in, events_by, followed_from, registry_by, registry_next, Event, IsBetweenIfAny, IsFollowed}
use Rattle.bd_law_logs.specs.Fits.{events_in, FindsAt}
use Rattle.bd_law_logs.proofs.Follow.{followed_is_found}
use Rattle.bd_law_threads.proofs.Rows.{followed_on, none_followed}

-- ---- a journal that is followed

-- its events are its entries
entries_followed : (setup : Setup) (registry : Registry) (es : List Entry) → map entry_in (followed_from setup registry es) ≡ es
entries_followed setup registry [] = refl
entries_followed setup registry (e ∷ es) = ap (λ (xs : List Entry). e ∷ xs) (entries_followed setup (registry_next setup registry e) es)

-- an entry that asks names what has to follow
named : (registry : Registry) (o : Option Question) → IsBetweenIfAny registry (option_and_then (λ (q : Question). registry.between) o) o
named registry None = tt
named registry (Some q) = refl

-- it is followed as they name
is_followed : (setup : Setup) (registry : Registry) (es : List Entry) → IsFollowed setup registry (followed_from setup registry es)
is_followed setup registry [] = tt
is_followed setup registry (e ∷ es) = (named registry (asked e.act), is_followed setup (registry_next setup registry e) es)

-- ---- what each thread saw

-- where a journal has of a thread the entries that it saw, it has no more events of it than it saw
pub events_seen : (setup : Setup) (registry : Registry) (t : ℕ) (journal seen rest own : List Entry) → journal ≡ seen ++ rest → entries_of t journal ≡ own → entries_of t seen ≡ own
    → events_by t (followed_from setup registry journal) ≡ events_by t (followed_from setup registry seen)
events_seen setup registry t journal seen rest own starts all saw =
    ap (λ (es : List Entry). events_by t (followed_from setup registry es)) starts
    ∙ ap (events_by t) (followed_on setup registry seen rest)
    ∙ filter-append (λ (j : Event). j.entry.thread == t) (followed_from setup registry seen) (followed_from setup (registry_by setup registry seen) rest)
    ∙ ap (λ (js : List Event). events_by t (followed_from setup registry seen) ++ js) (none_followed setup (registry_by setup registry seen) t rest none)
    ∙ append-nil (events_by t (followed_from setup registry seen))
  where
    split : entries_of t seen ++ entries_of t rest ≡ entries_of t seen
    split = sym (filter-append (λ (x : Entry). x.thread == t) seen rest) ∙ ap (entries_of t) (sym starts) ∙ all ∙ sym saw

    none : entries_of t rest ≡ []
    none = append_cancel_left (entries_of t seen) (entries_of t rest) [] (split ∙ sym (append-nil (entries_of t seen)))

-- where the events of each thread are those of its log, each log finds what it names
pub journal_found : (setup : Setup) (registry : Registry) (logs : ℕ → List Row) (journal : List Entry) → IsOrdered journal
    → ((t : ℕ) → events_by t (followed_from setup registry journal) ≡ events_in (logs t))
    → (t : ℕ) → AllByRecursion (FindsAt setup registry journal) (logs t)
journal_found setup registry logs journal ordered events_are t =
    subst (λ (es : List Entry). AllByRecursion (FindsAt setup registry es) (logs t)) (entries_followed setup registry journal)
    (followed_is_found setup registry logs (followed_from setup registry journal)
    (subst IsOrdered (sym (entries_followed setup registry journal)) ordered) events_are (is_followed setup registry journal) t)
