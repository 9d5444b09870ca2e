-- Journals: with one row more, and what holds of every journal.
use Rattle.std.proofs.Common.{◌≡◌, ℕ, ◌<◌, ◌≤◌, Bool, true, false, ◌||◌, cond, List, [], ◌∷◌, ◌++◌, Option, Some, None, option_and_then, refl, sym, ◌∙◌, ap, subst, arith}
use Rattle.std.specs.List.{AllByRecursion}
use Rattle.bd_base.specs.declared.act.Act.{Act}
use Rattle.bd_base.specs.declared.act.Act.TheVariants as acts
use Rattle.bd_base.specs.declared.act.Entry.{Entry}
use Rattle.bd_base.specs.declared.event.RegEvent.{RegEvent}
use Rattle.bd_base.specs.declared.setup.Setup.{Setup}
use Rattle.bd_machine.specs.declared.state.Registry.{Registry}
use Rattle.bd_machine.specs.Changes.{registry_after}
use Rattle.bd_machine.specs.Registry.{Question, answer_to}
use Rattle.bd_machine.specs.Step.{is_shutdown}
use Rattle.bd_machine.specs.View.{asked}
use Rattle.bd_log.specs.Log.{IsWithin}
use Rattle.bd_log.specs.Merge.{Rises}
use Rattle.bd_law_logs.specs.Journals.{is_event, events, IsAnswered, IsBetweenIfAny, IsFollowed, IsReplay, between_for, followed_from, registry_by, registry_next}
use Rattle.bd_registry.specs.State.{IsJournal, IsRow, is_shut}

-- ---- one row more

pub state_more : (setup : Setup) (r : Registry) (es : List Entry) (e : Entry) → registry_by setup r (es ++ e ∷ []) ≡ registry_next setup (registry_by setup r es) e
state_more setup r [] e = refl
state_more setup r (x ∷ xs) e = state_more setup (registry_next setup r x) xs e

pub journal_more : (setup : Setup) (r : Registry) (stamp last : ℕ) (es : List Entry) (e : Entry) → IsJournal setup r stamp es last → last < e.stamp
    → IsRow setup (registry_by setup r es) e.thread e.act → IsJournal setup r stamp (es ++ e ∷ []) e.stamp
journal_more setup r stamp last [] e j less is = (subst (λ (n : ℕ). n < e.stamp) (sym j) less, is, refl)
journal_more setup r stamp last (x ∷ xs) e j less is = (j.0, j.1, journal_more setup (registry_next setup r x) x.stamp last xs e j.2 less is)

pub shut_more : (es : List Entry) (e : Entry) → is_shut (es ++ e ∷ []) ≡ (is_shut es || is_shutdown e.act)
shut_more [] e = or_false (is_shutdown e.act)
  where
    or_false : (b : Bool) → (b || false) ≡ b
    or_false true = refl
    or_false false = refl
shut_more (x ∷ xs) e = ap (λ b. is_shutdown x.act || b) (shut_more xs e) ∙ grouped (is_shutdown x.act) (is_shut xs) (is_shutdown e.act)
  where
    grouped : (a b c : Bool) → (a || (b || c)) ≡ ((a || b) || c)
    grouped true b c = refl
    grouped false b c = refl

-- ---- stamps

above : (setup : Setup) (r : Registry) (low stamp last : ℕ) (es : List Entry) → low ≤ stamp → IsJournal setup r stamp es last → AllByRecursion (λ y. low < y.stamp) es
above setup r low stamp last [] le j = tt
above setup r low stamp last (e ∷ es) le j =
    let up : stamp < e.stamp = j.0 in
    (omega arith, above setup (registry_next setup r e) low e.stamp last es (omega arith) j.2)

pub journal_rises : (setup : Setup) (r : Registry) (stamp last : ℕ) (es : List Entry) → IsJournal setup r stamp es last → Rises es
journal_rises setup r stamp last [] j = tt
journal_rises setup r stamp last (e ∷ es) j =
    (above setup (registry_next setup r e) e.stamp e.stamp last es (omega arith) j.2, journal_rises setup (registry_next setup r e) e.stamp last es j.2)

up_to_last : (setup : Setup) (r : Registry) (stamp last : ℕ) (es : List Entry) → IsJournal setup r stamp es last → stamp ≤ last
up_to_last setup r stamp last [] j = let e : stamp ≡ last = j in omega arith
up_to_last setup r stamp last (e ∷ es) j =
    let up : stamp < e.stamp = j.0 in
    let rest : e.stamp ≤ last = up_to_last setup (registry_next setup r e) e.stamp last es j.2 in
    omega arith

pub journal_within : (setup : Setup) (r : Registry) (stamp last : ℕ) (es : List Entry) → IsJournal setup r stamp es last → IsWithin last es
journal_within setup r stamp last [] j = tt
journal_within setup r stamp last (e ∷ es) j = (up_to_last setup (registry_next setup r e) e.stamp last es j.2, journal_within setup (registry_next setup r e) e.stamp last es j.2)

-- ---- rows

row_is_event : (setup : Setup) (r : Registry) (t : ℕ) (e : Entry) (act : Act) → e.act ≡ act → IsRow setup r t act → is_event e ≡ true
row_is_event setup r t e (acts.Reg event answer) is h = ap (λ (a : Act). is_event (record e { act = a })) is
row_is_event setup r t e acts.Shutdown is h = ap (λ (a : Act). is_event (record e { act = a })) is
row_is_event setup r t e _ is h = absurd h

pub journal_events : (setup : Setup) (r : Registry) (stamp last : ℕ) (es : List Entry) → IsJournal setup r stamp es last → events es ≡ es
journal_events setup r stamp last [] j = refl
journal_events setup r stamp last (e ∷ es) j =
    ap (λ b. cond b (e ∷ events es) (events es)) (row_is_event setup r e.thread e e.act refl j.1)
    ∙ ap (λ (xs : List Entry). e ∷ xs) (journal_events setup (registry_next setup r e) e.stamp last es j.2)

row_is_answered : (setup : Setup) (r : Registry) (t : ℕ) (act : Act) → IsRow setup r t act → IsAnswered setup r t (asked act)
row_is_answered setup r t (acts.Reg event answer) h = sym h
row_is_answered setup r t acts.Shutdown h = tt
row_is_answered setup r t _ h = absurd h

pub journal_replays : (setup : Setup) (r : Registry) (stamp last : ℕ) (es : List Entry) → IsJournal setup r stamp es last → IsReplay setup r es
journal_replays setup r stamp last [] j = tt
journal_replays setup r stamp last (e ∷ es) j = (row_is_answered setup r e.thread e.act j.1, journal_replays setup (registry_next setup r e) e.stamp last es j.2)

between_is : (r : Registry) (o : Option Question) (e : Entry) → asked e.act ≡ o → IsBetweenIfAny r (between_for r e) o
between_is r None e is = tt
between_is r (Some q) e is = sym (ap (λ (o : Option Question). option_and_then (λ q. r.between) o) is)

pub followed_as_asked : (setup : Setup) (r : Registry) (es : List Entry) → IsFollowed setup r (followed_from setup r es)
followed_as_asked setup r [] = tt
followed_as_asked setup r (e ∷ es) = (between_is r (asked e.act) e refl, followed_as_asked setup (registry_next setup r e) es)

-- ---- setups with the same answers and changes

module _ (a b : Setup) (answers : (r : Registry) (t : ℕ) (event : RegEvent) → answer_to a r t event ≡ answer_to b r t event)
    (changes : (r : Registry) (t : ℕ) (q : Question) → registry_after a r t (Some q) ≡ registry_after b r t (Some q)) where
  after_same : (r : Registry) (t : ℕ) (o : Option Question) → registry_after a r t o ≡ registry_after b r t o
  after_same r t None = refl
  after_same r t (Some q) = changes r t q

  answered_same : (r : Registry) (t : ℕ) (o : Option Question) → IsAnswered a r t o → IsAnswered b r t o
  answered_same r t None h = tt
  answered_same r t (Some q) h = sym (answers r t q.event) ∙ h

  pub by_same : (r : Registry) (es : List Entry) → registry_by a r es ≡ registry_by b r es
  by_same r [] = refl
  by_same r (e ∷ es) = by_same (registry_next a r e) es ∙ ap (λ (s : Registry). registry_by b s es) (after_same r e.thread (asked e.act))

  pub replay_same : (r : Registry) (es : List Entry) → IsReplay a r es → IsReplay b r es
  replay_same r [] h = tt
  replay_same r (e ∷ es) h = (
    answered_same r e.thread (asked e.act) h.0,
    subst (λ (s : Registry). IsReplay b s es) (after_same r e.thread (asked e.act)) (replay_same (registry_next a r e) es h.1),
  )
