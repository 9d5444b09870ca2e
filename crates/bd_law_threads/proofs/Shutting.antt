-- How the Shutdown ends a phase of a course and begins the next.
use Rattle.std.proofs.Common.{◌≡◌, ℕ, ◌≤◌, Bool, true, false, cond, ◌==◌, List, [], ◌∷◌, ◌++◌, map, None, refl, sym, ◌∙◌, ap, subst, append-nil, eq-eqb, eqb-true, arith}
use Rattle.std.specs.List.{AllByRecursion}
use Rattle.std.proofs.lemmas.List.Elements.{filter-append}
use Rattle.bd_base.specs.declared.act.Entry.{Entry}
use Rattle.bd_base.specs.declared.setup.Setup.{Setup}
use Rattle.bd_machine.specs.declared.state.Registry.{Registry}
use Rattle.bd_machine.specs.Lines.{shutdown_at}
use Rattle.bd_machine.specs.Start.{registry_at_start}
use Rattle.bd_turns.specs.declared.queue.Message.{Message}
use Rattle.bd_turns.specs.declared.queue.Post.{Post}
use Rattle.bd_log.specs.Merge.{entries_of}
use Rattle.bd_log.proofs.Order.{all_append, all_map}
use Rattle.bd_law_logs.specs.Rows.{Row, entries}
use Rattle.bd_law_logs.specs.Journals.{events, events_by, followed_from, registry_by, Event}
use Rattle.bd_law_logs.specs.Fits.{event_of, events_in}
use Rattle.bd_law_logs.specs.Laws.{shutdown_of}
use Rattle.bd_law_logs.specs.Loose.{put_stamps, AreLower}
use Rattle.bd_law_logs.specs.Turning.{put_to, took_all, HasItsMessage}
use Rattle.bd_law_threads.specs.Course.{all_rows, stamp_of, take_stamps, AreNotAbove}
use Rattle.bd_law_threads.specs.Steps.{ShutsDown}
use Rattle.bd_law_threads.proofs.Rows.{took_all_on, put_to_on, put_stamps_on, take_stamps_on, events_on, events_in_on, registry_on, followed_on}

-- the Shutdown's row
abbrev shutdown_row : ℕ → Row
shutdown_row stamp = record { entry = shutdown_at stamp; post = None; between = None }

-- what holds of the Shutdown's row holds of the part of it that a log has
all_of_shutdown : (P : Row → Type 0) (stamp t : ℕ) → P (shutdown_row stamp) → AllByRecursion P (shutdown_of stamp t)
all_of_shutdown P stamp t h = go (t == 0)
  where
    go : (b : Bool) → AllByRecursion P (cond b (shutdown_row stamp ∷ []) [])
    go true = (h, tt)
    go false = tt

-- what the Shutdown's row has nothing of, no log has of it
nothing_of_shutdown : {X : Type 0} (of : List Row → List X) (stamp t : ℕ) → of [] ≡ [] → of (shutdown_row stamp ∷ []) ≡ [] → of (shutdown_of stamp t) ≡ []
nothing_of_shutdown of stamp t none none_there = go (t == 0)
  where
    go : (b : Bool) → of (cond b (shutdown_row stamp ∷ []) []) ≡ []
    go true = none_there
    go false = none

module _ (rows : List Row) (stamp t : ℕ) where
  -- the rows at the start of the second phase
  abbrev later : List Row
  later = (rows ++ shutdown_of stamp t) ++ []

  -- what holds of the rows before and of the Shutdown's holds of all
  all_later : (P : Row → Type 0) → AllByRecursion P rows → P (shutdown_row stamp) → AllByRecursion P later
  all_later P h last = all_append P (rows ++ shutdown_of stamp t) [] (all_append P rows (shutdown_of stamp t) h (all_of_shutdown P stamp t last)) tt

  -- what they have is what the rows before have, and then what the Shutdown's has
  parts_later : {X : Type 0} (of : List Row → List X) → ((xs ys : List Row) → of (xs ++ ys) ≡ of xs ++ of ys) → of later ≡ of rows ++ of (shutdown_of stamp t)
  parts_later of on = ap of (append-nil (rows ++ shutdown_of stamp t)) ∙ on rows (shutdown_of stamp t)

  -- what the Shutdown's row has nothing of is as before
  same_later : {X : Type 0} (of : List Row → List X) → ((xs ys : List Row) → of (xs ++ ys) ≡ of xs ++ of ys) → of [] ≡ [] → of (shutdown_row stamp ∷ []) ≡ [] → of later ≡ of rows
  same_later {X = X} of on none none_there =
      parts_later of on ∙ ap (λ (xs : List X). of rows ++ xs) (nothing_of_shutdown of stamp t none none_there) ∙ append-nil (of rows)

  -- the Shutdown takes nothing
  took_same : took_all later ≡ took_all rows
  took_same = same_later took_all took_all_on refl refl

  -- so no entry that takes is new
  take_stamps_same : take_stamps later ≡ take_stamps rows
  take_stamps_same = same_later take_stamps take_stamps_on refl refl

  -- the Shutdown puts nothing
  put_same : (r : ℕ) → put_to r later ≡ put_to r rows
  put_same r = same_later (put_to r) (put_to_on r) refl refl

  -- so no entry that puts is new
  put_stamps_same : (r : ℕ) → put_stamps r later ≡ put_stamps r rows
  put_stamps_same r = same_later (put_stamps r) (put_stamps_on r) refl refl

module _ (setup : Setup) (stamp t : ℕ) (seen : List Entry) where
  -- the registry at the start
  abbrev start : Registry
  start = registry_at_start setup

  -- the rows of the journal after the Shutdown
  abbrev now : List Entry
  now = cond (t == 0) (seen ++ shutdown_at stamp ∷ []) seen

  -- the Shutdown leaves the registry
  registry_same : registry_by setup start now ≡ registry_by setup start seen
  registry_same = go (t == 0)
    where
      go : (b : Bool) → registry_by setup start (cond b (seen ++ shutdown_at stamp ∷ []) seen) ≡ registry_by setup start seen
      go true = registry_on setup start seen (shutdown_at stamp ∷ [])
      go false = refl

  -- its entry is thread 0's
  wrote_on : entries_of t now ≡ entries_of t seen ++ events (entries (shutdown_of stamp t))
  wrote_on = go (t == 0) refl
    where
      go : (b : Bool) → (t == 0) ≡ b → entries_of t (cond b (seen ++ shutdown_at stamp ∷ []) seen) ≡ entries_of t seen ++ events (entries (cond b (shutdown_row stamp ∷ []) []))
      go true is =
          let mine : (0 == t) ≡ true = eq-eqb 0 t (sym (eqb-true t 0 is)) in
          filter-append (λ (e : Entry). e.thread == t) seen (shutdown_at stamp ∷ [])
          ∙ ap (λ b. entries_of t seen ++ cond b (shutdown_at stamp ∷ []) []) mine
      go false is = sym (append-nil (entries_of t seen))

  -- so is its event
  followed_later : events_by t (followed_from setup start now) ≡ events_by t (followed_from setup start seen) ++ events_in (shutdown_of stamp t)
  followed_later = go (t == 0) refl
    where
      go : (b : Bool) → (t == 0) ≡ b
          → events_by t (followed_from setup start (cond b (seen ++ shutdown_at stamp ∷ []) seen)) ≡ events_by t (followed_from setup start seen) ++ events_in (cond b (shutdown_row stamp ∷ []) [])
      go true is =
          let mine : (0 == t) ≡ true = eq-eqb 0 t (sym (eqb-true t 0 is)) in
          ap (events_by t) (followed_on setup start seen (shutdown_at stamp ∷ []))
          ∙ filter-append (λ (j : Event). j.entry.thread == t) (followed_from setup start seen) (event_of (shutdown_row stamp) ∷ [])
          ∙ ap (λ b. events_by t (followed_from setup start seen) ++ cond b (event_of (shutdown_row stamp) ∷ []) []) mine
      go false is = sym (append-nil (events_by t (followed_from setup start seen)))

-- the course at the start of the second phase
pub shutdown_begins_a_phase : ShutsDown
shutdown_begins_a_phase setup t p c l stamp above h = record {
  accepts = refl;
  carry = all_later (all_rows p c) stamp t HasItsMessage h.carry tt;
  since = omega arith;
  late = tt;
  within =
      all_later (all_rows p c) stamp t (λ (r : Row). r.entry.stamp ≤ stamp)
      (all_map (λ (r : Row). r.entry.stamp ≤ c.last) (λ (r : Row). r.entry.stamp ≤ stamp) (all_rows p c) (λ r k. omega arith) h.within) (omega arith);
  queue = ap (λ (ms : List Message). ms ++ l.shared.queues t) (took_same (all_rows p c) stamp t) ∙ h.queue;
  lower = subst (λ (ns : List ℕ). AreLower (map stamp_of c.arrived) ns) (sym (take_stamps_same (all_rows p c) stamp t)) h.lower;
  met = all_map (λ (m : Post). m.stamp ≤ c.last) (λ (m : Post). m.stamp ≤ stamp) c.arrived (λ m k. omega arith) h.met;
  others = h.others;
  own = λ none. (
      let own = h.own none in
      (own.0 ∙ sym (put_same (all_rows p c) stamp t t), own.1 ∙ sym (put_stamps_same (all_rows p c) stamp t t)));
  senders = h.senders;
  puts = λ r ne. (h.puts r ne ∙ sym (put_same (all_rows p c) stamp t r));
  stamped = λ r ne. subst (λ (ns : List ℕ). AreNotAbove ns (map stamp_of (c.sent r))) (sym (put_stamps_same (all_rows p c) stamp t r)) (h.stamped r ne);
  none_own = h.none_own;
  replica = h.replica ∙ sym (registry_same setup stamp t c.seen);
  wrote =
      wrote_on setup stamp t c.seen
      ∙ ap (λ (es : List Entry). es ++ events (entries (shutdown_of stamp t))) h.wrote
      ∙ sym (parts_later (all_rows p c) stamp t (λ (rows : List Row). events (entries rows)) events_on);
  followed =
      followed_later setup stamp t c.seen
      ∙ ap (λ (js : List Event). js ++ events_in (shutdown_of stamp t)) h.followed
      ∙ sym (parts_later (all_rows p c) stamp t events_in events_in_on);
  served = λ dev. sym (append-nil (c.served dev));
  held = sym (append-nil c.held);
}
