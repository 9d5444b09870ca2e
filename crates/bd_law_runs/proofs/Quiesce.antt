-- Quiescence: the registry names every thread that has an older request open over the device, so none is open when a reset completes.
use Rattle.std.proofs.Common.{◌≡◌, ℕ, zero, suc, ◌+◌, ◌<◌, ◌≤◌, Bool, true, false, not, ◌&&◌, ◌||◌, List, [], ◌∷◌, ◌++◌, length, get_or, Option, Some, None, is_some, refl, sym, ◌∙◌, ap, subst, eqb-true, arith}
use Rattle.std.specs.List.{filter, list_all, list_any}
use Rattle.std.proofs.lemmas.Bool.{and_parts, and_from}
use Rattle.std.proofs.lemmas.List.{length-set}
use Rattle.std.proofs.lemmas.List.FromFn.{length-map-range_with_len}
use Rattle.bd_base.specs.declared.act.Entry.{Entry}
use Rattle.bd_base.specs.declared.id.DevId.{DevId}
use Rattle.bd_base.specs.declared.id.HandleId.{HandleId}
use Rattle.bd_base.specs.declared.id.ReqId.{ReqId}
use Rattle.bd_base.specs.declared.request.WalkKind.TheVariants.{Drain}
use Rattle.bd_base.specs.declared.setup.Setup.{Setup}
use Rattle.bd_machine.specs.declared.state.Handle.{Handle}
use Rattle.bd_machine.specs.declared.state.Open.{Open}
use Rattle.bd_machine.specs.declared.state.Part.{Part}
use Rattle.bd_machine.specs.declared.state.State.{State}
use Rattle.bd_machine.specs.Aborts.{is_below}
use Rattle.bd_machine.specs.BlockMap.{below, StandsOnEarlier}
use Rattle.bd_machine.specs.Content.{Told}
use Rattle.bd_machine.specs.Laws.{is_accept_of, is_complete_of, count_of}
use Rattle.bd_machine.specs.Registry.{references, threads_of}
use Rattle.bd_machine.specs.Run.{IsRunFrom, after_all, state_after}
use Rattle.bd_machine.specs.Same.{same_dev, same_handle}
use Rattle.bd_machine.specs.Start.{start, part_at_start}
use Rattle.bd_machine.specs.Step.{after, change_in}
use Rattle.bd_machine.specs.Users.{is_base_handle}
use Rattle.bd_machine.specs.View.{part_of, blank_part, is_of, view}
use Rattle.bd_machine.specs.Walks.{is_reset, is_kept_waiting, is_drained}
use Rattle.bd_machine.proofs.Acts.{IsFresh}
use Rattle.bd_machine.proofs.Complete.{fresh_start}
use Rattle.bd_machine.proofs.Runs.{completed_stays_closed}
use Rattle.bd_machine.proofs.Steps.{allowed_passes, fresh_after}
use Rattle.bd_law_runs.specs.Quiescence as spec
use Rattle.bd_law_runs.specs.Quiescence.{Quiescence, is_accept_above}
use Rattle.bd_law_runs.specs.Standing.{RequestsHaveHandles, RequestsHaveChannels, has_handle}
use Rattle.bd_law_runs.proofs.Begins.{first_fit, first_counts}
use Rattle.bd_law_runs.proofs.Channels.{Covered, above, val, all_have}
use Rattle.bd_law_runs.proofs.Counted.{is_user, users_on, pending}
use Rattle.bd_law_runs.proofs.Covered.{Covers}
use Rattle.bd_law_runs.proofs.Drains.{fresh1, fresh2, run_most, run_before, run_later, accepted_there, completed_at_end, all_later, held2, completed}
use Rattle.bd_law_runs.proofs.Fit.{Fit, Counts, fit_after, counts_stay}
use Rattle.bd_law_runs.proofs.Held.{Held, named_of}
use Rattle.bd_law_runs.proofs.HeldOn.{held_on}
use Rattle.bd_law_runs.proofs.Opened.{RowsOpen, HasHandle}
use Rattle.bd_law_runs.proofs.Quiet.{NoneOf, none_of, was_accepted, is_older, busy_in, AreLater, There, AllNamed, completes_is, accepting_none, not_busy, fewer_busy}
use Rattle.bd_law_runs.proofs.Sums.{in_some}
use Rattle.bd_law_runs.proofs.Threads.{those_have}

-- ---- threads

threads_stay : (setup : Setup) (s : State) (e : Entry) → length (after setup s e).parts ≡ length s.parts
unfolding after
threads_stay setup s e = length-set s.parts e.thread (change_in setup s e.thread e.act).part

-- a thread with an open request is one of them
busy_thread : (is : Open → Bool) (parts : List Part) (u : ℕ) → list_any is (get_or parts u blank_part).requests ≡ true → u < length parts
busy_thread is [] u h = cc
busy_thread is (p ∷ ps) zero h = first (length ps)
  where
    first : (n : ℕ) → 0 < suc n
    first n = omega arith
busy_thread is (p ∷ ps) (suc u) h = more u (length ps) (busy_thread is ps u h)
  where
    more : (a b : ℕ) → a < b → suc a < suc b
    more a b h = omega arith

-- ---- a thread with an open request has the channels below

module _ (setup : Setup) where
  user_of : (o : Open) (hs : List Handle) → is_base_handle setup o.handle ≡ false → list_any (λ (h : Handle). same_handle h.id o.handle && same_dev h.dev o.dev) hs ≡ true → list_any (is_user setup o.dev) hs ≡ true
  user_of o [] b h = cc
  user_of o (x ∷ xs) b h = go (same_handle x.id o.handle) (same_dev x.dev o.dev) refl refl h (user_of o xs b)
    where
      or_right : (b : Bool) → list_any (is_user setup o.dev) xs ≡ true → (b || list_any (is_user setup o.dev) xs) ≡ true
      or_right true k = refl
      or_right false k = k

      go : (p q : Bool) → same_handle x.id o.handle ≡ p → same_dev x.dev o.dev ≡ q → ((p && q) || list_any (λ (h : Handle). same_handle h.id o.handle && same_dev h.dev o.dev) xs) ≡ true
          → (list_any (λ (h : Handle). same_handle h.id o.handle && same_dev h.dev o.dev) xs ≡ true → list_any (is_user setup o.dev) xs ≡ true) → (is_user setup o.dev x || list_any (is_user setup o.dev) xs) ≡ true
      go true true f g h ih =
          let same : x.id ≡ o.handle = ap (λ (n : ℕ). let i : HandleId = record { 0 = n } in i) (eqb-true x.id.0 o.handle.0 f) in
          ap (λ b. b || list_any (is_user setup o.dev) xs) (and_from (same_dev x.dev o.dev) (not (is_base_handle setup x.id)) g (ap not (ap (is_base_handle setup) same ∙ b)))
      go true false f g h ih = or_right (is_user setup o.dev x) (ih h)
      go false q f g h ih = or_right (is_user setup o.dev x) (ih h)

  has_channel : (s : State) (u : ℕ) (c : Counts setup u s) → s.registry.between ≡ None → (o : Open) → HasHandle setup (filter (is_of u) s.registry.handles) o → (dev : DevId) → is_below setup o.dev dev ≡ true → is_some (references s.registry u dev) ≡ true
  has_channel s u c none o h dev lower = all_have setup (λ d. users_on setup (filter (is_of u) s.registry.handles) d + c.extra d) (references s.registry u) covered (suc (length setup.devices)) o.dev 0 top dev lower
    where
      covered : Covered setup (λ d. users_on setup (filter (is_of u) s.registry.handles) d + c.extra d) (references s.registry u) (λ d. 0)
      covered = subst (λ b. Covered setup (λ d. users_on setup (filter (is_of u) s.registry.handles) d + c.extra d) (references s.registry u) (pending b u)) none c.covered

      some : (a b n : ℕ) (x : Option ℕ) → 0 < a → a + b + n ≤ val x + 0 → is_some x ≡ true
      some a b n (Some k) p q = refl
      some a b n None p q = absurd (clash a b n p q)
        where
          clash : (a b n : ℕ) → 0 < a → a + b + n ≤ 0 + 0 → ⊥
          clash a b n p q = omega arith

      top : is_some (references s.registry u o.dev) ≡ true
      top =
          some (users_on setup (filter (is_of u) s.registry.handles) o.dev) (c.extra o.dev) (above setup (references s.registry u) o.dev) (references s.registry u o.dev)
          (in_some (is_user setup o.dev) (filter (is_of u) s.registry.handles) (user_of o (filter (is_of u) s.registry.handles) h.1 h.0)) (covered o.dev)

  waits_has : (s : State) (u : ℕ) (dev : DevId) (is : Open → Bool) → ((o : Open) → is o ≡ true → is_below setup o.dev dev ≡ true) → Counts setup u s → s.registry.between ≡ None → (rows : List Open) → RowsOpen setup (filter (is_of u) s.registry.handles) rows
      → list_any is rows ≡ true → is_some (references s.registry u dev) ≡ true
  waits_has s u dev is lower c none [] r h = cc
  waits_has s u dev is lower c none (o ∷ os) r h = go (is o) refl h (waits_has s u dev is lower c none os r.1)
    where
      go : (b : Bool) → is o ≡ b → (b || list_any is os) ≡ true → (list_any is os ≡ true → is_some (references s.registry u dev) ≡ true) → is_some (references s.registry u dev) ≡ true
      go true e h rest = has_channel s u c none o r.0 dev (lower o e)
      go false e h rest = rest h

  -- ---- the registry names every busy thread

  module _ (ordered : StandsOnEarlier setup) (reset : ReqId) (dev : DevId) (before : List Entry) where
    names_all : (s : State) → Fit setup s → ((t : ℕ) → Counts setup t s) → length s.parts ≡ setup.threads → s.registry.between ≡ None → (d : DevId) → d ≡ dev → Covers reset (There dev) (busy_in setup dev before (λ u. true) s) (threads_of setup s.registry d)
    names_all s fit counts threads none d same u busy =
        let row = (and_parts true (list_any (is_older setup dev before) (part_of s u).requests) busy).1 in
        those_have (λ t. is_some (references s.registry t d)) setup.threads u (subst (λ (n : ℕ). u < n) threads (busy_thread (is_older setup dev before) s.parts u row))
        (subst (λ (x : DevId). is_some (references s.registry u x) ≡ true) (sym same) (waits_has s u dev (is_older setup dev before) lower (counts u) none (part_of s u).requests (fit.rows u) row))
      where
        lower : (o : Open) → is_older setup dev before o ≡ true → is_below setup o.dev dev ≡ true
        lower o h = (and_parts (not (is_reset o.op)) (list_any (same_dev dev) (below setup o.dev)) (and_parts (was_accepted before o.id) (is_kept_waiting setup dev o) h).1).1

    all_named : (s : State) (es : List Entry) → IsFresh s → Fit setup s → ((t : ℕ) → Counts setup t s) → length s.parts ≡ setup.threads → IsRunFrom setup s es → AreLater before es → NoneOf (is_accept_of reset) es → NoneOf (is_complete_of reset) es
        → Held reset (There dev) (busy_in setup dev before (λ u. true) s) s → AllNamed setup reset dev before (λ u. true) s es
    all_named s [] fresh fit counts threads run new a c held = tt
    all_named s (e ∷ es) fresh fit counts threads run new a c held =
        let named = named_of setup s e reset (There dev) (busy_in setup dev before (λ u. true) s) held e.thread e.act (allowed_passes setup s e run.0) (λ d same none. names_all s fit counts threads none d same) in (
          named,
          all_named (after setup s e) es (fresh_after setup s e fresh run.0) (fit_after setup s e fresh run.0 fit) (counts_stay setup ordered s e fresh run.0 fit counts) (threads_stay setup s e ∙ threads) run.1 new.1 a.1 c.1
              (held_on setup s e reset (There dev) (busy_in setup dev before (λ u. true) s) (busy_in setup dev before (λ u. true) (after setup s e)) fresh run.0 (completes_is reset e.act c.0) held named
              (λ d same k b. not_busy setup dev before (λ u. true) (part_of s e.thread) true (subst (λ (x : DevId). is_drained setup (part_of s e.thread) x Drain ≡ true) same k) b)
              (accepting_none reset (There dev) e.act a.0).0 (fewer_busy setup dev before (λ u. true) s e fresh run.0 new.0)),
        )

-- ---- the law

pub all_fit : (setup : Setup) (s : State) (es : List Entry) → IsFresh s → IsRunFrom setup s es → Fit setup s → Fit setup (after_all setup s es)
all_fit setup s [] fresh run fit = fit
all_fit setup s (e ∷ es) fresh run fit = all_fit setup (after setup s e) es (fresh_after setup s e fresh run.0) run.1 (fit_after setup s e fresh run.0 fit)

all_counts : (setup : Setup) → StandsOnEarlier setup → (s : State) (es : List Entry) → IsFresh s → IsRunFrom setup s es → Fit setup s → ((t : ℕ) → Counts setup t s) → (t : ℕ) → Counts setup t (after_all setup s es)
all_counts setup ordered s [] fresh run fit counts = counts
all_counts setup ordered s (e ∷ es) fresh run fit counts =
    all_counts setup ordered (after setup s e) es (fresh_after setup s e fresh run.0) run.1 (fit_after setup s e fresh run.0 fit) (counts_stay setup ordered s e fresh run.0 fit counts)

all_threads : (setup : Setup) (s : State) (es : List Entry) → length (after_all setup s es).parts ≡ length s.parts
all_threads setup s [] = refl
all_threads setup s (e ∷ es) = all_threads setup (after setup s e) es ∙ threads_stay setup s e

older_completed : (setup : Setup) (told : Told) (reset : ReqId) (dev : DevId) (before : List Entry) (accept : Entry) (between : List Entry) (complete : Entry)
    → StandsOnEarlier setup → spec.Completes setup told reset dev before accept between complete
    → (r : ReqId) → 0 < count_of (is_accept_above setup dev r) before → 0 < count_of (is_complete_of r) (before ++ accept ∷ between)
older_completed setup told reset dev before accept between complete ordered c r some =
    completed setup told reset dev before accept between complete c (λ u. true)
    (all_named setup ordered reset dev before (after setup (after_all setup (start setup told) before) accept) between
    (fresh2 setup told reset dev before accept between complete c (λ u. true))
    (fit_after setup (after_all setup (start setup told) before) accept fresh_then (run_later setup told reset dev before accept between complete c).0 fit)
    (counts_stay setup ordered (after_all setup (start setup told) before) accept fresh_then (run_later setup told reset dev before accept between complete c).0 fit
    (all_counts setup ordered (start setup told) before (fresh_start setup told) run_first (first_fit setup told) (λ u. first_counts setup ordered u told)))
    (threads_stay setup (after_all setup (start setup told) before) accept ∙ all_threads setup (start setup told) before ∙ length-map-range_with_len (part_at_start setup told) 0 setup.threads)
    (run_later setup told reset dev before accept between complete c).1
    (all_later setup told reset dev before accept between complete c).1
    (none_of (is_accept_of reset) between (accepted_there setup told reset dev before accept between complete c).1)
    (none_of (is_complete_of reset) between (completed_at_end setup told reset dev before accept between complete c).1)
    (held2 setup told reset dev before accept between complete c (λ u. true)))
    r refl some
  where
    run_first : IsRunFrom setup (start setup told) before
    run_first = run_before setup told reset dev before accept between complete c

    fresh_then : IsFresh (after_all setup (start setup told) before)
    fresh_then = fresh1 setup told reset dev before accept between complete c (λ u. true)

    fit : Fit setup (after_all setup (start setup told) before)
    fit = all_fit setup (start setup told) before (fresh_start setup told) (run_before setup told reset dev before accept between complete c) (first_fit setup told)

pub quiescence : Quiescence
quiescence setup told reset dev before accept between complete ordered c r some =
    let done = older_completed setup told reset dev before accept between complete ordered c r some in
    record { completed = done; nowhere = completed_stays_closed setup told (before ++ accept ∷ between) r (run_most setup told reset dev before accept between complete c) done }

-- ---- the laws of what requests stand on

pub requests_have_handles : RequestsHaveHandles
requests_have_handles setup told es run t = go (part_of (state_after setup told es) t).requests ((all_fit setup (start setup told) es (fresh_start setup told) run (first_fit setup told)).rows t)
  where
    go : (rows : List Open) → RowsOpen setup (view (state_after setup told es) t).handles rows → list_all (has_handle (view (state_after setup told es) t).handles) rows ≡ true
    go [] r = refl
    go (o ∷ os) r = and_from (has_handle (view (state_after setup told es) t).handles o) (list_all (has_handle (view (state_after setup told es) t).handles) os) r.0.0 (go os r.1)

pub requests_have_channels : RequestsHaveChannels
requests_have_channels setup told es ordered run none t dev used =
    waits_has setup (state_after setup told es) t dev (λ (o : Open). is_below setup o.dev dev) (λ o h. h)
    (all_counts setup ordered (start setup told) es (fresh_start setup told) run (first_fit setup told) (λ u. first_counts setup ordered u told) t)
    none (part_of (state_after setup told es) t).requests ((all_fit setup (start setup told) es (fresh_start setup told) run (first_fit setup told)).rows t) used
