-- On the threads over which a reset's walks go, nothing older is open when it completes; and nothing at all, where every answer names every thread with an older request.
use Rattle.std.proofs.Common.{◌≡◌, ℕ, zero, suc, ◌+◌, ◌<◌, ◌≤◌, Bool, true, false, not, ◌&&◌, ◌||◌, ◌==◌, nat_lt, List, [], ◌∷◌, ◌++◌, None, refl, sym, ◌∙◌, ap, subst, eqb-true, eq-eqb, arith}
use Rattle.std.specs.List.{AllByRecursion, list_any}
use Rattle.std.proofs.lemmas.Bool.{and_parts, and_from, lt-ltb}
use Rattle.bd_base.specs.declared.act.Act.{Act}
use Rattle.bd_base.specs.declared.act.Act.TheVariants as acts
use Rattle.bd_base.specs.declared.act.Entry.{Entry}
use Rattle.bd_base.specs.declared.event.Answer.{Answer}
use Rattle.bd_base.specs.declared.event.RegEvent.TheVariants as events
use Rattle.bd_base.specs.declared.id.DevId.{DevId}
use Rattle.bd_base.specs.declared.id.ReqId.{ReqId}
use Rattle.bd_base.specs.declared.request.WalkKind.TheVariants.{Drain}
use Rattle.bd_base.specs.declared.setup.Setup.{Setup}
use Rattle.bd_base.specs.declared.thread_set.ThreadSet.{ThreadSet}
use Rattle.bd_machine.specs.declared.state.Open.{Open}
use Rattle.bd_machine.specs.declared.state.State.{State}
use Rattle.bd_machine.specs.Aborts.{is_below}
use Rattle.bd_machine.specs.Content.{Told}
use Rattle.bd_machine.specs.Laws.{is_accept_of, is_complete_of, one_if, count_of}
use Rattle.bd_machine.specs.Run.{IsRunFrom, after_all, state_after}
use Rattle.bd_machine.specs.Same.{same_dev, same_request}
use Rattle.bd_machine.specs.Start.{start}
use Rattle.bd_machine.specs.Step.{refusal, after}
use Rattle.bd_machine.specs.Threads.{has}
use Rattle.bd_machine.specs.View.{part_of}
use Rattle.bd_machine.specs.Walks.{is_reset, is_drained, is_kept_waiting}
use Rattle.bd_machine.proofs.Acts.{IsFresh, open_now}
use Rattle.bd_machine.proofs.Complete.{accepts_once, balance, fresh_start}
use Rattle.bd_machine.proofs.Steps.{fresh_after}
use Rattle.bd_machine.proofs.Tables.{request_same, dev_exact}
use Rattle.bd_law_runs.specs.Quiescence as spec
use Rattle.bd_law_runs.specs.Quiescence.{is_reset_accept, is_accept_above, names_thread, WalksDrain}
use Rattle.bd_law_runs.proofs.Bare.{AcceptsReset, IsBareIn, bare_on}
use Rattle.bd_law_runs.proofs.Covered.{Quiet}
use Rattle.bd_law_runs.proofs.Held.{Held, held_more, Named}
use Rattle.bd_law_runs.proofs.Rows.{Completes}
use Rattle.bd_law_runs.proofs.HeldOn.{Accepting, held_on}
use Rattle.bd_law_runs.proofs.Quiet.{differ, count_both, none_of, run_first, run_rest, all_both, row_of_accepted, was_accepted, is_older, busy_in, AreLater, Nowhere, There, AllNamed, not_busy, fewer_busy, held_before, bare_before, first_held, first_bare, held_after, quiet_at}

pub fresh_all : (setup : Setup) (s : State) (es : List Entry) → IsFresh s → IsRunFrom setup s es → IsFresh (after_all setup s es)
fresh_all setup s [] fresh run = fresh
fresh_all setup s (e ∷ es) fresh run = fresh_all setup (after setup s e) es (fresh_after setup s e fresh run.0) run.1

no_less : (n : ℕ) → 0 < n → n ≡ 0 → ⊥
no_less n h e = omega arith

-- ---- how often the reset and others are accepted and completed

module _ (setup : Setup) (told : Told) (reset : ReqId) (dev : DevId) (before : List Entry) (accept : Entry) (between : List Entry) (complete : Entry) (c : spec.Completes setup told reset dev before accept between complete) where
  abbrev s0 : State
  s0 = start setup told

  pub fresh0 : IsFresh (start setup told)
  fresh0 = fresh_start setup told

  -- the whole but its last entry, and the whole
  run_all : IsRunFrom setup (start setup told) ((before ++ accept ∷ between) ++ complete ∷ [])
  run_all = c.run

  pub run_most : IsRunFrom setup (start setup told) (before ++ accept ∷ between)
  run_most = run_first setup (start setup told) (before ++ accept ∷ between) (complete ∷ []) c.run

  pub run_before : IsRunFrom setup (start setup told) before
  run_before = run_first setup (start setup told) before (accept ∷ between) run_most

  pub run_later : IsRunFrom setup (after_all setup (start setup told) before) (accept ∷ between)
  run_later = run_rest setup (start setup told) before (accept ∷ between) run_most

  accept_is : is_accept_of reset accept.act ≡ true
  accept_is = go accept.act c.accepts
    where
      go : (act : Act) → is_reset_accept reset dev act ≡ true → is_accept_of reset act ≡ true
      go (acts.Accept d lba handle req op count) h = (and_parts (same_request req reset) (same_dev d dev) (and_parts (same_request req reset && same_dev d dev) (is_reset op) h).0).0
      go _ h = cc

  count_most : (is : Act → Bool) → count_of is (before ++ accept ∷ between) ≡ count_of is before + (one_if (is accept.act) + count_of is between)
  count_most is = count_both is before (accept ∷ between)

  -- the reset is accepted there alone
  pub accepted_there : (count_of (is_accept_of reset) before ≡ 0) × (count_of (is_accept_of reset) between ≡ 0)
  accepted_there =
      let once = accepts_once setup (start setup told) reset (before ++ accept ∷ between) fresh0 run_most in
      only (count_of (is_accept_of reset) before) (count_of (is_accept_of reset) between) (count_of (is_accept_of reset) (before ++ accept ∷ between)) (count_most (is_accept_of reset) ∙ ap (λ b. count_of (is_accept_of reset) before + (one_if b + count_of (is_accept_of reset) between)) accept_is) once
    where
      only : (a b n : ℕ) → n ≡ a + (1 + b) → n ≤ 1 → (a ≡ 0) × (b ≡ 0)
      only a b n h k = (omega arith, omega arith)

  -- and completed at the end alone
  pub completed_at_end : (count_of (is_complete_of reset) before ≡ 0) × (count_of (is_complete_of reset) between ≡ 0)
  completed_at_end =
      let sums = balance setup (start setup told) reset ((before ++ accept ∷ between) ++ complete ∷ []) fresh0 c.run in
      let accepts = accepts_once setup (start setup told) reset ((before ++ accept ∷ between) ++ complete ∷ []) fresh0 c.run in
      let whole : count_of (is_complete_of reset) ((before ++ accept ∷ between) ++ complete ∷ []) ≡ count_of (is_complete_of reset) before + (one_if (is_complete_of reset accept.act) + count_of (is_complete_of reset) between) + (1 + 0) =
      count_both (is_complete_of reset) (before ++ accept ∷ between) (complete ∷ [])
      ∙ ap (λ n. n + (one_if (is_complete_of reset complete.act) + 0)) (count_most (is_complete_of reset))
      ∙ ap (λ b. count_of (is_complete_of reset) before + (one_if (is_complete_of reset accept.act) + count_of (is_complete_of reset) between) + (one_if b + 0)) c.completes in
      only (count_of (is_complete_of reset) before) (one_if (is_complete_of reset accept.act)) (count_of (is_complete_of reset) between)
      (count_of (is_complete_of reset) ((before ++ accept ∷ between) ++ complete ∷ [])) (count_of (is_accept_of reset) ((before ++ accept ∷ between) ++ complete ∷ []))
      (open_now (after_all setup (start setup told) ((before ++ accept ∷ between) ++ complete ∷ [])).tokens reset) whole sums accepts
    where
      only : (a b d n m o : ℕ) → n ≡ a + (b + d) + (1 + 0) → m + 0 ≡ n + o → m ≤ 1 → (a ≡ 0) × (d ≡ 0)
      only a b d n m o h k l = (omega arith, omega arith)

  -- what was accepted before isn't accepted again
  later_alone : (es : List Entry) → ((r : ReqId) → count_of (is_accept_of r) es + count_of (is_accept_of r) before ≤ 1) → AreLater before es
  later_alone [] h = tt
  later_alone (e ∷ es) h = ((λ r is. by (count_of (is_accept_of r) before) (count_of (is_accept_of r) es) (subst (λ b. one_if b + count_of (is_accept_of r) es + count_of (is_accept_of r) before ≤ 1) is (h r))), later_alone es (λ r. rest (one_if (is_accept_of r e.act)) (count_of (is_accept_of r) es) (count_of (is_accept_of r) before) (h r)))
    where
      rest : (a b n : ℕ) → a + b + n ≤ 1 → b + n ≤ 1
      rest a b n h = omega arith

      zero_of : (n m : ℕ) → 1 + m + n ≤ 1 → n ≡ 0
      zero_of n m h = omega arith

      none : nat_lt 0 0 ≡ false
      none = refl

      by : (n m : ℕ) → 1 + m + n ≤ 1 → nat_lt 0 n ≡ false
      by n m h = ap (λ k. nat_lt 0 k) (zero_of n m h) ∙ none

  pub all_later : AreLater before (accept ∷ between)
  all_later = later_alone (accept ∷ between) (λ r. swap (count_of (is_accept_of r) before) (one_if (is_accept_of r accept.act) + count_of (is_accept_of r) between) (count_of (is_accept_of r) (before ++ accept ∷ between)) (count_most (is_accept_of r)) (accepts_once setup (start setup told) r (before ++ accept ∷ between) fresh0 run_most))
    where
      swap : (a b n : ℕ) → n ≡ a + b → n ≤ 1 → b + a ≤ 1
      swap a b n h k = omega arith

  -- ---- what is kept at the end

  module _ (at : ℕ → Bool) where
    abbrev busy_at : State → ℕ → Bool
    busy_at s u = busy_in setup dev before at s u

    held1 : Held reset (There dev) (busy_in setup dev before at (after_all setup (start setup told) before)) (after_all setup (start setup told) before)
    held1 = held_more reset Nowhere (There dev) (busy_in setup dev before at (after_all setup (start setup told) before)) (λ d no. absurd no) (after_all setup (start setup told) before)
        (held_before setup reset (busy_in setup dev before at (after_all setup (start setup told) before)) (start setup told) before fresh0 run_before
        (none_of (is_accept_of reset) before accepted_there.0) (none_of (is_complete_of reset) before completed_at_end.0) (first_held setup reset (busy_in setup dev before at (after_all setup (start setup told) before)) told))

    pub fresh1 : IsFresh (after_all setup (start setup told) before)
    fresh1 = fresh_all setup (start setup told) before fresh0 run_before

    -- the entry that accepts the reset
    accepts_dev : (act : Act) → is_reset_accept reset dev act ≡ true → Accepting reset (There dev) act × AcceptsReset reset act
    accepts_dev (acts.Accept d lba handle req op count) h =
        let p = and_parts (same_request req reset && same_dev d dev) (is_reset op) h in
        ((λ o. dev_exact d dev (and_parts (same_request req reset) (same_dev d dev) p.0).1), (λ o. p.1))
    accepts_dev _ h = cc

    not_named : (act : Act) → is_reset_accept reset dev act ≡ true → (busy : ℕ → Bool) → Named reset (There dev) busy act
    not_named (acts.Accept d lba handle req op count) h busy = tt
    not_named _ h busy = cc

    not_completing : (act : Act) → is_reset_accept reset dev act ≡ true → Completes reset act → ⊥
    not_completing (acts.Accept d lba handle req op count) h o = o
    not_completing _ h o = cc

    pub held2 : Held reset (There dev) (busy_in setup dev before at (after setup (after_all setup (start setup told) before) accept)) (after setup (after_all setup (start setup told) before) accept)
    held2 = held_on setup (after_all setup (start setup told) before) accept reset (There dev) (busy_in setup dev before at (after_all setup (start setup told) before)) (busy_in setup dev before at (after setup (after_all setup (start setup told) before) accept))
        fresh1 run_later.0 (not_completing accept.act c.accepts) held1 (not_named accept.act c.accepts (busy_in setup dev before at (after_all setup (start setup told) before)))
        (λ d same k b. not_busy setup dev before at (part_of (after_all setup (start setup told) before) accept.thread) (at accept.thread) (subst (λ (x : DevId). is_drained setup (part_of (after_all setup (start setup told) before) accept.thread) x Drain ≡ true) same k) b)
        (accepts_dev accept.act c.accepts).0 (fewer_busy setup dev before at (after_all setup (start setup told) before) accept fresh1 run_later.0 all_later.0)

    bare2 : IsBareIn reset (after setup (after_all setup (start setup told) before) accept)
    bare2 = bare_on reset setup (after_all setup (start setup told) before) accept fresh1 run_later.0 (accepts_dev accept.act c.accepts).1
        (bare_before setup reset (λ u. false) (start setup told) before fresh0 run_before (none_of (is_accept_of reset) before accepted_there.0) (first_bare setup reset (λ u. false) told))

    pub fresh2 : IsFresh (after setup (after_all setup (start setup told) before) accept)
    fresh2 = fresh_after setup (after_all setup (start setup told) before) accept fresh1 run_later.0

    abbrev last : State
    last = after_all setup (after setup (after_all setup (start setup told) before) accept) between

    last_is : state_after setup told (before ++ accept ∷ between) ≡ after_all setup (after setup (after_all setup (start setup told) before) accept) between
    last_is = all_both setup (start setup told) before (accept ∷ between)

    run_between : IsRunFrom setup (after setup (after_all setup (start setup told) before) accept) between
    run_between = run_later.1

    -- nobody of those that the answers name is busy at the end
    nobody : AllNamed setup reset dev before at (after setup (after_all setup (start setup told) before) accept) between → Quiet reset (There dev) (busy_in setup dev before at (after_all setup (after setup (after_all setup (start setup told) before) accept) between))
    nobody named =
        quiet_at setup reset dev before at (after_all setup (after setup (after_all setup (start setup told) before) accept) between) complete
        (subst (λ (s : State). refusal setup s complete ≡ None) last_is (run_rest setup (start setup told) (before ++ accept ∷ between) (complete ∷ []) c.run).0) c.completes
        (bare_before setup reset (λ u. false) (after setup (after_all setup (start setup told) before) accept) between fresh2 run_later.1 (none_of (is_accept_of reset) between accepted_there.1) bare2)
        (held_after setup reset dev before at (after setup (after_all setup (start setup told) before) accept) between fresh2 run_later.1 named all_later.1 (none_of (is_accept_of reset) between accepted_there.1)
        (none_of (is_complete_of reset) between completed_at_end.1) held2)

    -- so what was accepted before, by a thread that counts, is completed
    pub completed : AllNamed setup reset dev before at (after setup (after_all setup (start setup told) before) accept) between → (r : ReqId) → at r.thread ≡ true → 0 < count_of (is_accept_above setup dev r) before → 0 < count_of (is_complete_of r) (before ++ accept ∷ between)
    completed named r counts some = go (count_of (is_complete_of r) (before ++ accept ∷ between)) refl
      where
        above : (es : List Entry) → count_of (is_accept_above setup dev r) es ≤ count_of (is_accept_of r) es
        above [] = same 0
          where
            same : (n : ℕ) → n ≤ n
            same n = omega arith
        above (e ∷ es) = more (is_accept_above setup dev r e.act) (is_accept_of r e.act) (λ h. accept_of e.act h) (above es)
          where
            accept_of : (act : Act) → is_accept_above setup dev r act ≡ true → is_accept_of r act ≡ true
            accept_of (acts.Accept d lba handle req op count) h = (and_parts (same_request req r) (not (is_reset op)) (and_parts (same_request req r && not (is_reset op)) (is_below setup d dev) h).0).0
            accept_of _ h = cc

            more : (a b : Bool) {n m : ℕ} → (a ≡ true → b ≡ true) → n ≤ m → one_if a + n ≤ one_if b + m
            more true true f h = omega arith
            more true false f h = absurd (differ (f refl) refl)
            more false true f h = omega arith
            more false false f h = omega arith

        some_of : (n m : ℕ) → 0 < n → n ≤ m → nat_lt 0 m ≡ true
        some_of n m h k = lt-ltb 0 m (less n m h k)
          where
            less : (n m : ℕ) → 0 < n → n ≤ m → 0 < m
            less n m h k = omega arith

        accepted : was_accepted before r ≡ true
        accepted = some_of (count_of (is_accept_above setup dev r) before) (count_of (is_accept_of r) before) some (above before)

        older : (rows : List Open) → list_any (λ (o : Open). same_request o.id r && is_kept_waiting setup dev o) rows ≡ true → list_any (is_older setup dev before) rows ≡ true
        older [] h = h
        older (x ∷ xs) h = by (same_request x.id r) (is_kept_waiting setup dev x) refl refl h (older xs)
          where
            by : (a b : Bool) → same_request x.id r ≡ a → is_kept_waiting setup dev x ≡ b → ((a && b) || list_any (λ (o : Open). same_request o.id r && is_kept_waiting setup dev o) xs) ≡ true
                → (list_any (λ (o : Open). same_request o.id r && is_kept_waiting setup dev o) xs ≡ true → list_any (is_older setup dev before) xs ≡ true) → (is_older setup dev before x || list_any (is_older setup dev before) xs) ≡ true
            by true true e f h rest =
                ap (λ c. c || list_any (is_older setup dev before) xs)
                (and_from (was_accepted before x.id) (is_kept_waiting setup dev x) (subst (λ (q : ReqId). was_accepted before q ≡ true) (sym (request_same.exact x.id r e)) accepted) f)
            by true false e f h rest = or_right (is_older setup dev before x) (rest h)
              where
                or_right : (a : Bool) → list_any (is_older setup dev before) xs ≡ true → (a || list_any (is_older setup dev before) xs) ≡ true
                or_right true k = refl
                or_right false k = k
            by false b e f h rest = or_right (is_older setup dev before x) (rest h)
              where
                or_right : (a : Bool) → list_any (is_older setup dev before) xs ≡ true → (a || list_any (is_older setup dev before) xs) ≡ true
                or_right true k = refl
                or_right false k = k

        positive : (n : ℕ) → 0 < suc n
        positive n = omega arith

        go : (n : ℕ) → count_of (is_complete_of r) (before ++ accept ∷ between) ≡ n → 0 < n
        go (suc n) e = positive n
        go zero e = absurd (nobody named r.thread (and_from (at r.thread) (list_any (is_older setup dev before) (part_of (after_all setup (after setup (after_all setup (start setup told) before) accept) between) r.thread).requests) counts (older (part_of (after_all setup (after setup (after_all setup (start setup told) before) accept) between) r.thread).requests row)))
          where
            splits : (a b n : ℕ) → n ≡ a + b → n ≡ 0 → (a ≡ 0) × (b ≡ 0)
            splits a b n h k = (omega arith, omega arith)

            less_above : (a b : ℕ) → 0 < a → 0 < a + b
            less_above a b h = omega arith

            most : 0 < count_of (is_accept_above setup dev r) (before ++ accept ∷ between)
            most = subst (λ (n : ℕ). 0 < n) (sym (count_both (is_accept_above setup dev r) before (accept ∷ between))) (less_above (count_of (is_accept_above setup dev r) before) (count_of (is_accept_above setup dev r) (accept ∷ between)) some)

            row : list_any (λ (o : Open). same_request o.id r && is_kept_waiting setup dev o) (part_of (after_all setup (after setup (after_all setup (start setup told) before) accept) between) r.thread).requests ≡ true
            row = subst (λ (s : State). list_any (λ (o : Open). same_request o.id r && is_kept_waiting setup dev o) (part_of s r.thread).requests ≡ true) last_is
                (row_of_accepted setup dev r (start setup told) (before ++ accept ∷ between) fresh0 run_most (none_of (is_complete_of r) (before ++ accept ∷ between) e) most)

-- ---- the law of the threads that are named

same_thread : (u t : ℕ) → (u == t) ≡ true → u ≡ t
same_thread u t h = eqb-true u t h

named_one : (reset : ReqId) (D : DevId → Type 0) (t : ℕ) (busy : ℕ → Bool) → ((u : ℕ) → busy u ≡ true → u ≡ t) → (act : Act) → names_thread reset t act ≡ true → Named reset D busy act
named_one reset D t busy only (acts.Reg (events.BeginReset d r) a) h = λ threads f o has_dev u b. subst (λ (w : ℕ). has threads w ≡ true) (sym (only u b)) (by threads (subst (λ (x : Answer). names_thread reset t (acts.Reg (events.BeginReset d r) x) ≡ true) f h) o)
  where
    or_second : (a b : Bool) → (not a || b) ≡ true → a ≡ true → b ≡ true
    or_second true b h e = h
    or_second false b h e = cc

    by : (threads : ThreadSet) → (not (same_request r reset) || has threads t) ≡ true → r ≡ reset → has threads t ≡ true
    by threads h o = or_second (same_request r reset) (has threads t) h (subst (λ (q : ReqId). same_request q reset ≡ true) (sym o) (request_same.same_self reset))
named_one reset D t busy only (acts.Reg (events.FinishReset d) a) h = λ threads f has_dev u b. subst (λ (w : ℕ). has threads w ≡ true) (sym (only u b)) (or_second (same_request reset reset) (has threads t) (subst (λ (x : Answer). names_thread reset t (acts.Reg (events.FinishReset d) x) ≡ true) f h) (request_same.same_self reset))
  where
    or_second : (a b : Bool) → (not a || b) ≡ true → a ≡ true → b ≡ true
    or_second true b h e = h
    or_second false b h e = cc
named_one reset D t busy only _ h = tt

pub walks_drain : WalksDrain
walks_drain setup told reset dev before accept between complete c r names some =
    completed setup told reset dev before accept between complete c (λ u. u == r.thread) (all between (after setup (after_all setup (start setup told) before) accept) names) r (eq-eqb r.thread r.thread refl) some
  where
    all : (es : List Entry) (s : State) → AllByRecursion (λ (e : Entry). names_thread reset r.thread e.act ≡ true) es → AllNamed setup reset dev before (λ u. u == r.thread) s es
    all [] s h = tt
    all (e ∷ es) s h = (
      named_one reset (There dev) r.thread (busy_in setup dev before (λ u. u == r.thread) s) (λ u b. same_thread u r.thread (and_parts (u == r.thread) (list_any (is_older setup dev before) (part_of s u).requests) b).0) e.act h.0,
      all es (after setup s e) h.1,
    )
