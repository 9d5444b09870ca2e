-- Quiescence, where every thread with an open request has a channel of each device below.
use Rattle.std.proofs.Common.{◌≡◌, ℕ, zero, suc, ◌+◌, ◌<◌, Bool, true, false, cond, not, ◌&&◌, ◌||◌, ◌⊎◌, inl, inr, nat_lt, List, [], ◌∷◌, ◌++◌, map, get_or, None, refl, sym, ◌∙◌, ap, subst, arith}
use Rattle.std.specs.Prelude.{slice_get}
use Rattle.std.specs.List.{AllByRecursion, filter, list_any, range_with_len}
use Rattle.std.proofs.lemmas.Bool.{and_parts, and_from, cases_eq}
use Rattle.bd_base.specs.declared.act.Act.{Act}
use Rattle.bd_base.specs.declared.act.Act.TheVariants as acts
use Rattle.bd_base.specs.declared.act.Entry.{Entry}
use Rattle.bd_base.specs.declared.event.RegEvent.TheVariants as events
use Rattle.bd_base.specs.declared.id.DevId.{DevId}
use Rattle.bd_base.specs.declared.id.ReqId.{ReqId}
use Rattle.bd_base.specs.declared.request.WalkKind.TheVariants.{Drain}
use Rattle.bd_base.specs.declared.setup.Setup.{Setup}
use Rattle.bd_base.specs.declared.thread_set.ThreadSet.{ThreadSet}
use Rattle.bd_machine.specs.declared.state.Device.{Device}
use Rattle.bd_machine.specs.declared.state.Open.{Open}
use Rattle.bd_machine.specs.declared.state.Part.{Part}
use Rattle.bd_machine.specs.declared.state.Registry.{Registry}
use Rattle.bd_machine.specs.declared.state.Resetting.{Resetting}
use Rattle.bd_machine.specs.declared.state.Stage.{Stage}
use Rattle.bd_machine.specs.declared.state.Stage.TheVariants as stages
use Rattle.bd_machine.specs.declared.state.State.{State}
use Rattle.bd_machine.specs.Aborts.{is_below}
use Rattle.bd_machine.specs.Content.{Told}
use Rattle.bd_machine.specs.Laws.{is_accept_of, is_complete_of, one_if, count_of}
use Rattle.bd_machine.specs.Run.{IsRunFrom, after_all}
use Rattle.bd_machine.specs.Same.{same_request}
use Rattle.bd_machine.specs.Start.{start, part_at_start, device_at_start, registry_at_start, bare_registry, with_channel, with_channels}
use Rattle.bd_machine.specs.Limits.{is_limited}
use Rattle.bd_machine.specs.Users.{all_devices}
use Rattle.bd_machine.specs.Statuses.{is_finished, is_finished_stage}
use Rattle.bd_machine.specs.Step.{refusal, after}
use Rattle.bd_machine.specs.View.{blank_part, part_of, view, came_for}
use Rattle.bd_machine.specs.Walks.{is_reset, is_kept_waiting, is_drained}
use Rattle.bd_machine.proofs.Acts.{IsFresh}
use Rattle.bd_machine.proofs.Complete.{accepted_on_own}
use Rattle.bd_machine.proofs.Steps.{fresh_after, part_is, part_stays}
use Rattle.bd_machine.proofs.Tables.{request_same}
use Rattle.bd_law_runs.specs.Quiescence.{is_accept_above}
use Rattle.bd_law_runs.proofs.Bare.{AcceptsReset, NotTaken, IsBareIn, bare_on, finished_at}
use Rattle.bd_law_runs.proofs.Covered.{AtStage, DueFine, Quiet, RowsFine}
use Rattle.bd_law_runs.proofs.Fields.{requests_after, requests_are}
use Rattle.bd_law_runs.proofs.Held.{Held, Named, WaitsFine, OwnFine}
use Rattle.bd_law_runs.proofs.HeldOn.{Accepting, held_on}
use Rattle.bd_law_runs.proofs.Rows.{mine, first_row, found_first, Completes}

pub differ : {b : Bool} → b ≡ true → b ≡ false → ⊥
differ h k = let no : true ≡ false = sym h ∙ k in cc

-- ---- counts

pub count_both : (is : Act → Bool) (xs ys : List Entry) → count_of is (xs ++ ys) ≡ count_of is xs + count_of is ys
count_both is [] ys = zero_plus (count_of is ys)
  where
    zero_plus : (n : ℕ) → n ≡ 0 + n
    zero_plus n = omega arith
count_both is (x ∷ xs) ys = ap (λ n. one_if (is x.act) + n) (count_both is xs ys) ∙ assoc (one_if (is x.act)) (count_of is xs) (count_of is ys)
  where
    assoc : (a b c : ℕ) → a + (b + c) ≡ a + b + c
    assoc a b c = omega arith

-- no entry is such an act
abbrev pub NoneOf : (Act → Bool) → List Entry → Type 0
NoneOf is es = AllByRecursion (λ (e : Entry). is e.act ≡ false) es

pub none_of : (is : Act → Bool) (es : List Entry) → count_of is es ≡ 0 → NoneOf is es
none_of is [] h = tt
none_of is (e ∷ es) h = (first (is e.act) (count_of is es) h, none_of is es (rest (is e.act) (count_of is es) h))
  where
    first : (b : Bool) (n : ℕ) → one_if b + n ≡ 0 → b ≡ false
    first true n h = absurd (omega arith)
    first false n h = refl

    rest : (b : Bool) (n : ℕ) → one_if b + n ≡ 0 → n ≡ 0
    rest b n h = omega arith

pub run_first : (setup : Setup) (s : State) (es fs : List Entry) → IsRunFrom setup s (es ++ fs) → IsRunFrom setup s es
run_first setup s [] fs run = tt
run_first setup s (e ∷ es) fs run = (run.0, run_first setup (after setup s e) es fs run.1)

pub run_rest : (setup : Setup) (s : State) (es fs : List Entry) → IsRunFrom setup s (es ++ fs) → IsRunFrom setup (after_all setup s es) fs
run_rest setup s [] fs run = run
run_rest setup s (e ∷ es) fs run = run_rest setup (after setup s e) es fs run.1

pub all_both : (setup : Setup) (s : State) (es fs : List Entry) → after_all setup s (es ++ fs) ≡ after_all setup (after_all setup s es) fs
all_both setup s [] fs = refl
all_both setup s (e ∷ es) fs = all_both setup (after setup s e) es fs

-- ---- requests that are open

-- a row that passes a test by its request alone stays until its request is completed
pub any_push : (is : Open → Bool) (rows : List Open) (o : Open) → list_any is (rows ++ o ∷ []) ≡ (list_any is rows || is o)
any_push is [] o = or_none (is o)
  where
    or_none : (b : Bool) → (b || false) ≡ b
    or_none true = refl
    or_none false = refl
any_push is (x ∷ xs) o = ap (λ b. is x || b) (any_push is xs o) ∙ assoc (is x) (list_any is xs) (is o)
  where
    assoc : (a b c : Bool) → (a || (b || c)) ≡ ((a || b) || c)
    assoc true b c = refl
    assoc false b c = refl

-- fewer rows pass
any_filtered : (is keep : Open → Bool) (rows : List Open) → list_any is (filter keep rows) ≡ true → list_any is rows ≡ true
any_filtered is keep [] h = h
any_filtered is keep (x ∷ xs) h = go (keep x) h (any_filtered is keep xs)
  where
    more : (b : Bool) → list_any is xs ≡ true → (b || list_any is xs) ≡ true
    more true k = refl
    more false k = k

    go : (b : Bool) → list_any is (cond b (x ∷ filter keep xs) (filter keep xs)) ≡ true → (list_any is (filter keep xs) ≡ true → list_any is xs ≡ true) → (is x || list_any is xs) ≡ true
    go true h rest = either (is x) (list_any is (filter keep xs)) h rest
      where
        either : (a b : Bool) → (a || b) ≡ true → (b ≡ true → list_any is xs ≡ true) → (a || list_any is xs) ≡ true
        either true b h rest = refl
        either false b h rest = rest h
    go false h rest = more (is x) (rest h)

-- a row that isn't dropped still passes
any_kept : (is keep : Open → Bool) → ((o : Open) → is o ≡ true → keep o ≡ true) → (rows : List Open) → list_any is rows ≡ true → list_any is (filter keep rows) ≡ true
any_kept is keep k [] h = h
any_kept is keep k (x ∷ xs) h = go (is x) (keep x) refl refl h (any_kept is keep k xs)
  where
    go : (a b : Bool) → is x ≡ a → keep x ≡ b → (a || list_any is xs) ≡ true → (list_any is xs ≡ true → list_any is (filter keep xs) ≡ true) → list_any is (cond b (x ∷ filter keep xs) (filter keep xs)) ≡ true
    go true true e f h rest = ap (λ c. c || list_any is (filter keep xs)) e
    go true false e f h rest = absurd (differ (k x e) f)
    go false true e f h rest = or_right (is x) (rest h)
      where
        or_right : (a : Bool) → list_any is (filter keep xs) ≡ true → (a || list_any is (filter keep xs)) ≡ true
        or_right true r = refl
        or_right false r = r
    go false false e f h rest = rest h

module _ (setup : Setup) where
  pub rows_after : (s : State) (e : Entry) → IsFresh s → refusal setup s e ≡ None → (part_of (after setup s e) e.thread).requests ≡ requests_after e.act (part_of s e.thread).requests
  rows_after s e fresh allowed = ap (λ (p : Part). p.requests) (part_is setup s e fresh allowed) ∙ requests_are setup e.thread (view s e.thread) e.act (came_for setup s e.thread e.act)

  module _ (dev : DevId) (r : ReqId) where
    -- the request's row, over the device
    is_row : Open → Bool
    is_row o = same_request o.id r && is_kept_waiting setup dev o

    abbrev pub HasRow : State → Type 0
    HasRow s = list_any (λ (o : Open). same_request o.id r && is_kept_waiting setup dev o) (part_of s r.thread).requests ≡ true

    row_on : (s : State) (e : Entry) → IsFresh s → refusal setup s e ≡ None → is_complete_of r e.act ≡ false → HasRow s → HasRow (after setup s e)
    row_on s e fresh allowed open_yet h = go (cases_eq e.thread r.thread)
      where
        abbrev_is : Open → Bool
        abbrev_is o = same_request o.id r && is_kept_waiting setup dev o

        by_act : (act : Act) → is_complete_of r act ≡ false → (rows : List Open) → list_any (λ (o : Open). same_request o.id r && is_kept_waiting setup dev o) rows ≡ true → list_any (λ (o : Open). same_request o.id r && is_kept_waiting setup dev o) (requests_after act rows) ≡ true
        by_act (acts.Accept d lba handle req op count) c rows h =
            any_push (λ (o : Open). same_request o.id r && is_kept_waiting setup dev o) rows (record { id = req; handle = handle; dev = d; op = op })
            ∙ ap (λ b. b || (same_request req r && is_kept_waiting setup dev (record { id = req; handle = handle; dev = d; op = op }))) h
        by_act (acts.Complete req status shown) c rows h =
            any_kept (λ (o : Open). same_request o.id r && is_kept_waiting setup dev o) (λ o. not (same_request o.id req))
            (λ o is. stays o (same_request o.id req) refl (and_parts (same_request o.id r) (is_kept_waiting setup dev o) is).0) rows h
          where
            stays : (o : Open) (b : Bool) → same_request o.id req ≡ b → same_request o.id r ≡ true → not b ≡ true
            stays o true e is =
                let same : req ≡ r = sym (request_same.exact o.id req e) ∙ request_same.exact o.id r is in
                absurd (differ (subst (λ (q : ReqId). same_request req q ≡ true) same (request_same.same_self req)) c)
            stays o false e is = refl
        by_act _ c rows h = h

        go : (e.thread ≡ r.thread) ⊎ (e.thread ≡ r.thread → ⊥) → HasRow (after setup s e)
        go (inl same) =
            let old : list_any (λ (o : Open). same_request o.id r && is_kept_waiting setup dev o) (part_of s e.thread).requests ≡ true =
            subst (λ (u : ℕ). list_any (λ (o : Open). same_request o.id r && is_kept_waiting setup dev o) (part_of s u).requests ≡ true) (sym same) h in
            subst (λ (u : ℕ). list_any (λ (o : Open). same_request o.id r && is_kept_waiting setup dev o) (part_of (after setup s e) u).requests ≡ true) same
            (ap (list_any (λ (o : Open). same_request o.id r && is_kept_waiting setup dev o)) (rows_after s e fresh allowed) ∙ by_act e.act open_yet (part_of s e.thread).requests old)
        go (inr ne) = ap (λ (p : Part). list_any (λ (o : Open). same_request o.id r && is_kept_waiting setup dev o) p.requests) (part_stays setup s e fresh allowed r.thread ne) ∙ h

    row_stays : (s : State) (es : List Entry) → IsFresh s → IsRunFrom setup s es → NoneOf (is_complete_of r) es → HasRow s → HasRow (after_all setup s es)
    row_stays s [] fresh run open_yet h = h
    row_stays s (e ∷ es) fresh run open_yet h = row_stays (after setup s e) es (fresh_after setup s e fresh run.0) run.1 open_yet.1 (row_on s e fresh run.0 open_yet.0 h)

    -- a request that was accepted over the device and isn't completed has a row
    row_made : (s : State) (e : Entry) → IsFresh s → refusal setup s e ≡ None → is_accept_above setup dev r e.act ≡ true → HasRow (after setup s e)
    row_made s e fresh allowed is =
        let made = by_act e.act is (part_of s e.thread).requests in
        let at : r.thread ≡ e.thread = accepted_on_own setup s e r allowed (accept_of e.act is) in
        subst (λ (u : ℕ). list_any (λ (o : Open). same_request o.id r && is_kept_waiting setup dev o) (part_of (after setup s e) u).requests ≡ true) (sym at)
        (ap (list_any (λ (o : Open). same_request o.id r && is_kept_waiting setup dev o)) (rows_after s e fresh allowed) ∙ made)
      where
        or_true : (b : Bool) → (b || true) ≡ true
        or_true true = refl
        or_true false = refl

        by_act : (act : Act) → is_accept_above setup dev r act ≡ true → (rows : List Open) → list_any (λ (o : Open). same_request o.id r && is_kept_waiting setup dev o) (requests_after act rows) ≡ true
        by_act (acts.Accept d lba handle req op count) h rows =
            let p = and_parts (same_request req r && not (is_reset op)) (is_below setup d dev) h in
            let q = and_parts (same_request req r) (not (is_reset op)) p.0 in
            let one : (same_request req r && is_kept_waiting setup dev (record { id = req; handle = handle; dev = d; op = op })) ≡ true =
            and_from (same_request req r) (not (is_reset op) && is_below setup d dev) q.0 (and_from (not (is_reset op)) (is_below setup d dev) q.1 p.1) in
            any_push (λ (o : Open). same_request o.id r && is_kept_waiting setup dev o) rows (record { id = req; handle = handle; dev = d; op = op })
            ∙ ap (λ b. list_any (λ (o : Open). same_request o.id r && is_kept_waiting setup dev o) rows || b) one ∙ or_true (list_any (λ (o : Open). same_request o.id r && is_kept_waiting setup dev o) rows)
        by_act _ h rows = cc

        accept_of : (act : Act) → is_accept_above setup dev r act ≡ true → is_accept_of r act ≡ true
        accept_of (acts.Accept d lba handle req op count) h = (and_parts (same_request req r) (not (is_reset op)) (and_parts (same_request req r && not (is_reset op)) (is_below setup d dev) h).0).0
        accept_of _ h = cc

    pub row_of_accepted : (s : State) (es : List Entry) → IsFresh s → IsRunFrom setup s es → NoneOf (is_complete_of r) es → 0 < count_of (is_accept_above setup dev r) es → HasRow (after_all setup s es)
    row_of_accepted s [] fresh run open_yet some = absurd (none some)
      where
        none : 0 < 0 → ⊥
        none h = omega arith
    row_of_accepted s (e ∷ es) fresh run open_yet some = go (is_accept_above setup dev r e.act) refl some (row_of_accepted (after setup s e) es (fresh_after setup s e fresh run.0) run.1 open_yet.1)
      where
        later : (n : ℕ) → 0 < 0 + n → 0 < n
        later n h = omega arith

        go : (b : Bool) → is_accept_above setup dev r e.act ≡ b → 0 < one_if b + count_of (is_accept_above setup dev r) es
            → (0 < count_of (is_accept_above setup dev r) es → HasRow (after_all setup (after setup s e) es)) → HasRow (after_all setup (after setup s e) es)
        go true is some rest = row_stays (after setup s e) es (fresh_after setup s e fresh run.0) run.1 open_yet.1 (row_made s e fresh run.0 is)
        go false is some rest = rest (later (count_of (is_accept_above setup dev r) es) some)

-- ---- what is older

-- the request was accepted by these entries
abbrev pub was_accepted : List Entry → ReqId → Bool
was_accepted before r = nat_lt 0 (count_of (is_accept_of r) before)

abbrev pub is_older : Setup → DevId → List Entry → Open → Bool
is_older setup dev before o = was_accepted before o.id && is_kept_waiting setup dev o

-- one of these threads has an older request open
abbrev pub busy_in : Setup → DevId → List Entry → (ℕ → Bool) → State → ℕ → Bool
busy_in setup dev before at s u = at u && list_any (is_older setup dev before) (part_of s u).requests

-- none of the requests of these entries was accepted before
abbrev pub AreLater : List Entry → List Entry → Type 0
AreLater before es = AllByRecursion (λ (e : Entry). (r : ReqId) → is_accept_of r e.act ≡ true → was_accepted before r ≡ false) es

module _ (setup : Setup) (dev : DevId) (before : List Entry) (at : ℕ → Bool) where
  abbrev busy : State → ℕ → Bool
  busy s u = busy_in setup dev before at s u

  fewer_rows : (act : Act) → ((r : ReqId) → is_accept_of r act ≡ true → was_accepted before r ≡ false) → (rows : List Open) → list_any (is_older setup dev before) (requests_after act rows) ≡ true → list_any (is_older setup dev before) rows ≡ true
  fewer_rows (acts.Accept d lba handle req op count) new rows h = go (list_any (is_older setup dev before) rows) (sym (any_push (is_older setup dev before) rows (record { id = req; handle = handle; dev = d; op = op })) ∙ h)
    where
      no : (is_older setup dev before) (record { id = req; handle = handle; dev = d; op = op }) ≡ false
      no = ap (λ b. b && is_kept_waiting setup dev (record { id = req; handle = handle; dev = d; op = op })) (new req (request_same.same_self req))

      or_false : (b c : Bool) → c ≡ false → (b || c) ≡ true → b ≡ true
      or_false true c e h = refl
      or_false false c e h = absurd (differ h e)

      go : (b : Bool) → (b || is_older setup dev before (record { id = req; handle = handle; dev = d; op = op })) ≡ true → b ≡ true
      go b h = or_false b (is_older setup dev before (record { id = req; handle = handle; dev = d; op = op })) no h
  fewer_rows (acts.Complete req status shown) new rows h = any_filtered (is_older setup dev before) (λ o. not (same_request o.id req)) rows h
  fewer_rows _ new rows h = h

  pub fewer_busy : (s : State) (e : Entry) → IsFresh s → refusal setup s e ≡ None → ((r : ReqId) → is_accept_of r e.act ≡ true → was_accepted before r ≡ false) → (u : ℕ) → busy (after setup s e) u ≡ true → busy s u ≡ true
  fewer_busy s e fresh allowed new u h = go (and_parts (at u) (list_any (is_older setup dev before) (part_of (after setup s e) u).requests) h) (cases_eq e.thread u)
    where
      go : (at u ≡ true) × (list_any (is_older setup dev before) (part_of (after setup s e) u).requests ≡ true) → (e.thread ≡ u) ⊎ (e.thread ≡ u → ⊥) → busy s u ≡ true
      go p (inl same) =
          let h' : list_any (is_older setup dev before) (part_of (after setup s e) e.thread).requests ≡ true = subst (λ (w : ℕ). list_any (is_older setup dev before) (part_of (after setup s e) w).requests ≡ true) (sym same) p.1 in
          let old : list_any (is_older setup dev before) (part_of s e.thread).requests ≡ true =
          fewer_rows e.act new (part_of s e.thread).requests (sym (ap (list_any (is_older setup dev before)) (rows_after setup s e fresh allowed)) ∙ h') in
          and_from (at u) (list_any (is_older setup dev before) (part_of s u).requests) p.0 (subst (λ (w : ℕ). list_any (is_older setup dev before) (part_of s w).requests ≡ true) same old)
      go p (inr ne) =
          and_from (at u) (list_any (is_older setup dev before) (part_of s u).requests) p.0 (sym (ap (λ (q : Part). list_any (is_older setup dev before) q.requests) (part_stays setup s e fresh allowed u ne)) ∙ p.1)

  -- a thread that is drained isn't busy
  pub not_busy : (part : Part) (b : Bool) → is_drained setup part dev Drain ≡ true → (b && list_any (is_older setup dev before) part.requests) ≡ true → ⊥
  not_busy part b h k = go part.requests (and_parts b (list_any (is_older setup dev before) part.requests) k).1 (not_false (list_any (is_kept_waiting setup dev) part.requests) h)
    where
      not_false : (b : Bool) → not b ≡ true → b ≡ false
      not_false true h = cc
      not_false false h = refl

      left : (a b : Bool) → (a || b) ≡ false → a ≡ false
      left true b h = cc
      left false b h = refl

      right : (a b : Bool) → (a || b) ≡ false → b ≡ false
      right true b h = cc
      right false b h = h

      one : (a b c : Bool) → b ≡ false → ((a && b) || c) ≡ true → c ≡ true
      one true true c e h = cc
      one true false c e h = h
      one false b c e h = h

      go : (rows : List Open) → list_any (is_older setup dev before) rows ≡ true → list_any (is_kept_waiting setup dev) rows ≡ false → ⊥
      go [] h k = cc
      go (x ∷ xs) h k = go xs (one (was_accepted before x.id) (is_kept_waiting setup dev x) (list_any (is_older setup dev before) xs) (left (is_kept_waiting setup dev x) (list_any (is_kept_waiting setup dev) xs) k) h) (right (is_kept_waiting setup dev x) (list_any (is_kept_waiting setup dev) xs) k)

-- the channels of the start leave its devices
pub devices_kept : (setup : Setup) (ds : List DevId) (r : Registry) → (with_channels setup ds r).devices ≡ r.devices
devices_kept setup [] r = refl
devices_kept setup (d ∷ ds) r = devices_kept setup ds (with_channel setup d r)

pub devices_first : (setup : Setup) → (registry_at_start setup).devices ≡ map (device_at_start setup) (all_devices setup)
devices_first setup = devices_kept setup (filter (is_limited setup) (all_devices setup)) (bare_registry setup)

-- ---- before the reset is accepted

abbrev pub Nowhere : DevId → Type 0
Nowhere d = ⊥

pub completes_is : (reset : ReqId) (act : Act) → is_complete_of reset act ≡ false → Completes reset act → ⊥
completes_is reset (acts.Complete req status shown) h o = differ (subst (λ (q : ReqId). same_request q reset ≡ true) (sym o) (request_same.same_self reset)) h
completes_is reset _ h o = o

pub accepting_none : (reset : ReqId) (D : DevId → Type 0) (act : Act) → is_accept_of reset act ≡ false → Accepting reset D act × AcceptsReset reset act
accepting_none reset D (acts.Accept d lba handle req op count) h =
    let no : req ≡ reset → ⊥ = λ o. differ (subst (λ (q : ReqId). same_request q reset ≡ true) (sym o) (request_same.same_self reset)) h in
    ((λ o. absurd (no o)), (λ o. absurd (no o)))
accepting_none reset D _ h = (tt, tt)

pub named_nowhere : (reset : ReqId) (busy : ℕ → Bool) (act : Act) → Named reset Nowhere busy act
named_nowhere reset busy (acts.Reg (events.BeginReset d r) a) = λ threads f o no. absurd no
named_nowhere reset busy (acts.Reg (events.FinishReset d) a) = λ threads f no. absurd no
named_nowhere reset busy _ = tt

module _ (setup : Setup) (reset : ReqId) (busy : ℕ → Bool) where
  pub held_before : (s : State) (es : List Entry) → IsFresh s → IsRunFrom setup s es → NoneOf (is_accept_of reset) es → NoneOf (is_complete_of reset) es → Held reset Nowhere busy s → Held reset Nowhere busy (after_all setup s es)
  held_before s [] fresh run a c h = h
  held_before s (e ∷ es) fresh run a c h =
      held_before (after setup s e) es (fresh_after setup s e fresh run.0) run.1 a.1 c.1
      (held_on setup s e reset Nowhere busy busy fresh run.0 (completes_is reset e.act c.0) h (named_nowhere reset busy e.act) (λ d no k b. no) (accepting_none reset Nowhere e.act a.0).0 (λ u b. b))

  pub bare_before : (s : State) (es : List Entry) → IsFresh s → IsRunFrom setup s es → NoneOf (is_accept_of reset) es → IsBareIn reset s → IsBareIn reset (after_all setup s es)
  bare_before s [] fresh run a h = h
  bare_before s (e ∷ es) fresh run a h =
      bare_before (after setup s e) es (fresh_after setup s e fresh run.0) run.1 a.1 (bare_on reset setup s e fresh run.0 (accepting_none reset Nowhere e.act a.0).1 h)

  -- nothing speaks of the reset at the start
  pub first_held : (told : Told) → Held reset Nowhere busy (start setup told)
  first_held told = record {
    rows = λ u. rows (range_with_len 0 setup.threads) u u;
    due = λ u. due (range_with_len 0 setup.threads) u;
    tokens = λ id. tt;
    own = λ u. own (range_with_len 0 setup.threads) u u;
    waiting = λ n. subst (λ (ds : List Device). WaitsFine reset Nowhere n (slice_get ds n)) (sym (devices_first setup)) (waits (all_devices setup) n n);
  }
    where
      rows : (us : List ℕ) (i u : ℕ) → RowsFine reset Nowhere busy u (mine reset (get_or (map (part_at_start setup told) us) i blank_part).resets)
      rows [] i u = tt
      rows (w ∷ us) zero u = tt
      rows (w ∷ us) (suc i) u = rows us i u

      due : (us : List ℕ) (i : ℕ) → DueFine reset Nowhere busy (get_or (map (part_at_start setup told) us) i blank_part).due
      due [] i = tt
      due (w ∷ us) zero = tt
      due (w ∷ us) (suc i) = due us i

      own : (us : List ℕ) (i u : ℕ) → OwnFine reset Nowhere u (get_or (map (part_at_start setup told) us) i blank_part).requests
      own [] i u = tt
      own (w ∷ us) zero u = tt
      own (w ∷ us) (suc i) u = own us i u

      waits : (ds : List DevId) (i n : ℕ) → WaitsFine reset Nowhere n (slice_get (map (device_at_start setup) ds) i)
      waits [] i n = tt
      waits (d ∷ ds) zero n = tt
      waits (d ∷ ds) (suc i) n = waits ds i n

  pub first_bare : (told : Told) → IsBareIn reset (start setup told)
  first_bare told = record { token = tt; taken = λ u. none (range_with_len 0 setup.threads) u }
    where
      none : (us : List ℕ) (i : ℕ) → NotTaken reset (get_or (map (part_at_start setup told) us) i blank_part).prior
      none [] i = tt
      none (w ∷ us) zero = tt
      none (w ∷ us) (suc i) = none us i

-- ---- after it

abbrev pub There : DevId → DevId → Type 0
There dev d = d ≡ dev

module _ (setup : Setup) (reset : ReqId) (dev : DevId) (before : List Entry) (at : ℕ → Bool) where
  -- each answer that names the reset's threads names the busy ones
  abbrev pub AllNamed : State → List Entry → Type 0
  AllNamed s [] = Unit {0}
  AllNamed s (e ∷ es) = Named reset (There dev) (busy_in setup dev before at s) e.act × AllNamed (after setup s e) es

  pub held_after : (s : State) (es : List Entry) → IsFresh s → IsRunFrom setup s es → AllNamed s es → AreLater before es → NoneOf (is_accept_of reset) es → NoneOf (is_complete_of reset) es
      → Held reset (There dev) (busy_in setup dev before at s) s → Held reset (There dev) (busy_in setup dev before at (after_all setup s es)) (after_all setup s es)
  held_after s [] fresh run named new a c h = h
  held_after s (e ∷ es) fresh run named new a c h =
      held_after (after setup s e) es (fresh_after setup s e fresh run.0) run.1 named.1 new.1 a.1 c.1
      (held_on setup s e reset (There dev) (busy_in setup dev before at s) (busy_in setup dev before at (after setup s e)) fresh run.0 (completes_is reset e.act c.0) h named.0
      (λ d same k b. not_busy setup dev before at (part_of s e.thread) (at e.thread) (subst (λ (x : DevId). is_drained setup (part_of s e.thread) x Drain ≡ true) same k) b)
      (accepting_none reset (There dev) e.act a.0).0 (fewer_busy setup dev before at s e fresh run.0 new.0))

  -- at its Complete nobody is busy
  pub quiet_at : (s : State) (e : Entry) → refusal setup s e ≡ None → is_complete_of reset e.act ≡ true → IsBareIn reset s → Held reset (There dev) (busy_in setup dev before at s) s → Quiet reset (There dev) (busy_in setup dev before at s)
  quiet_at s e allowed is bare held = go e.act refl is
    where
      finished : (stage : Stage) (threads : ThreadSet) → is_finished_stage stage ≡ true → AtStage reset (There dev) (busy_in setup dev before at s) stage threads → Quiet reset (There dev) (busy_in setup dev before at s)
      finished stages.Finished threads h a = a
      finished stages.Queued threads h a = cc
      finished stages.Freezing threads h a = cc
      finished stages.Draining threads h a = cc
      finished stages.Drained threads h a = cc
      finished stages.Thawing threads h a = cc
      finished stages.Thawed threads h a = cc

      by_rows : (rows : List Resetting) → RowsFine reset (There dev) (busy_in setup dev before at s) e.thread rows → is_finished (first_row rows) ≡ true → Quiet reset (There dev) (busy_in setup dev before at s)
      by_rows [] r h = cc
      by_rows (x ∷ []) r h = finished x.stage x.threads h r.2
      by_rows (x ∷ y ∷ xs) r h = absurd r

      go : (act : Act) → e.act ≡ act → is_complete_of reset act ≡ true → Quiet reset (There dev) (busy_in setup dev before at s)
      go (acts.Complete req status shown) f is =
          let same : req ≡ reset = request_same.exact req reset is in
          let f' : e.act ≡ acts.Complete reset status shown = f ∙ ap (λ (q : ReqId). acts.Complete q status shown) same in
          by_rows (mine reset (part_of s e.thread).resets) (held.rows e.thread) (sym (ap is_finished (found_first reset (part_of s e.thread).resets)) ∙ finished_at reset setup s e status shown allowed f' bare)
      go _ f is = cc
