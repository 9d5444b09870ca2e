-- What every state of a run keeps of handles, channels and open requests.
use Rattle.std.proofs.Common.{◌≡◌, ℕ, ◌+◌, ◌-◌, ◌≤◌, Bool, true, false, ◌&&◌, ◌==◌, ◌⊎◌, inl, inr, List, length, Option, Some, None, refl, sym, ◌∙◌, ap, subst, eqb-true, eq-eqb, ne_eqb, arith, le_refl}
use Rattle.std.specs.List.{filter}
use Rattle.std.proofs.lemmas.Bool.{and_parts, cases_eq}
use Rattle.bd_base.specs.declared.act.Act.{Act}
use Rattle.bd_base.specs.declared.act.Act.TheVariants as acts
use Rattle.bd_base.specs.declared.act.Entry.{Entry}
use Rattle.bd_base.specs.declared.event.Answer.{Answer}
use Rattle.bd_base.specs.declared.event.RegEvent.{RegEvent}
use Rattle.bd_base.specs.declared.event.RegEvent.TheVariants as events
use Rattle.bd_base.specs.declared.id.DevId.{DevId}
use Rattle.bd_base.specs.declared.request.WalkKind.TheVariants.{Removal}
use Rattle.bd_base.specs.declared.setup.Setup.{Setup}
use Rattle.bd_machine.specs.declared.state.Between.{Between}
use Rattle.bd_machine.specs.declared.state.Between.TheVariants.{Opening, Closing}
use Rattle.bd_machine.specs.declared.state.Handle.{Handle}
use Rattle.bd_machine.specs.declared.state.Open.{Open}
use Rattle.bd_machine.specs.declared.state.Registry.{Registry}
use Rattle.bd_machine.specs.declared.state.State.{State}
use Rattle.bd_machine.specs.Alone.{counts_by, own_handles_after, own_channels_after}
use Rattle.bd_machine.specs.Asked.{asks_between, is_get_of, is_close_on}
use Rattle.bd_machine.specs.Changes.{registry_after, handles_after, counts_after}
use Rattle.bd_machine.specs.Laws.{one_if}
use Rattle.bd_machine.specs.Registry.{Question, references}
use Rattle.bd_machine.specs.Same.{same_dev}
use Rattle.bd_machine.specs.Step.{guards_in, change_in, refusal, after}
use Rattle.bd_machine.specs.Users.{firsts}
use Rattle.bd_machine.specs.View.{View, Came, view, came_for, part_of, asked, is_of}
use Rattle.bd_machine.proofs.Acts.{Passes, passed, IsFresh}
use Rattle.bd_machine.proofs.Steps.{allowed_passes, part_is, part_stays, own, frame}
use Rattle.bd_machine.specs.BlockMap.{StandsOnEarlier}
use Rattle.bd_law_runs.proofs.Channels.{Covered}
use Rattle.bd_law_runs.proofs.Counted.{InOrder, LiveFine, Spends, pending, users_on, weaker, covered_event}
use Rattle.bd_law_runs.proofs.Credits.{Credit, credit_after, credit_pays, is_put_by_home, registry_is}
use Rattle.bd_law_runs.proofs.Facts.{event_fine, order_event, next_event, live_event}
use Rattle.bd_law_runs.proofs.Fields.{requests_are}
use Rattle.bd_law_runs.proofs.Names.{FineNames, ActFine, act_tame, visit_fine}
use Rattle.bd_law_runs.proofs.Opened.{RowsOpen, rows_act}

-- handles are numbered in order, names and requests stand on none of a base, and each open request's handle is open
pub record Fit (setup : Setup) (s : State) : Type 0 where
  pub order : InOrder 0 s.registry.handles s.registry.next
  pub next : length (firsts setup) ≤ s.registry.next
  pub live : LiveFine setup s.registry s.registry.between
  pub names : (t : ℕ) → FineNames setup t (part_of s t)
  pub rows : (t : ℕ) → RowsOpen setup (filter (is_of t) s.registry.handles) (part_of s t).requests

-- a thread's references: one for each handle, each channel above, and the put of a limited device's home
pub record Counts (setup : Setup) (t : ℕ) (s : State) : Type 0 where
  pub extra : DevId → ℕ
  pub covered : Covered setup (λ d. users_on setup (filter (is_of t) s.registry.handles) d + extra d) (references s.registry t) (pending s.registry.between t)
  pub credit : (d : DevId) → Credit setup t d s (extra d)

module _ (setup : Setup) (s : State) (e : Entry) (fresh : IsFresh s) (allowed : refusal setup s e ≡ None) (fit : Fit setup s) where
  passes : Passes (guards_in setup s e.thread e.act)
  passes = allowed_passes setup s e allowed

  act_fine_of : (act : Act) → Passes (guards_in setup s e.thread act) → ActFine setup e.thread act
  act_fine_of (acts.Reg event a) p = event_fine setup s.registry e.thread event a fit.next (passed (guards_in setup s e.thread (acts.Reg event a)) p).0
  act_fine_of _ p = tt

  act_fine : ActFine setup e.thread e.act
  act_fine = act_fine_of e.act passes

  -- ---- the registry

  order_of : (act : Act) → Passes (guards_in setup s e.thread act) → InOrder 0 (registry_after setup s.registry e.thread (asked act)).handles (registry_after setup s.registry e.thread (asked act)).next
  order_of (acts.Reg event a) p = order_event setup s.registry e.thread event a (passed (guards_in setup s e.thread (acts.Reg event a)) p).0 fit.order
  order_of _ p = fit.order

  next_of : (act : Act) → length (firsts setup) ≤ (registry_after setup s.registry e.thread (asked act)).next
  next_of (acts.Reg event a) = next_event setup s.registry a fit.next
  next_of _ = fit.next

  live_of : (act : Act) → Passes (guards_in setup s e.thread act) → LiveFine setup (registry_after setup s.registry e.thread (asked act)) (registry_after setup s.registry e.thread (asked act)).between
  live_of (acts.Reg event a) p = live_event setup s.registry e.thread event a (passed (guards_in setup s e.thread (acts.Reg event a)) p).0
  live_of _ p = fit.live

  -- ---- names

  names_own : FineNames setup e.thread (change_in setup s e.thread e.act).part
  names_own = go e.act act_fine
    where
      go : (act : Act) → ActFine setup e.thread act → FineNames setup e.thread (change_in setup s e.thread act).part
      go (acts.Visit walk dev Removal) a = visit_fine setup e.thread (view s e.thread) walk dev (came_for setup s e.thread (acts.Visit walk dev Removal)) (fit.names e.thread)
      go act a = (act_tame setup e.thread (view s e.thread) act (came_for setup s e.thread act) a (λ v. v)).fine (fit.names e.thread)

  names_on : (u : ℕ) → FineNames setup u (part_of (after setup s e) u)
  names_on u = go (cases_eq e.thread u)
    where
      go : (e.thread ≡ u) ⊎ (e.thread ≡ u → ⊥) → FineNames setup u (part_of (after setup s e) u)
      go (inl same) = subst (λ (w : ℕ). FineNames setup w (part_of (after setup s e) w)) same (subst (FineNames setup e.thread) (sym (part_is setup s e fresh allowed)) names_own)
      go (inr ne) = subst (FineNames setup u) (sym (part_stays setup s e fresh allowed u ne)) (fit.names u)

  -- ---- requests and handles

  rows_on : (u : ℕ) → RowsOpen setup (filter (is_of u) (after setup s e).registry.handles) (part_of (after setup s e) u).requests
  rows_on u = go (cases_eq e.thread u)
    where
      go : (e.thread ≡ u) ⊎ (e.thread ≡ u → ⊥) → RowsOpen setup (filter (is_of u) (after setup s e).registry.handles) (part_of (after setup s e) u).requests
      go (inl same) =
          subst (λ (w : ℕ). RowsOpen setup (filter (is_of w) (after setup s e).registry.handles) (part_of (after setup s e) w).requests) same
          (subst (λ (v : View). RowsOpen setup v.handles v.part.requests) (sym (own setup s e fresh allowed))
          (subst (λ (rows : List Open). RowsOpen setup (own_handles_after e.thread (view s e.thread).handles (asked e.act)) rows) (sym (requests_are setup e.thread (view s e.thread) e.act (came_for setup s e.thread e.act)))
          (rows_act setup s e.thread e.act (fit.names e.thread) passes (fit.rows e.thread))))
      go (inr ne) = subst (λ (v : View). RowsOpen setup v.handles v.part.requests) (sym (frame setup s e fresh allowed u ne)) (fit.rows u)

  pub fit_after : Fit setup (after setup s e)
  fit_after = record {
    order = subst (λ (r : Registry). InOrder 0 r.handles r.next) (sym (registry_is setup s e)) (order_of e.act passes);
    next = subst (λ (r : Registry). length (firsts setup) ≤ r.next) (sym (registry_is setup s e)) (next_of e.act);
    live = subst (λ (r : Registry). LiveFine setup r r.between) (sym (registry_is setup s e)) (live_of e.act passes);
    names = names_on;
    rows = rows_on;
  }

-- ---- references

module _ (setup : Setup) (ordered : StandsOnEarlier setup) (s : State) (e : Entry) (fresh : IsFresh s) (allowed : refusal setup s e ≡ None) (fit : Fit setup s) (counts : (t : ℕ) → Counts setup t s) where
  may_happen : Passes (guards_in setup s e.thread e.act)
  may_happen = allowed_passes setup s e allowed

  is_fine : ActFine setup e.thread e.act
  is_fine = act_fine setup s e fresh allowed fit

  -- what an entry takes of the puts
  abbrev left_extra : ℕ → (DevId → ℕ) → DevId → ℕ
  left_extra t extra d = extra d - one_if ((e.thread == t) && is_put_by_home d e.act)

  less_is : (a b : ℕ) → a - b ≤ a
  less_is a b = omega arith

  spends : (event : RegEvent) (a : Answer) → e.act ≡ acts.Reg event a → (c : Counts setup e.thread s) → Spends event c.extra (left_extra e.thread c.extra)
  spends event a is c = go event is
    where
      plain : (d : DevId) → left_extra e.thread c.extra d ≤ c.extra d
      plain d = less_is (c.extra d) (one_if ((e.thread == e.thread) && is_put_by_home d e.act))

      by : (d : DevId) (b : Bool) → (b ≡ true → 1 ≤ c.extra d) → c.extra d - one_if (true && b) + one_if b ≤ c.extra d
      by d true h = one (c.extra d) (h refl)
        where
          one : (n : ℕ) → 1 ≤ n → n - 1 + 1 ≤ n
          one n h = omega arith
      by d false h = none (c.extra d)
        where
          none : (n : ℕ) → n - 0 + 0 ≤ n
          none n = omega arith

      put : (dev : DevId) → e.act ≡ acts.Reg (events.PutChannel dev false) a → (d : DevId) → left_extra e.thread c.extra d + one_if (same_dev dev d) ≤ c.extra d
      put dev is d =
          subst (λ (x : Act). c.extra d - one_if ((e.thread == e.thread) && is_put_by_home d x) + one_if (same_dev dev d) ≤ c.extra d) (sym is)
          (subst (λ (b : Bool). c.extra d - one_if (b && same_dev dev d) + one_if (same_dev dev d) ≤ c.extra d) (sym (eq-eqb e.thread e.thread refl))
          (by d (same_dev dev d) (λ on. credit_pays setup e.thread d s e fresh allowed is_fine (c.extra d) (c.credit d) dev a is refl on)))

      go : (event : RegEvent) → e.act ≡ acts.Reg event a → Spends event c.extra (left_extra e.thread c.extra)
      go (events.PutChannel dev false) is = λ d. put dev is d
      go (events.PutChannel dev true) is = plain
      go (events.Open name write) is = plain
      go (events.Close id) is = plain
      go (events.Claim id kind) is = plain
      go (events.GetChannel dev) is = plain
      go (events.DropChannel dev) is = plain
      go (events.BeginRemove name) is = plain
      go (events.BeginReset dev req) is = plain
      go (events.EndReset dev) is = plain
      go (events.FinishReset dev) is = plain
      go (events.TakeInjection dev req op) is = plain
      go (events.Destructed dev) is = plain
      go (events.BeginResize name blocks) is = plain
      go (events.EndResize dev) is = plain

  between_is : (act : Act) → e.act ≡ act → (after setup s e).registry.between ≡ (registry_after setup s.registry e.thread (asked act)).between
  between_is act is = ap (λ (r : Registry). r.between) (registry_is setup s e ∙ ap (λ (x : Act). registry_after setup s.registry e.thread (asked x)) is)

  abbrev CoveredBy : ℕ → (DevId → ℕ) → List Handle → (DevId → Option ℕ) → Option Between → Type 0
  CoveredBy t extra hs refs o = Covered setup (λ d. users_on setup hs d + extra d) refs (pending o t)

  -- the thread's own references
  covered_own : (c : Counts setup e.thread s) → CoveredBy e.thread (left_extra e.thread c.extra) (filter (is_of e.thread) (after setup s e).registry.handles) (references (after setup s e).registry e.thread) (after setup s e).registry.between
  covered_own c =
      subst (λ (v : View). CoveredBy e.thread (left_extra e.thread c.extra) v.handles v.channels (after setup s e).registry.between) (sym (own setup s e fresh allowed)) (go e.act refl may_happen)
    where
      go : (act : Act) → e.act ≡ act → Passes (guards_in setup s e.thread act)
          → CoveredBy e.thread (left_extra e.thread c.extra) (own_handles_after e.thread (view s e.thread).handles (asked e.act)) (own_channels_after setup (view s e.thread).channels (asked e.act)) (after setup s e).registry.between
      go (acts.Reg event a) is p =
          let ok = passed (guards_in setup s e.thread (acts.Reg event a)) p in
          subst (λ (x : Act). CoveredBy e.thread (left_extra e.thread c.extra) (own_handles_after e.thread (view s e.thread).handles (asked x)) (own_channels_after setup (view s e.thread).channels (asked x)) (after setup s e).registry.between) (sym is)
          (subst (λ (o : Option Between). CoveredBy e.thread (left_extra e.thread c.extra) (handles_after e.thread (view s e.thread).handles event a) (counts_by (counts_after setup (references s.registry e.thread) event a) (references s.registry e.thread)) o) (sym (between_is (acts.Reg event a) is))
          (covered_event setup ordered s e.thread (came_for setup s e.thread (acts.Reg event a)) c.extra (left_extra e.thread c.extra) fit.live fit.order event a ok.0 ok.1.0 (spends event a is c) c.covered))
      go act is p = others act is refl
        where
          others : (act : Act) → e.act ≡ act → asked act ≡ None → CoveredBy e.thread (left_extra e.thread c.extra) (own_handles_after e.thread (view s e.thread).handles (asked e.act)) (own_channels_after setup (view s e.thread).channels (asked e.act)) (after setup s e).registry.between
          others act is none =
              subst (λ (q : Option Question). CoveredBy e.thread (left_extra e.thread c.extra) (own_handles_after e.thread (view s e.thread).handles q) (own_channels_after setup (view s e.thread).channels q) (after setup s e).registry.between) (sym (ap asked is ∙ none))
              (subst (λ (o : Option Between). CoveredBy e.thread (left_extra e.thread c.extra) (view s e.thread).handles (view s e.thread).channels o) (sym (between_is act is ∙ ap (λ (q : Option Question). (registry_after setup s.registry e.thread q).between) none))
              (weaker setup (λ d. users_on setup (view s e.thread).handles d + c.extra d) (λ d. users_on setup (view s e.thread).handles d + left_extra e.thread c.extra d) (references s.registry e.thread) (pending s.registry.between e.thread) (pending s.registry.between e.thread)
              (λ d. sum_less (users_on setup (view s e.thread).handles d) (left_extra e.thread c.extra d) (c.extra d) (less_is (c.extra d) (one_if ((e.thread == e.thread) && is_put_by_home d e.act)))) (λ d. le_refl (pending s.registry.between e.thread d)) c.covered))
            where
              sum_less : (a b c : ℕ) → b ≤ c → a + b ≤ a + c
              sum_less a b c h = omega arith

  -- an event of another thread leaves nothing to follow here
  pending_stays : (u : ℕ) → (e.thread ≡ u → ⊥) → (d : DevId) → pending s.registry.between u d ≤ pending (after setup s e).registry.between u d
  pending_stays u ne d = go e.act refl may_happen
    where
      zero_least : (n m : ℕ) → n ≡ 0 → n ≤ m
      zero_least n m h = omega arith

      apart : (w : ℕ) (x : DevId) → (w == e.thread) ≡ true → one_if ((w == u) && same_dev x d) ≡ 0
      apart w x k = ap (λ b. one_if (b && same_dev x d)) (ne_eqb w u (λ f. ne (sym (eqb-true w e.thread k) ∙ f)))

      nothing : (came : Came) (event : RegEvent) (o : Option Between) → asks_between setup e.thread (view s e.thread) came event o ≡ true → pending o u d ≡ 0
      nothing came event None q = refl
      nothing came event (Some (Opening w x)) q = apart w x (and_parts (w == e.thread) (is_get_of x event) q).0
      nothing came event (Some (Closing w x)) q = apart w x (and_parts (w == e.thread) (is_close_on setup e.thread (view s e.thread) came x event) q).0

      others : (act : Act) → e.act ≡ act → asked act ≡ None → pending s.registry.between u d ≤ pending (after setup s e).registry.between u d
      others act is none = subst (λ (o : Option Between). pending s.registry.between u d ≤ pending o u d) (sym (between_is act is ∙ ap (λ (q : Option Question). (registry_after setup s.registry e.thread q).between) none)) (le_refl (pending s.registry.between u d))

      go : (act : Act) → e.act ≡ act → Passes (guards_in setup s e.thread act) → pending s.registry.between u d ≤ pending (after setup s e).registry.between u d
      go (acts.Reg event a) is p =
          zero_least (pending s.registry.between u d) (pending (after setup s e).registry.between u d)
          (nothing (came_for setup s e.thread (acts.Reg event a)) event s.registry.between (passed (guards_in setup s e.thread (acts.Reg event a)) p).1.0)
      go act is p = others act is refl

  covered_other : (u : ℕ) → (e.thread ≡ u → ⊥) → (c : Counts setup u s) → CoveredBy u (left_extra u c.extra) (filter (is_of u) (after setup s e).registry.handles) (references (after setup s e).registry u) (after setup s e).registry.between
  covered_other u ne c =
      subst (λ (v : View). CoveredBy u (left_extra u c.extra) v.handles v.channels (after setup s e).registry.between) (sym (frame setup s e fresh allowed u ne))
      (weaker setup (λ d. users_on setup (view s u).handles d + c.extra d) (λ d. users_on setup (view s u).handles d + left_extra u c.extra d) (references s.registry u) (pending s.registry.between u) (pending (after setup s e).registry.between u)
      (λ d. sum_less (users_on setup (view s u).handles d) (left_extra u c.extra d) (c.extra d) (less_is (c.extra d) (one_if ((e.thread == u) && is_put_by_home d e.act)))) (pending_stays u ne) c.covered)
    where
      sum_less : (a b c : ℕ) → b ≤ c → a + b ≤ a + c
      sum_less a b c h = omega arith

  pub counts_stay : (u : ℕ) → Counts setup u (after setup s e)
  counts_stay u = record {
    extra = left_extra u (counts u).extra;
    covered = go (cases_eq e.thread u);
    credit = λ d. credit_after setup u d s e fresh allowed is_fine ((counts u).extra d) ((counts u).credit d);
  }
    where
      go : (e.thread ≡ u) ⊎ (e.thread ≡ u → ⊥) → CoveredBy u (left_extra u (counts u).extra) (filter (is_of u) (after setup s e).registry.handles) (references (after setup s e).registry u) (after setup s e).registry.between
      go (inl same) = subst (λ (w : ℕ). CoveredBy w (left_extra w (counts w).extra) (filter (is_of w) (after setup s e).registry.handles) (references (after setup s e).registry w) (after setup s e).registry.between) same (covered_own (counts e.thread))
      go (inr ne) = covered_other u ne (counts u)
