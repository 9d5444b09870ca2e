-- A thread's open requests stand on handles that it has open, and on no base handle.
use Rattle.std.proofs.Common.{◌≡◌, ℕ, suc, Bool, true, false, cond, not, ◌&&◌, ◌||◌, ◌==◌, List, [], ◌∷◌, ◌++◌, length, map, Option, Some, None, is_none, refl, sym, ◌∙◌, ap, subst, eqb-true, arith}
use Rattle.std.specs.List.{AllByRecursion, filter, find, list_any, count_by}
use Rattle.std.proofs.lemmas.Bool.{and_parts, and_from}
use Rattle.std.proofs.lemmas.List.Sums.{length-filter}
use Rattle.bd_base.specs.Name.{same_name}
use Rattle.bd_base.specs.declared.act.Act.{Act}
use Rattle.bd_base.specs.declared.act.Act.TheVariants as acts
use Rattle.bd_base.specs.declared.event.Answer.{Answer}
use Rattle.bd_base.specs.declared.event.Answer.TheVariants as answers
use Rattle.bd_base.specs.declared.event.ClaimKind.{ClaimKind}
use Rattle.bd_base.specs.declared.event.RegEvent.{RegEvent}
use Rattle.bd_base.specs.declared.event.RegEvent.TheVariants as events
use Rattle.bd_base.specs.declared.id.DevId.{DevId}
use Rattle.bd_base.specs.declared.id.HandleId.{HandleId}
use Rattle.bd_base.specs.declared.id.ReqId.{ReqId}
use Rattle.bd_base.specs.declared.job.Job.{Job}
use Rattle.bd_base.specs.declared.job.Job.TheVariants as jobs
use Rattle.bd_base.specs.declared.request.Errno.TheVariants.{NoDev}
use Rattle.bd_base.specs.declared.request.Op.{Op}
use Rattle.bd_base.specs.declared.setup.Setup.{Setup}
use Rattle.bd_machine.specs.declared.state.Between.{Between}
use Rattle.bd_machine.specs.declared.state.Between.TheVariants.{Opening, Closing}
use Rattle.bd_machine.specs.declared.state.Binding.{Binding}
use Rattle.bd_machine.specs.declared.state.Handle.{Handle}
use Rattle.bd_machine.specs.declared.state.Open.{Open}
use Rattle.bd_machine.specs.declared.state.Owed.{Owed}
use Rattle.bd_machine.specs.declared.state.Owed.TheVariants as owes
use Rattle.bd_machine.specs.declared.state.Part.{Part}
use Rattle.bd_machine.specs.declared.state.State.{State}
use Rattle.bd_machine.specs.Admission.{refusal_on, is_removed_handle}
use Rattle.bd_machine.specs.Alone.{own_handles_after}
use Rattle.bd_machine.specs.Asked.{asks_between, asks_submission, is_job_submit, undecided_job, bound_to, handle_bound, op_asked, open_on, may_close, is_handle_on, is_close_on}
use Rattle.bd_machine.specs.Changes.{handles_after, with_claim}
use Rattle.bd_machine.specs.Guards.{guards}
use Rattle.bd_machine.specs.Registry.{handle_of, is_own}
use Rattle.bd_machine.specs.Requests.{is_device_of}
use Rattle.bd_machine.specs.Same.{same_dev, same_handle, same_owed, same_op, same_request, same_if_any}
use Rattle.bd_machine.specs.Step.{guards_in}
use Rattle.bd_machine.specs.Users.{is_base_handle}
use Rattle.bd_machine.specs.View.{View, Came, view, came_for, asked, is_of}
use Rattle.bd_machine.proofs.Acts.{Passes, passed}
use Rattle.bd_law_runs.proofs.Counted.{no_and, may_close_is}
use Rattle.bd_law_runs.proofs.Fields.{requests_after}
use Rattle.bd_law_runs.proofs.Names.{BoundFine, OwedFine, FineNames}

differ : {b : Bool} → b ≡ true → b ≡ false → ⊥
differ h k = let e : true ≡ false = sym h ∙ k in cc

-- ---- lists

pub any_more : {X : Type 0} (is : X → Bool) (xs : List X) (x : X) → list_any is xs ≡ true → list_any is (xs ++ x ∷ []) ≡ true
any_more is [] x h = cc
any_more is (y ∷ ys) x h = go (is y) h (any_more is ys x)
  where
    go : (b : Bool) → (b || list_any is ys) ≡ true → (list_any is ys ≡ true → list_any is (ys ++ x ∷ []) ≡ true) → (b || list_any is (ys ++ x ∷ [])) ≡ true
    go true h ih = refl
    go false h ih = ih h

pub any_kept : {X : Type 0} (is keep : X → Bool) → ((x : X) → is x ≡ true → keep x ≡ true) → (xs : List X) → list_any is xs ≡ true → list_any is (filter keep xs) ≡ true
any_kept is keep k [] h = h
any_kept is keep k (x ∷ xs) h = go (is x) (keep x) refl refl h (any_kept is keep k xs)
  where
    or_right : (a : Bool) → list_any is (filter keep xs) ≡ true → (a || list_any is (filter keep xs)) ≡ true
    or_right true r = refl
    or_right false r = r

    go : (a b : Bool) → is x ≡ a → keep x ≡ b → (a || list_any is xs) ≡ true → (list_any is xs ≡ true → list_any is (filter keep xs) ≡ true) → list_any is (cond b (x ∷ filter keep xs) (filter keep xs)) ≡ true
    go true true e f h rest = ap (λ c. c || list_any is (filter keep xs)) e
    go true false e f h rest = absurd (differ (k x e) f)
    go false true e f h rest = or_right (is x) (rest h)
    go false false e f h rest = rest h

any_map : {X : Type 0} (is : X → Bool) (f : X → X) → ((x : X) → is (f x) ≡ is x) → (xs : List X) → list_any is (map f xs) ≡ list_any is xs
any_map is f same [] = refl
any_map is f same (x ∷ xs) = ap (λ b. b || list_any is (map f xs)) (same x) ∙ ap (λ b. is x || b) (any_map is f same xs)

-- ---- requests and handles

module _ (setup : Setup) where
  -- its handle is among these, and is no base handle
  abbrev pub HasHandle : List Handle → Open → Type 0
  HasHandle hs o = (list_any (λ (h : Handle). same_handle h.id o.handle && same_dev h.dev o.dev) hs ≡ true) × (is_base_handle setup o.handle ≡ false)

  abbrev pub RowsOpen : List Handle → List Open → Type 0
  RowsOpen hs rows = AllByRecursion (λ (o : Open). HasHandle hs o) rows

  rows_weaker : (hs gs : List Handle) → ((o : Open) → list_any (λ (h : Handle). same_handle h.id o.handle && same_dev h.dev o.dev) hs ≡ true → list_any (λ (h : Handle). same_handle h.id o.handle && same_dev h.dev o.dev) gs ≡ true) → (rows : List Open) → RowsOpen hs rows → RowsOpen gs rows
  rows_weaker hs gs f [] h = tt
  rows_weaker hs gs f (o ∷ os) h = ((f o h.0.0, h.0.1), rows_weaker hs gs f os h.1)

  -- no request stands on this handle
  abbrev NoneOn : HandleId → List Open → Type 0
  NoneOn id rows = AllByRecursion (λ (o : Open). same_handle o.handle id ≡ false) rows

  none_left : (id : HandleId) (rows : List Open) → length (filter (λ r. same_handle r.handle id) rows) ≡ 0 → NoneOn id rows
  none_left id [] h = tt
  none_left id (o ∷ os) h = (first (same_handle o.handle id) h, none_left id os (rest (same_handle o.handle id) h))
    where
      none : (n : ℕ) → suc n ≡ 0 → ⊥
      none n e = omega arith

      first : (b : Bool) → length (cond b (o ∷ filter (λ r. same_handle r.handle id) os) (filter (λ r. same_handle r.handle id) os)) ≡ 0 → b ≡ false
      first true h = absurd (none (length (filter (λ r. same_handle r.handle id) os)) h)
      first false h = refl

      rest : (b : Bool) → length (cond b (o ∷ filter (λ r. same_handle r.handle id) os) (filter (λ r. same_handle r.handle id) os)) ≡ 0 → length (filter (λ r. same_handle r.handle id) os) ≡ 0
      rest true h = absurd (none (length (filter (λ r. same_handle r.handle id) os)) h)
      rest false h = h

  none_open : (id : HandleId) (rows : List Open) → count_by (λ r. same_handle r.handle id) rows ≡ 0 → NoneOn id rows
  none_open id rows h = none_left id rows (length-filter (λ (r : Open). same_handle r.handle id) rows ∙ h)

  -- none stands on a base handle
  none_on_base : (id : HandleId) (hs : List Handle) (rows : List Open) → is_base_handle setup id ≡ true → RowsOpen hs rows → NoneOn id rows
  none_on_base id hs [] b h = tt
  none_on_base id hs (o ∷ os) b h = (go (same_handle o.handle id) refl, none_on_base id hs os b h.1)
    where
      go : (q : Bool) → same_handle o.handle id ≡ q → q ≡ false
      go true e =
          let same : o.handle ≡ id = ap (λ (n : ℕ). let i : HandleId = record { 0 = n } in i) (eqb-true o.handle.0 id.0 e) in
          absurd (differ b (subst (λ (i : HandleId). is_base_handle setup i ≡ false) same h.0.1))
      go false e = refl

  rows_closed : (t : ℕ) (id : HandleId) (hs : List Handle) (rows : List Open) → NoneOn id rows → RowsOpen hs rows → RowsOpen (filter (λ h. not (is_own t id h)) hs) rows
  rows_closed t id hs [] n h = tt
  rows_closed t id hs (o ∷ os) n h = ((any_kept (λ (h : Handle). same_handle h.id o.handle && same_dev h.dev o.dev) (λ h. not (is_own t id h)) stays hs h.0.0, h.0.1), rows_closed t id hs os n.1 h.1)
    where
      no_first : (a b : Bool) → a ≡ false → not (a && b) ≡ true
      no_first true b e = cc
      no_first false b e = refl

      stays : (h : Handle) → (same_handle h.id o.handle && same_dev h.dev o.dev) ≡ true → not (is_own t id h) ≡ true
      stays x e =
          let same : x.id.0 ≡ o.handle.0 = eqb-true x.id.0 o.handle.0 (and_parts (same_handle x.id o.handle) (same_dev x.dev o.dev) e).0 in
          no_first (same_handle x.id id) (x.thread.0 == t) (ap (λ (m : ℕ). m == id.0) same ∙ n.0)

  -- what is closed as owed is a base handle
  owed_base : (t : ℕ) (id : HandleId) (rows : List Owed) → OwedFine setup t rows → list_any (same_owed (owes.Close id)) rows ≡ true → is_base_handle setup id ≡ true
  owed_base t id [] f h = cc
  owed_base t id (x ∷ xs) f h = go (same_owed (owes.Close id) x) refl h (owed_base t id xs f.1)
    where
      by : (x : Owed) → same_owed (owes.Close id) x ≡ true → OwedFine setup t (x ∷ []) → is_base_handle setup id ≡ true
      by (owes.Close i) e g = subst (λ (j : HandleId). is_base_handle setup j ≡ true) (ap (λ (n : ℕ). let j : HandleId = record { 0 = n } in j) (sym (eqb-true id.0 i.0 e))) g.0
      by (owes.Drop i) e g = cc
      by (owes.Destruct i) e g = cc
      by (owes.Report i) e g = cc
      by (owes.Put i) e g = cc
      by (owes.Remove i) e g = cc
      by (owes.Grow i n) e g = cc
      by (owes.EndResize i) e g = cc

      go : (b : Bool) → same_owed (owes.Close id) x ≡ b → (b || list_any (same_owed (owes.Close id)) xs) ≡ true → (list_any (same_owed (owes.Close id)) xs ≡ true → is_base_handle setup id ≡ true) → is_base_handle setup id ≡ true
      go true e h rest = by x e (f.0, tt)
      go false e h rest = rest h

  -- ---- an Accept

  bound_open : (t : ℕ) (part : Part) (name : List ℕ) (id : HandleId) → BoundFine setup t part.bound → same_if_any same_handle (Some id) (bound_to part name) ≡ true → is_base_handle setup id ≡ false
  bound_open t part name id f h = at part.bound f h
    where
      at : (rows : List Binding) → BoundFine setup t rows → same_if_any same_handle (Some id) (handle_bound (find (λ b. same_name b.name name) rows)) ≡ true → is_base_handle setup id ≡ false
      at [] f h = cc
      at (b ∷ bs) f h = go (same_name b.name name) h (at bs f.1)
        where
          go : (q : Bool) → same_if_any same_handle (Some id) (handle_bound (cond q (Some b) (find (λ b. same_name b.name name) bs))) ≡ true
              → (same_if_any same_handle (Some id) (handle_bound (find (λ b. same_name b.name name) bs)) ≡ true → is_base_handle setup id ≡ false) → is_base_handle setup id ≡ false
          go true h rest = subst (λ (j : HandleId). is_base_handle setup j ≡ false) (ap (λ (n : ℕ). let j : HandleId = record { 0 = n } in j) (sym (eqb-true id.0 b.handle.0 h))) f.0
          go false h rest = rest h

  submit_bound : (t : ℕ) (part : Part) (id : HandleId) (op : Op) (lba count : ℕ) (job : Option Job) → BoundFine setup t part.bound → is_job_submit part (Some id) op lba count job ≡ true → is_base_handle setup id ≡ false
  submit_bound t part id op lba count (Some (jobs.Submit handle o l c)) f h =
      bound_open t part handle id f
      (and_parts (same_if_any same_handle (Some id) (bound_to part handle)) (same_op (op_asked part (Some id) o) op)
      (and_parts (same_if_any same_handle (Some id) (bound_to part handle) && same_op (op_asked part (Some id) o) op) (l == lba)
      (and_parts (same_if_any same_handle (Some id) (bound_to part handle) && same_op (op_asked part (Some id) o) op && (l == lba)) (c == count) h).0).0).0
  submit_bound t part id op lba count (Some (jobs.Open handle d w)) f h = cc
  submit_bound t part id op lba count (Some (jobs.Close handle)) f h = cc
  submit_bound t part id op lba count (Some (jobs.Claim handle k)) f h = cc
  submit_bound t part id op lba count (Some (jobs.Remove d)) f h = cc
  submit_bound t part id op lba count (Some jobs.Wait) f h = cc
  submit_bound t part id op lba count (Some (jobs.Sleep m)) f h = cc
  submit_bound t part id op lba count (Some (jobs.Post m)) f h = cc
  submit_bound t part id op lba count (Some (jobs.Await m)) f h = cc
  submit_bound t part id op lba count (Some (jobs.Gone handle)) f h = cc
  submit_bound t part id op lba count (Some (jobs.Resize d n)) f h = cc
  submit_bound t part id op lba count (Some (jobs.Sized handle n)) f h = cc
  submit_bound t part id op lba count None f h = cc

  found_any : (id : HandleId) (dev : DevId) (hs : List Handle) (x : Handle) → handle_of hs id ≡ Some x → same_dev x.dev dev ≡ true → list_any (λ (h : Handle). same_handle h.id id && same_dev h.dev dev) hs ≡ true
  found_any id dev [] x e d = cc
  found_any id dev (h ∷ hs) x e d = go (same_handle h.id id) refl e (λ k. found_any id dev hs x k d)
    where
      or_right : (b : Bool) → list_any (λ (h : Handle). same_handle h.id id && same_dev h.dev dev) hs ≡ true → (b || list_any (λ (h : Handle). same_handle h.id id && same_dev h.dev dev) hs) ≡ true
      or_right true k = refl
      or_right false k = k

      go : (q : Bool) → same_handle h.id id ≡ q → cond q (Some h) (handle_of hs id) ≡ Some x → (handle_of hs id ≡ Some x → list_any (λ (h : Handle). same_handle h.id id && same_dev h.dev dev) hs ≡ true)
          → ((same_handle h.id id && same_dev h.dev dev) || list_any (λ (h : Handle). same_handle h.id id && same_dev h.dev dev) hs) ≡ true
      go true f e rest =
          let same : h ≡ x = cc in
          ap (λ b. b || list_any (λ (h : Handle). same_handle h.id id && same_dev h.dev dev) hs) (and_from (same_handle h.id id) (same_dev h.dev dev) f (subst (λ (y : Handle). same_dev y.dev dev ≡ true) (sym same) d))
      go false f e rest = or_right (same_handle h.id id && same_dev h.dev dev) (rest e)

  accept_has : (t : ℕ) (v : View) (came : Came) (req : ReqId) (dev : DevId) (handle : HandleId) (op : Op) (lba count : ℕ) → FineNames setup t v.part → Passes (guards setup t v (acts.Accept dev lba handle req op count) came)
      → HasHandle v.handles (record { id = req; handle = handle; dev = dev; op = op })
  accept_has t v came req dev handle op lba count f h =
      let ok = passed (guards setup t v (acts.Accept dev lba handle req op count) came) h in
      let p = and_parts (asks_submission setup t v came (Some handle) op lba count) (is_device_of dev (handle_of v.handles handle)) ok.0 in
      let q = and_parts (not came.shut) (is_job_submit v.part (Some handle) op lba count (undecided_job setup t v.part)) p.0 in
      (go (handle_of v.handles handle) refl p.1 (admitted (is_removed_handle setup v handle) ok.1.0), submit_bound t v.part handle op lba count (undecided_job setup t v.part) f.0 q.1)
    where
      admitted : (b : Bool) → is_none (cond b (Some NoDev) (refusal_on setup v.part (handle_of v.handles handle) op lba count)) ≡ true → is_none (refusal_on setup v.part (handle_of v.handles handle) op lba count) ≡ true
      admitted true k = cc
      admitted false k = k

      go : (o : Option Handle) → handle_of v.handles handle ≡ o → is_device_of dev o ≡ true → is_none (refusal_on setup v.part o op lba count) ≡ true → list_any (λ (h : Handle). same_handle h.id handle && same_dev h.dev dev) v.handles ≡ true
      go None e d k = cc
      go (Some x) e d k = found_any handle dev v.handles x e d

  -- ---- acts

  rows_push : (hs : List Handle) (rows : List Open) (o : Open) → RowsOpen hs rows → HasHandle hs o → RowsOpen hs (rows ++ o ∷ [])
  rows_push hs [] o h k = (k, tt)
  rows_push hs (x ∷ xs) o h k = (h.0, rows_push hs xs o h.1 k)

  rows_filter : (hs : List Handle) (keep : Open → Bool) (rows : List Open) → RowsOpen hs rows → RowsOpen hs (filter keep rows)
  rows_filter hs keep [] h = tt
  rows_filter hs keep (x ∷ xs) h = go (keep x) (rows_filter hs keep xs h.1)
    where
      go : (b : Bool) → RowsOpen hs (filter keep xs) → RowsOpen hs (cond b (x ∷ filter keep xs) (filter keep xs))
      go true k = (h.0, k)
      go false k = k

  claim_leaves : (t : ℕ) (id : HandleId) (kind : ClaimKind) (o : Open) (x : Handle) → (same_handle (cond (is_own t id x) (with_claim kind x) x).id o.handle && same_dev (cond (is_own t id x) (with_claim kind x) x).dev o.dev) ≡ (same_handle x.id o.handle && same_dev x.dev o.dev)
  claim_leaves t id kind o x = go (is_own t id x)
    where
      go : (b : Bool) → (same_handle (cond b (with_claim kind x) x).id o.handle && same_dev (cond b (with_claim kind x) x).dev o.dev) ≡ (same_handle x.id o.handle && same_dev x.dev o.dev)
      go true = refl
      go false = refl

  rows_event : (s : State) (t : ℕ) (came : Came) (event : RegEvent) (a : Answer) → FineNames setup t (view s t).part → asks_between setup t (view s t) came event s.registry.between ≡ true
      → RowsOpen (view s t).handles (view s t).part.requests → RowsOpen (handles_after t (view s t).handles event a) (view s t).part.requests
  rows_event s t came (events.Open name write) (answers.Opened id d blocks) f q h =
      rows_weaker (view s t).handles ((view s t).handles ++ new ∷ []) (λ o k. any_more (λ (h : Handle). same_handle h.id o.handle && same_dev h.dev o.dev) (view s t).handles new k) (view s t).part.requests h
    where
      new : Handle
      new = record { id = id; dev = d; thread = record { 0 = t }; write = write; claim = None; blocks = blocks }
  rows_event s t came (events.Claim id kind) answers.Claimed f q h =
      rows_weaker (view s t).handles (map (λ x. cond (is_own t id x) (with_claim kind x) x) (view s t).handles)
      (λ o k. any_map (λ (h : Handle). same_handle h.id o.handle && same_dev h.dev o.dev) (λ x. cond (is_own t id x) (with_claim kind x) x) (claim_leaves t id kind o) (view s t).handles ∙ k) (view s t).part.requests h
  rows_event s t came (events.Close id) (answers.Closed destruct) f q h = rows_closed t id (view s t).handles (view s t).part.requests (none s.registry.between q) h
    where
      none : (o : Option Between) → asks_between setup t (view s t) came (events.Close id) o ≡ true → NoneOn id (view s t).part.requests
      none None q = none_on_base id (view s t).handles (view s t).part.requests (owed_base t id (view s t).part.owed f.2 q) h
      none (Some (Opening u d)) q = absurd (no_and (u == t) q)
      none (Some (Closing u d)) q =
          let k = (and_parts (u == t) (is_close_on setup t (view s t) came d (events.Close id)) q).1 in
          let m = (and_parts (is_handle_on d (handle_of (filter (is_of t) s.registry.handles) id)) (may_close setup t (view s t) came id) k).1 in
          none_open id (view s t).part.requests (eqb-true (open_on (view s t).part id) 0 (may_close_is setup t (view s t) came id m).1.1)
  rows_event s t came _ _ f q h = h

  -- an act leaves each open request its handle
  pub rows_act : (s : State) (t : ℕ) (act : Act) → FineNames setup t (view s t).part → Passes (guards_in setup s t act) → RowsOpen (view s t).handles (view s t).part.requests
      → RowsOpen (own_handles_after t (view s t).handles (asked act)) (requests_after act (view s t).part.requests)
  rows_act s t (acts.Accept dev lba handle req op count) f p h =
      rows_push (view s t).handles (view s t).part.requests (record { id = req; handle = handle; dev = dev; op = op }) h (accept_has t (view s t) (came_for setup s t (acts.Accept dev lba handle req op count)) req dev handle op lba count f p)
  rows_act s t (acts.Complete req status shown) f p h = rows_filter (view s t).handles (λ r. not (same_request r.id req)) (view s t).part.requests h
  rows_act s t (acts.Reg event a) f p h = rows_event s t (came_for setup s t (acts.Reg event a)) event a f (passed (guards_in setup s t (acts.Reg event a)) p).1.0 h
  rows_act s t _ f p h = h
