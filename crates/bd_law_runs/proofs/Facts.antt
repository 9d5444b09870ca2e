-- What the registry's answers say, and what its events leave of the order of its handles, and of what is live where a channel has to follow.
use Rattle.std.proofs.Common.{◌≡◌, ℕ, suc, ◌+◌, ◌<◌, ◌≤◌, Bool, true, false, cond, not, ◌&&◌, ◌==◌, nat_lt, List, [], ◌∷◌, length, map, Option, Some, None, is_some, refl, sym, ◌∙◌, ap, subst, eqb-true, ltb-true, arith}
use Rattle.std.specs.List.{position, position_or_len}
use Rattle.std.proofs.lemmas.Bool.{and_parts}
use Rattle.bd_base.specs.declared.act.Act.TheVariants as acts
use Rattle.bd_base.specs.declared.event.Answer.{Answer}
use Rattle.bd_base.specs.declared.event.Answer.TheVariants as answers
use Rattle.bd_base.specs.declared.event.ClaimKind.{ClaimKind}
use Rattle.bd_base.specs.declared.event.RegEvent.{RegEvent}
use Rattle.bd_base.specs.declared.event.RegEvent.TheVariants as events
use Rattle.bd_base.specs.declared.id.DevId.{DevId}
use Rattle.bd_base.specs.declared.id.HandleId.{HandleId}
use Rattle.bd_base.specs.declared.request.Errno.{Errno}
use Rattle.bd_base.specs.declared.request.Errno.TheVariants.{NoDev, BadDesc, Inval}
use Rattle.bd_base.specs.declared.setup.Setup.{Setup}
use Rattle.bd_machine.specs.declared.state.Handle.{Handle}
use Rattle.bd_machine.specs.declared.state.Registry.{Registry}
use Rattle.bd_machine.specs.declared.state.Standing.{Standing}
use Rattle.bd_machine.specs.declared.state.Standing.TheVariants as standings
use Rattle.bd_machine.specs.Changes.{handles_after, next_after, between_after, registry_after, with_claim}
use Rattle.bd_machine.specs.Claims.{open_refusal, claim_refusal}
use Rattle.bd_machine.specs.BlockMap.{home}
use Rattle.bd_machine.specs.Registry.{is_own, is_live, is_live_standing, are_live, handle_of, holders_on, device_named, open_answer, close_answer, freed_by_close, claim_answer, refused_or, remove_answer, remove_answer_at, standing_of, handles_on, threads_of, opener_of, if_so, is_unused, is_growing, size_now, resize_answer, resize_refusal, destructed_answer, left_open, is_free, is_last_user, answer_to}
use Rattle.bd_machine.specs.Destruction.{is_removing_of}
use Rattle.std.specs.Cmp.Lexicographic.{pointwise}
use Rattle.bd_machine.specs.Same.{same_threads, same_holder, same_dev, same_handle, same_answer, same_if_any}
use Rattle.bd_machine.specs.Users.{base_handle, firsts, handle_of_number, is_base_handle, shares_handle}
use Rattle.bd_machine.proofs.Tables.{dev_exact}
use Rattle.bd_law_runs.proofs.Counted.{InOrder, LiveFine, order_push, order_filter, order_map, claim_id}
use Rattle.bd_law_runs.proofs.Names.{FreesBase, EventFine}

abbrev Answered : Setup → Registry → ℕ → RegEvent → Answer → Type 0
Answered setup r t event a = same_answer a (answer_to setup r t event) ≡ true

-- ---- an open

-- it names the next number, and a device that is live with all below it
pub opened_is : (setup : Setup) (r : Registry) (write : Bool) (o : Option ℕ) (id : HandleId) (d : DevId) (blocks : ℕ) → same_answer (answers.Opened id d blocks) (open_answer setup r write o) ≡ true → (id.0 ≡ r.next) × (are_live setup r d ≡ true)
opened_is setup r write None id d blocks h = cc
opened_is setup r write (Some m) id d blocks h = go (are_live setup r (record { 0 = m })) refl h
  where
    opened : Answer
    opened = answers.Opened (record { 0 = r.next }) (record { 0 = m }) (size_now setup r (record { 0 = m }))

    refused : (o : Option Errno) → same_answer (answers.Opened id d blocks) (refused_or o opened) ≡ true → (id.0 ≡ r.next) × (same_dev d (record { 0 = m }) ≡ true)
    refused None h = let p = and_parts (id.0 == r.next) (d.0 == m) (and_parts ((id.0 == r.next) && (d.0 == m)) (blocks == size_now setup r (record { 0 = m })) h).0 in (eqb-true id.0 r.next p.0, p.1)
    refused (Some errno) h = cc

    go : (b : Bool) → are_live setup r (record { 0 = m }) ≡ b → same_answer (answers.Opened id d blocks) (cond b (refused_or (open_refusal write (holders_on r (record { 0 = m }))) opened) (answers.Refused NoDev)) ≡ true → (id.0 ≡ r.next) × (are_live setup r d ≡ true)
    go true e h =
        let p = refused (open_refusal write (holders_on r (record { 0 = m }))) h in
        (p.0, subst (λ (x : DevId). are_live setup r x ≡ true) (sym (dev_exact d (record { 0 = m }) p.1)) e)
    go false e h = cc

-- ---- no other event opens

close_opens : (setup : Setup) (r : Registry) (t : ℕ) (id : HandleId) (o : Option Handle) (i : HandleId) (d : DevId) (n : ℕ) → same_answer (answers.Opened i d n) (close_answer setup r t id o) ≡ true → ⊥
close_opens setup r t id None i d n h = cc
close_opens setup r t id (Some x) i d n h = go (x.thread.0 == t) h
  where
    go : (b : Bool) → same_answer (answers.Opened i d n) (cond b (answers.Closed (freed_by_close setup r t id x.dev)) (answers.Refused BadDesc)) ≡ true → ⊥
    go true h = cc
    go false h = cc

claim_opens : (r : Registry) (t : ℕ) (kind : ClaimKind) (o : Option Handle) (i : HandleId) (d : DevId) (n : ℕ) → same_answer (answers.Opened i d n) (claim_answer r t kind o) ≡ true → ⊥
claim_opens r t kind None i d n h = cc
claim_opens r t kind (Some x) i d n h = go (x.thread.0 == t) (is_live r x.dev) (claim_refusal kind x.id.0 (holders_on r x.dev)) h
  where
    go : (a b : Bool) (o : Option Errno) → same_answer (answers.Opened i d n) (cond a (cond b (refused_or o answers.Claimed) (answers.Refused NoDev)) (answers.Refused BadDesc)) ≡ true → ⊥
    go true true None h = cc
    go true true (Some e) h = cc
    go true false o h = cc
    go false b o h = cc

remove_opens : (setup : Setup) (r : Registry) (o : Option ℕ) (i : HandleId) (d : DevId) (blocks : ℕ) → same_answer (answers.Opened i d blocks) (remove_answer setup r o) ≡ true → ⊥
remove_opens setup r None i d blocks h = cc
remove_opens setup r (Some n) i d blocks h = go (standing_of r (record { 0 = n })) h
  where
    go : (x : Standing) → same_answer (answers.Opened i d blocks) (remove_answer_at setup r (record { 0 = n }) x) ≡ true → ⊥
    go standings.Live h = cc
    go standings.Removing h = cc
    go standings.Destructed h = cc

resize_opens : (setup : Setup) (r : Registry) (size : ℕ) (o : Option ℕ) (i : HandleId) (d : DevId) (blocks : ℕ) → same_answer (answers.Opened i d blocks) (resize_answer setup r size o) ≡ true → ⊥
resize_opens setup r size None i d blocks h = cc
resize_opens setup r size (Some n) i d blocks h = go (resize_refusal setup r (record { 0 = n }) size) h
  where
    go : (o : Option Errno) → same_answer (answers.Opened i d blocks) (refused_or o (answers.Resizing (record { 0 = n }) (record { 0 = home setup (record { 0 = n }) }))) ≡ true → ⊥
    go None h = cc
    go (Some e) h = cc

-- what is removed was live
pub removed_live : (setup : Setup) (r : Registry) (o : Option ℕ) (a : Answer) (dev : DevId) → is_removing_of dev (acts.Reg (events.BeginRemove []) a) ≡ true → same_answer a (remove_answer setup r o) ≡ true → is_live r dev ≡ true
removed_live setup r None (answers.Removing d threads handles destruct) dev m h = cc
removed_live setup r (Some n) (answers.Removing d threads handles destruct) dev m h = go (standing_of r (record { 0 = n })) refl h
  where
    go : (x : Standing) → standing_of r (record { 0 = n }) ≡ x → same_answer (answers.Removing d threads handles destruct) (remove_answer_at setup r (record { 0 = n }) x) ≡ true → is_live r dev ≡ true
    go standings.Live e h =
        let p = and_parts (same_dev d (record { 0 = n }) && same_threads threads (threads_of setup r (record { 0 = n })) && pointwise same_holder handles (map opener_of (handles_on r (record { 0 = n }))))
        (same_if_any same_dev destruct (if_so (is_unused (handles_on r (record { 0 = n })) (threads_of setup r (record { 0 = n })) && not (is_growing r (record { 0 = n }))) (record { 0 = n }))) h in
        let q = and_parts (same_dev d (record { 0 = n }) && same_threads threads (threads_of setup r (record { 0 = n }))) (pointwise same_holder handles (map opener_of (handles_on r (record { 0 = n })))) p.0 in
        let k = and_parts (same_dev d (record { 0 = n })) (same_threads threads (threads_of setup r (record { 0 = n }))) q.0 in
        let same : dev ≡ record { 0 = n } = sym (dev_exact d dev m) ∙ dev_exact d (record { 0 = n }) k.0 in
        subst (λ (x : DevId). is_live r x ≡ true) (sym same) (ap is_live_standing e)
    go standings.Removing e h = cc
    go standings.Destructed e h = cc
removed_live setup r o _ dev m h = cc

-- ---- base handles

base_is : (setup : Setup) (o : Option ℕ) (id : HandleId) → handle_of_number o ≡ Some id → (n : ℕ) × ((o ≡ Some n) × (id.0 ≡ n))
base_is setup None id h = cc
base_is setup (Some n) id h = let same : record { 0 = n } ≡ id = cc in (n, (refl, sym (ap (λ (i : HandleId). i.0) same)))

base_handle_is : (setup : Setup) (dev : DevId) (id : HandleId) → base_handle setup dev ≡ Some id → is_base_handle setup id ≡ true
base_handle_is setup dev id h = go (base_is setup (position (shares_handle setup dev) (firsts setup)) id h)
  where
    at : (b : Bool) (k n : ℕ) → nat_lt k (length (firsts setup)) ≡ b → cond b (Some k) None ≡ Some n → nat_lt n (length (firsts setup)) ≡ true
    at true k n e h = let same : k ≡ n = cc in subst (λ (m : ℕ). nat_lt m (length (firsts setup)) ≡ true) same e
    at false k n e h = cc

    go : (n : ℕ) × ((position (shares_handle setup dev) (firsts setup) ≡ Some n) × (id.0 ≡ n)) → is_base_handle setup id ≡ true
    go (n, (e, is)) =
        subst (λ (m : ℕ). nat_lt m (length (firsts setup)) ≡ true) (sym is)
        (at (nat_lt (position_or_len (shares_handle setup dev) (firsts setup)) (length (firsts setup))) (position_or_len (shares_handle setup dev) (firsts setup)) n refl e)

frees_base : (setup : Setup) (t : ℕ) (r : Registry) (dev : DevId) (a : Answer) → same_answer a (destructed_answer setup r dev) ≡ true → FreesBase setup t a
frees_base setup t r dev a h = go (is_free setup r dev) a h
  where
    kept : (b : Bool) (x id : HandleId) → same_if_any same_handle (Some id) (cond b (Some x) None) ≡ true → x ≡ id
    kept true x id h = ap (λ (n : ℕ). let i : HandleId = record { 0 = n } in i) (sym (eqb-true id.0 x.0 h))
    kept false x id h = cc

    by : (o : Option HandleId) (id : HandleId) → base_handle setup dev ≡ o → same_if_any same_handle (Some id) (left_open setup r dev o) ≡ true → is_base_handle setup id ≡ true
    by None id e h = cc
    by (Some x) id e h = base_handle_is setup dev id (e ∙ ap (λ (y : HandleId). Some y) (kept (is_some (handle_of r.handles x) && is_last_user setup r dev x) x id h))

    go : (b : Bool) (a : Answer) → same_answer a (cond b (answers.Freed (left_open setup r dev (base_handle setup dev))) (answers.Refused Inval)) ≡ true → FreesBase setup t a
    go b (answers.Freed (Some id)) h = at b h
      where
        at : (b : Bool) → same_answer (answers.Freed (Some id)) (cond b (answers.Freed (left_open setup r dev (base_handle setup dev))) (answers.Refused Inval)) ≡ true → is_base_handle setup id ≡ true
        at true h = by (base_handle setup dev) id refl h
        at false h = cc
    go b (answers.Freed None) h = tt
    go b _ h = tt

-- a number from the next on is no base handle's
not_base : (setup : Setup) (next : ℕ) (id : HandleId) → length (firsts setup) ≤ next → id.0 ≡ next → is_base_handle setup id ≡ false
not_base setup next id h e = go (nat_lt id.0 (length (firsts setup))) refl
  where
    clash : (a b c : ℕ) → b ≤ c → a ≡ c → a < b → ⊥
    clash a b c h e k = omega arith

    go : (b : Bool) → nat_lt id.0 (length (firsts setup)) ≡ b → b ≡ false
    go true f = absurd (clash id.0 (length (firsts setup)) next h e (ltb-true id.0 (length (firsts setup)) f))
    go false f = refl

pub event_fine : (setup : Setup) (r : Registry) (t : ℕ) (event : RegEvent) (a : Answer) → length (firsts setup) ≤ r.next → Answered setup r t event a → EventFine setup t event a
event_fine setup r t (events.Open name write) (answers.Opened id d blocks) n h = not_base setup r.next id n (opened_is setup r write (device_named setup name) id d blocks h).0
event_fine setup r t (events.Open name write) _ n h = tt
event_fine setup r t (events.Claim id kind) (answers.Opened i d blocks) n h = absurd (claim_opens r t kind (handle_of r.handles id) i d blocks h)
event_fine setup r t (events.Claim id kind) _ n h = tt
event_fine setup r t (events.Close id) (answers.Opened i d blocks) n h = absurd (close_opens setup r t id (handle_of r.handles id) i d blocks h)
event_fine setup r t (events.Close id) _ n h = tt
event_fine setup r t (events.BeginRemove name) (answers.Opened i d blocks) n h = absurd (remove_opens setup r (device_named setup name) i d blocks h)
event_fine setup r t (events.BeginRemove name) _ n h = tt
event_fine setup r t (events.BeginResize name size) (answers.Opened i d blocks) n h = absurd (resize_opens setup r size (device_named setup name) i d blocks h)
event_fine setup r t (events.BeginResize name size) _ n h = tt
event_fine setup r t (events.Destructed dev) a n h = frees_base setup t r dev a h
event_fine setup r t _ a n h = tt

-- ---- the order of handles

order_rises : (lo hi : ℕ) (hs : List Handle) → InOrder lo hs hi → InOrder lo hs (hi + 1)
order_rises lo hi [] h = more lo hi h
  where
    more : (a b : ℕ) → a ≤ b → a ≤ b + 1
    more a b h = omega arith
order_rises lo hi (x ∷ xs) h = (h.0, order_rises (suc x.id.0) hi xs h.1)

pub order_event : (setup : Setup) (r : Registry) (t : ℕ) (event : RegEvent) (a : Answer) → Answered setup r t event a → InOrder 0 r.handles r.next → InOrder 0 (handles_after t r.handles event a) (next_after r.next a)
order_event setup r t (events.Open name write) (answers.Opened id d blocks) h o =
    order_push 0 r.next r.handles (record { id = id; dev = d; thread = record { 0 = t }; write = write; claim = None; blocks = blocks }) (opened_is setup r write (device_named setup name) id d blocks h).0 o
order_event setup r t (events.Close id) (answers.Closed destruct) h o = order_filter (λ x. not (is_own t id x)) 0 r.next r.handles o
order_event setup r t (events.Claim id kind) answers.Claimed h o = order_map (λ x. cond (is_own t id x) (with_claim kind x) x) (claim_id t id kind) 0 r.next r.handles o
order_event setup r t _ (answers.Opened id d blocks) h o = order_rises 0 r.next r.handles o
order_event setup r t _ _ h o = o

pub next_event : (setup : Setup) (r : Registry) (a : Answer) → length (firsts setup) ≤ r.next → length (firsts setup) ≤ next_after r.next a
next_event setup r (answers.Opened id d blocks) h = more (length (firsts setup)) r.next h
  where
    more : (a b : ℕ) → a ≤ b → a ≤ b + 1
    more a b h = omega arith
next_event setup r _ h = h

-- ---- what is live where a channel has to follow

pub live_event : (setup : Setup) (r : Registry) (t : ℕ) (event : RegEvent) (a : Answer) → Answered setup r t event a → LiveFine setup (registry_after setup r t (Some (record { event = event; answer = a }))) (between_after t event a)
live_event setup r t (events.Open name write) (answers.Opened id d blocks) h = (opened_is setup r write (device_named setup name) id d blocks h).1
live_event setup r t (events.PutChannel dev true) (answers.PutDown left) h = tt
live_event setup r t (events.PutChannel dev false) (answers.PutDown left) h = tt
live_event setup r t _ _ h = tt
