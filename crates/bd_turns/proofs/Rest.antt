-- Where all threads are at rest: thread 0 may shut down, and after the Shutdown the run is complete.
use Rattle.std.proofs.Common.{◌≡◌, ℕ, zero, suc, ◌+◌, ◌<◌, ◌≤◌, Bool, true, false, not, cond, ◌&&◌, ◌||◌, ◌==◌, nat_lt, ◌⊎◌, inl, inr, List, [], ◌∷◌, length, get_or, filter, Option, Some, None, is_none, refl, sym, ◌∙◌, ap, subst, eq-eqb, eqb-true, arith}
use Rattle.std.specs.List.{list_any, list_all, range_with_len}
use Rattle.std.proofs.lemmas.Bool.{and_from, and_parts, lt-ltb, cases_lt}
use Rattle.std.proofs.lemmas.List.{get_or_past}
use Rattle.std.proofs.lemmas.Nat.{mod_below}
use Rattle.bd_base.specs.declared.act.Act.TheVariants as acts
use Rattle.bd_base.specs.declared.id.ReqId.{ReqId}
use Rattle.bd_base.specs.declared.setup.Setup.{Setup}
use Rattle.bd_machine.specs.declared.guard.TheConstants.{UNBUILT, IN_ORDER, AT_REST, SCRIPTS_BLOCKED}
use Rattle.bd_machine.specs.declared.state.Handle.{Handle}
use Rattle.bd_machine.specs.declared.state.Id.{Id}
use Rattle.bd_machine.specs.declared.state.Id.TheVariants.{Request, Piece, Walk, Notice}
use Rattle.bd_machine.specs.declared.state.Kept.{Kept}
use Rattle.bd_machine.specs.declared.state.Kept.TheVariants as keeps
use Rattle.bd_machine.specs.declared.state.Part.{Part}
use Rattle.bd_machine.specs.declared.state.Place.{Place}
use Rattle.bd_machine.specs.declared.state.Place.TheVariants.{At, Ring, Nowhere}
use Rattle.bd_machine.specs.declared.state.Registry.{Registry}
use Rattle.bd_machine.specs.declared.state.State.{State}
use Rattle.bd_machine.specs.declared.state.Tracked.{Tracked}
use Rattle.bd_machine.specs.Admission.{is_gone}
use Rattle.bd_machine.specs.Asked.{is_script_blocked, open_on}
use Rattle.bd_machine.specs.BlockMap.{home, base_of}
use Rattle.bd_machine.specs.Lines.{shutdown_at}
use Rattle.bd_machine.specs.Marks.{has_any_mark}
use Rattle.bd_machine.specs.Placement.{place_of}
use Rattle.bd_machine.specs.Rest.{is_ring, is_nothing_due, is_nowhere, is_request, is_walk, are_all_taken, are_all_put, are_all_completed, are_walks_ended, is_nothing_owed, are_all_done, is_left_open, are_gone_closed, is_resting_kept, is_resting_token, are_all_pended, is_at_rest, are_scripts_blocked}
use Rattle.bd_machine.specs.Run.{is_destructed, owes_nothing, is_nothing_left, is_finished}
use Rattle.bd_machine.specs.Same.{same_id, same_dev}
use Rattle.bd_machine.specs.Step.{IsAllowed, is_in_order, after}
use Rattle.bd_machine.specs.Table.{look_up}
use Rattle.bd_machine.specs.Users.{dev_of, is_base_handle}
use Rattle.bd_machine.specs.View.{View, here_of, kept_on, view, part_of, is_of, blank_part}
use Rattle.bd_turns.specs.Laws.{AreAtRest, AreDone, AreBlocked, AreDestructed, ShutdownIsAllowed, RestIsComplete, is_left_open_in, is_resting_here, is_pended_in}
use Rattle.bd_turns.specs.Local.{Shared, Local, local_after}
use Rattle.bd_turns.specs.Tied.{IsQueued, IsPlaced, IsTied}
use Rattle.bd_turns.proofs.Allowed.{all_pass, in_order}
use Rattle.bd_turns.proofs.Keys.{if_token, none_such, all_such}
use Rattle.bd_turns.proofs.Turns.{tied_after, same_view}

-- ---- a test of each

all_parts : (is : Part → Bool) (xs : List Part) → ((i : ℕ) → i < length xs → is (get_or xs i blank_part) ≡ true) → list_all is xs ≡ true
all_parts is [] h = refl
all_parts is (x ∷ xs) h = and_from (is x) (list_all is xs) (h 0 (omega arith)) (all_parts is xs (λ i lt. h (suc i) (omega arith)))

all_numbers : (is : ℕ → Bool) (a n : ℕ) → ((i : ℕ) → i < a + n → is i ≡ true) → list_all is (range_with_len a n) ≡ true
all_numbers is a zero h = refl
all_numbers is a (suc n) h = and_from (is a) (list_all is (range_with_len (a + 1) n)) (h a (omega arith)) (all_numbers is (a + 1) n (λ i lt. h i (omega arith)))

-- ---- what holds of each handle

-- the handle is one that the thread of this part closes by itself
abbrev left_open : Setup → Handle → Part → Bool
left_open setup h p = not (is_base_handle setup h.id) && is_gone p h.id && (open_on p h.id == 0)

-- a test that fails of all that another test lets through fails of a thing that passes it
one_of : {X : Type 0} (of is : X → Bool) (x : X) (xs : List X) → of x ≡ true → list_any is (filter of (x ∷ xs)) ≡ false → is x ≡ false
one_of of is x xs e h = first (is x) (list_any is (filter of xs)) (ap (λ b. list_any is (cond b (x ∷ filter of xs) (filter of xs))) (sym e) ∙ h)
  where
    first : (a b : Bool) → (a || b) ≡ false → a ≡ false
    first true b h = absurd (let y : true ≡ false = h in cc)
    first false b h = refl

rest_of : {X : Type 0} (of is : X → Bool) (x : X) (xs : List X) → list_any is (filter of (x ∷ xs)) ≡ false → list_any is (filter of xs) ≡ false
rest_of {X = X} of is x xs h = go (of x) h
  where
    second : (a b : Bool) → (a || b) ≡ false → b ≡ false
    second true b h = absurd (let y : true ≡ false = h in cc)
    second false b h = h

    go : (c : Bool) → list_any is (cond c (x ∷ filter of xs) (filter of xs)) ≡ false → list_any is (filter of xs) ≡ false
    go true h = second (is x) (list_any is (filter of xs)) h
    go false h = h

-- ---- nothing is under way

module _ (setup : Setup) (s : State) (views : ℕ → View) (shared : Shared) (tied : IsTied setup s views shared) (some : 0 < setup.threads) where
  part_is : (t : ℕ) → t < setup.threads → part_of s t ≡ (views t).part
  part_is t lt = ap (λ (v : View). v.part) (tied.views_are t lt)

  none_past : (t : ℕ) → setup.threads ≤ t → part_of s t ≡ blank_part
  none_past t ge = get_or_past s.parts t blank_part (subst (λ (n : ℕ). n ≤ t) (sym tied.threads_are) ge)

  below : (i : ℕ) → i < length s.parts → i < setup.threads
  below i lt = subst (λ (n : ℕ). i < n) tied.threads_are lt

  -- a home is a thread that exists
  home_lt : (n : ℕ) → home setup (dev_of n) < setup.threads
  home_lt n = mod_below (base_of setup (dev_of n)).0 setup.threads some

  each_part : (is : Part → Bool) → ((t : ℕ) → t < setup.threads → is (views t).part ≡ true) → list_all is s.parts ≡ true
  each_part is h = all_parts is s.parts (λ i lt. ap is (part_is i (below i lt)) ∙ h i (below i lt))

  all_put : ((t : ℕ) → t < setup.threads → (views t).part.due ≡ []) → are_all_put s ≡ true
  all_put h = each_part is_nothing_due (λ t lt. ap (λ ds. length ds == 0) (h t lt))

  module _ (none_queued : (r : ℕ) → shared.queues r ≡ []) where
    -- a token is closed, or on a thread
    located : (P : Place → Bool) (other : Bool) → P Nowhere ≡ other → (id : Id) (p : Place) → IsPlaced setup s shared.queues id p → ((u : ℕ) → p ≡ At u → u < setup.threads → P (At u) ≡ other) → P p ≡ other
    located P other closed id (At u) placed on = on u refl placed
    located P other closed id (Ring a r n) placed on = absurd (subst (IsQueued id r (part_of s r).taken) (none_queued r) placed)
    located P other closed id Nowhere placed on = closed

    not_in_ring : (id : Id) (o : Option Tracked) → IsPlaced setup s shared.queues id (place_of o) → if_token false (λ i token. is_ring token.place) id o ≡ false
    not_in_ring id None placed = refl
    not_in_ring id (Some token) placed = located is_ring false refl id token.place placed (λ u is lt. refl)

    all_taken : are_all_taken s ≡ true
    all_taken = ap not (none_such (λ i token. is_ring token.place) s.tokens tied.keyed (λ id. not_in_ring id (look_up same_id s.tokens id) (tied.placed id)))

    -- what is kept of a token that is on a thread
    kept_here : (u : ℕ) (p : Place) (kept : Kept) → p ≡ At u → kept_on u p kept ≡ Some kept
    kept_here u p kept is = ap (λ (q : Place). kept_on u q kept) is ∙ ap (λ b. cond b (Some kept) None) (eq-eqb u u refl)

    -- what each thread's own test says of its tokens holds of those that aren't closed
    tests : (is : Id → Tracked → Bool) (other : Bool)
        → ((id : Id) (kept : Kept) → is id (record { place = Nowhere; kept = kept }) ≡ other)
        → ((t : ℕ) (id : Id) (kept : Kept) → t < setup.threads → (views t).here id ≡ Some kept → is id (record { place = At t; kept = kept }) ≡ other)
        → (id : Id) → if_token other is id (look_up same_id s.tokens id) ≡ other
    tests is other closed here id = go (look_up same_id s.tokens id) (tied.placed id) (λ t lt. ap (λ (v : View). v.here id) (sym (tied.views_are t lt)))
      where
        go : (o : Option Tracked) → IsPlaced setup s shared.queues id (place_of o) → ((t : ℕ) → t < setup.threads → (views t).here id ≡ here_of t o) → if_token other is id o ≡ other
        go None placed seen = refl
        go (Some token) placed seen =
            located (λ p. is id (record { place = p; kept = token.kept })) other (closed id token.kept) id token.place placed
            (λ u at lt. here u id token.kept lt (seen u lt ∙ kept_here u token.place token.kept at))

  -- ---- at the end

  module _ (rests : AreDone setup views shared) where
    none_open : (is : Id → Bool) → (id : Id) → if_token false (λ i token. is i && not (is_nowhere token.place)) id (look_up same_id s.tokens id) ≡ false
    none_open is id =
        tests rests.none_queued (λ i token. is i && not (is_nowhere token.place)) false
        (λ i kept. and_false (is i))
        (λ t i kept lt h. absurd (differ kept (sym h ∙ rests.none_here t lt i))) id
      where
        and_false : (b : Bool) → (b && false) ≡ false
        and_false true = refl
        and_false false = refl

        differ : {X : Type 0} (x : X) → Some x ≡ None → ⊥
        differ x h = cc

    all_completed : are_all_completed s ≡ true
    all_completed = ap not (none_such (λ i token. is_request i && not (is_nowhere token.place)) s.tokens tied.keyed (none_open is_request))

    walks_ended : are_walks_ended s ≡ true
    walks_ended = ap not (none_such (λ i token. is_walk i && not (is_nowhere token.place)) s.tokens tied.keyed (none_open is_walk))

    nothing_left : is_nothing_left s ≡ true
    nothing_left = each_part owes_nothing (λ t lt. and_from (length (views t).part.due == 0) (length (views t).part.owed == 0) (ap (λ ds. length ds == 0) (rests.none_due t lt)) (ap (λ ds. length ds == 0) (rests.none_owed t lt)))

    all_destructed : AreDestructed setup views → list_all (is_destructed setup s) (range_with_len 0 (length setup.devices)) ≡ true
    all_destructed h =
        all_numbers (is_destructed setup s) 0 (length setup.devices)
        (λ n lt. ap (λ (p : Part). list_any (same_dev (dev_of n)) p.destructed) (part_is (home setup (dev_of n)) (home_lt n)) ∙ h n (omega arith))

    -- **Complete**
    finished : shared.shut ≡ true → AreDestructed setup views → is_finished setup s ≡ true
    finished shut h =
        let d : Bool = list_all (is_destructed setup s) (range_with_len 0 (length setup.devices)) in
        and_from (s.shut && d && are_all_completed s && are_all_taken s && are_walks_ended s) (is_nothing_left s)
        (and_from (s.shut && d && are_all_completed s && are_all_taken s) (are_walks_ended s)
        (and_from (s.shut && d && are_all_completed s) (are_all_taken s)
        (and_from (s.shut && d) (are_all_completed s) (and_from s.shut d (tied.shut_is ∙ shut) (all_destructed h)) all_completed)
        (all_taken rests.none_queued)) walks_ended) nothing_left

  -- ---- at rest

  module _ (rests : AreAtRest setup views shared) where
    no_walk : (id : Id) (kept : Kept) (t : ℕ) → is_resting_here setup t (views t) id (Some kept) ≡ true → is_walk id ≡ false
    no_walk (Request req) kept t h = refl
    no_walk (Piece req k) kept t h = refl
    no_walk (Walk walk) kept t h = absurd (let x : false ≡ true = h in cc)
    no_walk (Notice a b n) kept t h = refl

    here_rests : (t : ℕ) (id : Id) (kept : Kept) → t < setup.threads → (views t).here id ≡ Some kept → is_resting_here setup t (views t) id (Some kept) ≡ true
    here_rests t id kept lt h = subst (λ (o : Option Kept). is_resting_here setup t (views t) id o ≡ true) h (rests.resting t lt id)

    walks_over : are_walks_ended s ≡ true
    walks_over = ap not (none_such (λ i token. is_walk i && not (is_nowhere token.place)) s.tokens tied.keyed
        (tests rests.none_queued (λ i token. is_walk i && not (is_nowhere token.place)) false
        (λ i kept. and_false (is_walk i))
        (λ t i kept lt h. ap (λ b. b && true) (no_walk i kept t (here_rests t i kept lt h)))))
      where
        and_false : (b : Bool) → (b && false) ≡ false
        and_false true = refl
        and_false false = refl

    pended_by : (t : ℕ) (req : ReqId) (kept : Kept) → t < setup.threads → req.thread ≡ t → is_pended_in setup (views t) kept ≡ true → is_resting_kept setup s req kept ≡ true
    pended_by t req (keeps.Request r) lt is h =
        let pended : Part → Type 0 = λ p. (r.pended && is_none r.aborted && not (has_any_mark setup p r.dev)) ≡ true in
        subst pended (sym (ap (part_of s) is ∙ part_is t lt)) h
    pended_by t req (keeps.Piece p) lt is h = refl
    pended_by t req (keeps.Walk w) lt is h = refl
    pended_by t req (keeps.Notice n) lt is h = refl

    token_rests : (t : ℕ) (id : Id) (kept : Kept) → t < setup.threads → is_resting_here setup t (views t) id (Some kept) ≡ true → is_resting_token setup s id (record { place = At t; kept = kept }) ≡ true
    token_rests t (Request req) kept lt h = let p = and_parts (req.thread == t) (is_pended_in setup (views t) kept) h in pended_by t req kept lt (eqb-true req.thread t p.0) p.1
    token_rests t (Piece req k) kept lt h = refl
    token_rests t (Walk walk) kept lt h = refl
    token_rests t (Notice a b n) kept lt h = refl

    token_closed : (id : Id) (kept : Kept) → is_resting_token setup s id (record { place = Nowhere; kept = kept }) ≡ true
    token_closed (Request req) kept = refl
    token_closed (Piece req k) kept = refl
    token_closed (Walk walk) kept = refl
    token_closed (Notice a b n) kept = refl

    all_pended : are_all_pended setup s ≡ true
    all_pended = all_such (is_resting_token setup s) s.tokens tied.keyed
        (tests rests.none_queued (is_resting_token setup s) true token_closed (λ t i kept lt h. token_rests t i kept lt (here_rests t i kept lt h)))

    all_done : are_all_done s ≡ true
    all_done = each_part (is_nothing_owed s.registry) (λ t lt. subst (λ (r : Registry). is_nothing_owed r (views t).part ≡ true) (sym tied.registry_is) (rests.owed_idle t lt))

    -- the thread of each handle closes none by itself
    not_left_open : (hs : List Handle) → ((t : ℕ) → t < setup.threads → list_any (is_left_open_in setup (views t)) (filter (is_of t) hs) ≡ false) → list_any (is_left_open setup s) hs ≡ false
    not_left_open [] h = refl
    not_left_open (x ∷ xs) h =
        ap (λ b. b || list_any (is_left_open setup s) xs) (one (cases_lt x.thread.0 setup.threads))
        ∙ not_left_open xs (λ t lt. rest_of (is_of t) (is_left_open_in setup (views t)) x xs (h t lt))
      where
        no_mark : (a b : Bool) → (a && false && b) ≡ false
        no_mark true b = refl
        no_mark false b = refl

        one : (x.thread.0 < setup.threads) ⊎ (setup.threads ≤ x.thread.0) → is_left_open setup s x ≡ false
        one (inl lt) =
            ap (left_open setup x) (part_is x.thread.0 lt)
            ∙ one_of (is_of x.thread.0) (is_left_open_in setup (views x.thread.0)) x xs (eq-eqb x.thread.0 x.thread.0 refl) (h x.thread.0 lt)
        one (inr ge) = ap (left_open setup x) (none_past x.thread.0 ge) ∙ no_mark (not (is_base_handle setup x.id)) (open_on blank_part x.id == 0)

    gone_closed : are_gone_closed setup s ≡ true
    gone_closed = ap not (not_left_open s.registry.handles
        (λ t lt. subst (λ (hs : List Handle). list_any (is_left_open_in setup (views t)) hs ≡ false) (sym (ap (λ (v : View). v.handles) (tied.views_are t lt))) (rests.closed t lt)))

    at_rest : shared.shut ≡ false → is_at_rest setup s 0 ≡ true
    at_rest h =
        let a : Bool = (0 == 0) && not s.shut in
        and_from (a && are_all_put s && are_all_taken s && are_all_done s && are_gone_closed setup s && are_walks_ended s) (are_all_pended setup s)
        (and_from (a && are_all_put s && are_all_taken s && are_all_done s && are_gone_closed setup s) (are_walks_ended s)
        (and_from (a && are_all_put s && are_all_taken s && are_all_done s) (are_gone_closed setup s)
        (and_from (a && are_all_put s && are_all_taken s) (are_all_done s)
        (and_from (a && are_all_put s) (are_all_taken s)
        (and_from a (are_all_put s) (ap not (tied.shut_is ∙ h)) (all_put rests.none_due))
        (all_taken rests.none_queued)) all_done) gone_closed) walks_over) all_pended

  scripts_blocked : AreBlocked setup views → are_scripts_blocked setup s ≡ true
  scripts_blocked h =
      all_numbers (λ t. is_script_blocked setup t (view s t)) 0 (length s.parts)
      (λ t lt. let t_lt : t < setup.threads = below t (omega arith) in ap (is_script_blocked setup t) (tied.views_are t t_lt) ∙ h t t_lt)

  -- **Shutdown**
  allowed : (stamp : ℕ) → AreAtRest setup views shared → AreBlocked setup views → shared.shut ≡ false → shared.stamp < stamp → IsAllowed setup s (shutdown_at stamp)
  allowed stamp rests blocked not_shut later =
      all_pass ((UNBUILT, true) ∷ (IN_ORDER, is_in_order s (shutdown_at stamp)) ∷ (AT_REST, is_at_rest setup s 0) ∷ (SCRIPTS_BLOCKED, are_scripts_blocked setup s) ∷ [])
      (refl, (in_order s (shutdown_at stamp) (subst (λ (n : ℕ). 0 < n) (sym tied.threads_are) some) above, (at_rest rests not_shut, (scripts_blocked blocked, tt))))
    where
      above : nat_lt s.stamp stamp ≡ true
      above = ap (λ (n : ℕ). nat_lt n stamp) tied.stamp_is ∙ lt-ltb shared.stamp stamp later

  abbrev shut_locally : ℕ → Local
  shut_locally stamp = local_after setup 0 (record { view = views 0; shared = shared }) (shutdown_at stamp)

  shut_view : (stamp : ℕ) → (views 0).part.prior ≡ None → (local_after setup 0 (record { view = views 0; shared = shared }) (shutdown_at stamp)).view ≡ views 0
  unfolding local_after
  shut_view stamp none = λ i. record (views 0) { part = record (views 0).part { prior = sym none i } }

  shut_shared : (stamp : ℕ) → shared.shut ≡ false → (local_after setup 0 (record { view = views 0; shared = shared }) (shutdown_at stamp)).shared ≡ record shared { stamp = stamp; shut = true }
  unfolding local_after
  shut_shared stamp not_shut = λ i. record { stamp = stamp; shut = now not_shut i; registry = shared.registry; queues = shared.queues }
    where
      now : shared.shut ≡ false → (shared.shut || true) ≡ true
      now h = ap (λ b. b || true) h

  tied_shut : (stamp : ℕ) → (views 0).part.prior ≡ None → IsAllowed setup s (shutdown_at stamp) → shared.shut ≡ false → IsTied setup (after setup s (shutdown_at stamp)) views (record shared { stamp = stamp; shut = true })
  tied_shut stamp none ok not_shut =
      let tied_now = tied_after setup s views shared (shutdown_at stamp) tied some ok (record { guards_are = refl; change_is = refl }) (λ a n what is. let bad : acts.Shutdown ≡ acts.Took a n what = is in cc) in
      subst (IsTied setup (after setup s (shutdown_at stamp)) views) (shut_shared stamp not_shut)
      (subst (λ (vs : ℕ → View). IsTied setup (after setup s (shutdown_at stamp)) vs (shut_locally stamp).shared) (same_view views 0 (shut_locally stamp).view (shut_view stamp none)) tied_now)

pub rest_is_complete : RestIsComplete
rest_is_complete setup s views shared tied some done shut destructed = finished setup s views shared tied some done shut destructed

pub shutdown_is_allowed : ShutdownIsAllowed
shutdown_is_allowed setup s views shared stamp tied some rests blocked not_shut later =
    let ok : IsAllowed setup s (shutdown_at stamp) = allowed setup s views shared tied some stamp rests blocked not_shut later in
    record { allowed = ok; tied = tied_shut setup s views shared tied some stamp rests.untaken ok not_shut }
