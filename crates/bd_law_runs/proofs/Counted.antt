-- What the registry's events make of a thread's references: each device has one for each of the thread's handles on it, each channel above it, and each put that is still to come.
use Rattle.std.proofs.Common.{◌≡◌, ℕ, suc, ◌+◌, ◌-◌, ◌<◌, ◌≤◌, Bool, true, false, cond, not, ◌&&◌, ◌||◌, ◌==◌, List, [], ◌∷◌, ◌++◌, length, map, Option, Some, None, is_some, is_none, refl, sym, ◌∙◌, ap, subst, eqb-true, eq-eqb, ne_eqb, arith, le_refl}
use Rattle.std.specs.Prelude.{slice_get}
use Rattle.std.specs.List.{filter, list_any}
use Rattle.std.proofs.lemmas.Bool.{and_parts, and_from}
use Rattle.bd_base.specs.declared.event.Answer.{Answer}
use Rattle.bd_base.specs.declared.event.Answer.TheVariants as answers
use Rattle.bd_base.specs.declared.event.ClaimKind.{ClaimKind}
use Rattle.bd_base.specs.declared.event.Dropped.{Dropped}
use Rattle.bd_base.specs.declared.event.Dropped.TheVariants as dropped
use Rattle.bd_base.specs.declared.event.RegEvent.{RegEvent}
use Rattle.bd_base.specs.declared.event.RegEvent.TheVariants as events
use Rattle.bd_base.specs.declared.id.DevId.{DevId}
use Rattle.bd_base.specs.declared.id.HandleId.{HandleId}
use Rattle.bd_base.specs.declared.request.Errno.TheVariants.{NoDev, BadDesc}
use Rattle.bd_base.specs.declared.setup.Setup.{Setup}
use Rattle.bd_machine.specs.declared.state.Between.{Between}
use Rattle.bd_machine.specs.declared.state.Between.TheVariants.{Opening, Closing}
use Rattle.bd_machine.specs.declared.state.Handle.{Handle}
use Rattle.bd_machine.specs.declared.state.Registry.{Registry}
use Rattle.bd_machine.specs.declared.state.State.{State}
use Rattle.bd_machine.specs.Alone.{counts_by}
use Rattle.bd_machine.specs.Asked.{asks_between, is_handle_on, may_close, is_get_of, is_close_on, open_on}
use Rattle.bd_machine.specs.BlockMap.{below, stands_on, StandsOnEarlier}
use Rattle.bd_machine.specs.Changes.{handles_after, counts_after, counts_got, between_after, with_claim, base_put, is_dropped}
use Rattle.bd_machine.specs.Laws.{one_if}
use Rattle.bd_machine.specs.Registry.{is_own, are_live, handle_of, references, answer_to, get_answer, is_born_frozen, made, close_answer, freed_by_close, put_answer, drop_answer, other_threads_of, zero_by_drop, if_so, is_bare, handles_on, is_count}
use Rattle.bd_machine.specs.Same.{same_dev, same_handle, same_answer, same_dropped, same_if_any}
use Rattle.bd_machine.specs.Threads.{is_nobody}
use Rattle.bd_machine.specs.Users.{is_base_handle}
use Rattle.bd_machine.specs.View.{View, Came, view, is_of}
use Rattle.bd_machine.proofs.Tables.{dev_exact}
use Rattle.bd_law_runs.proofs.Channels.{Covered, above, val, with_one, got_covered, deep_at, put_covered, dropped_covered}
use Rattle.bd_law_runs.proofs.Sums.{count_in, in_push, in_filter, in_filter_less, in_map}

differ : {b : Bool} → b ≡ true → b ≡ false → ⊥
differ h k = let e : true ≡ false = sym h ∙ k in cc

-- ---- handles by number

-- the numbers rise, from the first on and below the last
abbrev pub InOrder : ℕ → List Handle → ℕ → Type 0
InOrder lo [] hi = lo ≤ hi
InOrder lo (h ∷ hs) hi = (lo ≤ h.id.0) × InOrder (suc h.id.0) hs hi

lower_order : (lo less hi : ℕ) (hs : List Handle) → less ≤ lo → InOrder lo hs hi → InOrder less hs hi
lower_order lo less hi [] k h = both less lo hi k h
  where
    both : (a b c : ℕ) → a ≤ b → b ≤ c → a ≤ c
    both a b c h k = omega arith
lower_order lo less hi (x ∷ xs) k h = (both less lo x.id.0 k h.0, h.1)
  where
    both : (a b c : ℕ) → a ≤ b → b ≤ c → a ≤ c
    both a b c h k = omega arith

pub order_push : (lo hi : ℕ) (hs : List Handle) (x : Handle) → x.id.0 ≡ hi → InOrder lo hs hi → InOrder lo (hs ++ x ∷ []) (hi + 1)
order_push lo hi [] x e h = (as_far lo hi x.id.0 e h, next x.id.0 hi e)
  where
    as_far : (a b c : ℕ) → c ≡ b → a ≤ b → a ≤ c
    as_far a b c e h = omega arith

    next : (a b : ℕ) → a ≡ b → suc a ≤ b + 1
    next a b e = omega arith
order_push lo hi (y ∷ ys) x e h = (h.0, order_push (suc y.id.0) hi ys x e h.1)

pub order_filter : (keep : Handle → Bool) (lo hi : ℕ) (hs : List Handle) → InOrder lo hs hi → InOrder lo (filter keep hs) hi
order_filter keep lo hi [] h = h
order_filter keep lo hi (x ∷ xs) h = go (keep x) (order_filter keep (suc x.id.0) hi xs h.1)
  where
    later : (a b : ℕ) → a ≤ b → a ≤ suc b
    later a b h = omega arith

    go : (b : Bool) → InOrder (suc x.id.0) (filter keep xs) hi → InOrder lo (cond b (x ∷ filter keep xs) (filter keep xs)) hi
    go true ih = (h.0, ih)
    go false ih = lower_order (suc x.id.0) lo hi (filter keep xs) (later lo x.id.0 h.0) ih

pub order_map : (f : Handle → Handle) → ((x : Handle) → (f x).id ≡ x.id) → (lo hi : ℕ) (hs : List Handle) → InOrder lo hs hi → InOrder lo (map f hs) hi
order_map f same lo hi [] h = h
order_map f same lo hi (x ∷ xs) h = (
  subst (λ (i : HandleId). lo ≤ i.0) (sym (same x)) h.0,
  subst (λ (i : HandleId). InOrder (suc i.0) (map f xs) hi) (sym (same x)) (order_map f same (suc x.id.0) hi xs h.1),
)

pub claim_id : (t : ℕ) (id : HandleId) (kind : ClaimKind) (x : Handle) → (cond (is_own t id x) (with_claim kind x) x).id ≡ x.id
claim_id t id kind x = go (is_own t id x)
  where
    go : (b : Bool) → (cond b (with_claim kind x) x).id ≡ x.id
    go true = refl
    go false = refl

-- a number that is below the first isn't there
none_below : (lo hi : ℕ) (id : HandleId) (hs : List Handle) → id.0 < lo → InOrder lo hs hi → handle_of hs id ≡ None
none_below lo hi id [] k h = refl
none_below lo hi id (x ∷ xs) k h =
    ap (λ b. cond b (Some x) (handle_of xs id)) (ne_eqb x.id.0 id.0 (apart x.id.0 id.0 lo h.0 k)) ∙ none_below (suc x.id.0) hi id xs (further id.0 lo x.id.0 k h.0) h.1
  where
    apart : (a b c : ℕ) → c ≤ a → b < c → a ≡ b → ⊥
    apart a b c h k e = omega arith

    further : (a b c : ℕ) → a < b → b ≤ c → a < suc c
    further a b c h k = omega arith

-- the thread's handle of a number is the handle of that number
pub own_handle : (t : ℕ) (id : HandleId) (lo hi : ℕ) (hs : List Handle) → InOrder lo hs hi → (h : Handle) → handle_of (filter (is_of t) hs) id ≡ Some h → (handle_of hs id ≡ Some h) × (h.thread.0 ≡ t)
own_handle t id lo hi [] o h e = cc
own_handle t id lo hi (x ∷ xs) o h e = go (is_of t x) (same_handle x.id id) refl refl e (own_handle t id (suc x.id.0) hi xs o.1 h)
  where
    gone : same_handle x.id id ≡ true → handle_of (filter (is_of t) xs) id ≡ None
    gone f = none_below (suc x.id.0) hi id (filter (is_of t) xs) (next id.0 x.id.0 (sym (eqb-true x.id.0 id.0 f))) (order_filter (is_of t) (suc x.id.0) hi xs o.1)
      where
        next : (a b : ℕ) → a ≡ b → a < suc b
        next a b e = omega arith

    go : (a b : Bool) → is_of t x ≡ a → same_handle x.id id ≡ b → handle_of (cond a (x ∷ filter (is_of t) xs) (filter (is_of t) xs)) id ≡ Some h
        → (handle_of (filter (is_of t) xs) id ≡ Some h → (handle_of xs id ≡ Some h) × (h.thread.0 ≡ t)) → (cond b (Some x) (handle_of xs id) ≡ Some h) × (h.thread.0 ≡ t)
    go true true f g e rest =
        let is : Some x ≡ Some h = sym (ap (λ b. cond b (Some x) (handle_of (filter (is_of t) xs) id)) g) ∙ e in
        let same : x ≡ h = cc in
        (is, subst (λ (y : Handle). y.thread.0 ≡ t) same (eqb-true x.thread.0 t f))
    go true false f g e rest = rest (sym (ap (λ b. cond b (Some x) (handle_of (filter (is_of t) xs) id)) g) ∙ e)
    go false true f g e rest = let no : None ≡ Some h = sym (gone g) ∙ e in cc
    go false false f g e rest = rest e

-- ---- what is needed, and what is missing

abbrev pub is_user : Setup → DevId → Handle → Bool
is_user setup d h = same_dev h.dev d && not (is_base_handle setup h.id)

-- the handles on the device, but base handles
abbrev pub users_on : Setup → List Handle → DevId → ℕ
users_on setup hs d = count_in (is_user setup d) hs

-- an open that has no channel yet, and a put whose handle isn't closed yet
abbrev pub pending : Option Between → ℕ → DevId → ℕ
pending None t d = 0
pending (Some (Opening u dev)) t d = one_if ((u == t) && same_dev dev d)
pending (Some (Closing u dev)) t d = one_if ((u == t) && same_dev dev d)

abbrev pub LiveFine : Setup → Registry → Option Between → Type 0
LiveFine setup r (Some (Opening u dev)) = are_live setup r dev ≡ true
LiveFine setup r _ = Unit {0}

pub weaker : (setup : Setup) (need less : DevId → ℕ) (refs : DevId → Option ℕ) (missing more : DevId → ℕ) → ((d : DevId) → less d ≤ need d) → ((d : DevId) → missing d ≤ more d) → Covered setup need refs missing → Covered setup less refs more
weaker setup need less refs missing more n m c d = go (less d) (need d) (above setup refs d) (val (refs d)) (missing d) (more d) (n d) (m d) (c d)
  where
    go : (a b x v i j : ℕ) → a ≤ b → i ≤ j → b + x ≤ v + i → a + x ≤ v + j
    go a b x v i j h k e = omega arith

abbrev pub is_answered_between : RegEvent → Bool
is_answered_between (events.GetChannel d) = true
is_answered_between (events.Close id) = true
is_answered_between _ = false

-- what a put of a limited device's home takes away
abbrev pub Spends : RegEvent → (DevId → ℕ) → (DevId → ℕ) → Type 0
Spends (events.PutChannel dev false) more less = (d : DevId) → less d + one_if (same_dev dev d) ≤ more d
Spends _ more less = (d : DevId) → less d ≤ more d

pub no_and : (b : Bool) → (b && false) ≡ true → ⊥
no_and true e = cc
no_and false e = cc

-- every other event is asked where nothing has to follow
pub freely : (setup : Setup) (t : ℕ) (v : View) (came : Came) (event : RegEvent) (o : Option Between) → is_answered_between event ≡ false → asks_between setup t v came event o ≡ true → o ≡ None
freely setup t v came event None n h = refl
freely setup t v came (events.GetChannel d) (Some b) n h = cc
freely setup t v came (events.Close id) (Some b) n h = cc
freely setup t v came event (Some (Opening u d)) n h = absurd (no_and (u == t) (opening event n h))
  where
    opening : (event : RegEvent) → is_answered_between event ≡ false → ((u == t) && is_get_of d event) ≡ true → ((u == t) && false) ≡ true
    opening (events.GetChannel x) n h = cc
    opening _ n h = h
freely setup t v came event (Some (Closing u d)) n h = absurd (no_and (u == t) (closing event n h))
  where
    closing : (event : RegEvent) → is_answered_between event ≡ false → ((u == t) && is_close_on setup t v came d event) ≡ true → ((u == t) && false) ≡ true
    closing (events.Close x) n h = cc
    closing _ n h = h

-- the puts that are spent leave less
spends_less : (event : RegEvent) (more less : DevId → ℕ) → Spends event more less → (d : DevId) → less d ≤ more d
spends_less (events.PutChannel dev false) more less h d = go (less d) (one_if (same_dev dev d)) (more d) (h d)
  where
    go : (a b c : ℕ) → a + b ≤ c → a ≤ c
    go a b c h = omega arith
spends_less (events.PutChannel dev true) more less h d = h d
spends_less _ more less h d = h d

not_true : (b : Bool) → not b ≡ true → b ≡ false
not_true true h = cc
not_true false h = refl

-- what may be closed is open, no base handle, and has no open request
pub may_close_is : (setup : Setup) (t : ℕ) (v : View) (came : Came) (id : HandleId) → may_close setup t v came id ≡ true → (is_base_handle setup id ≡ false) × ((is_some (handle_of v.handles id) ≡ true) × ((open_on v.part id == 0) ≡ true))
may_close_is setup t v came id h =
    let a : Bool = not (is_base_handle setup id) in
    let b : Bool = is_some (handle_of v.handles id) in
    let c : Bool = open_on v.part id == 0 in
    let p = and_parts (a && b && c) _ h in
    let q = and_parts (a && b) c p.0 in
    let r = and_parts a b q.0 in
    (not_true (is_base_handle setup id) r.0, (r.1, q.1))

module _ (setup : Setup) (ordered : StandsOnEarlier setup) (s : State) (t : ℕ) (came : Came) (more less : DevId → ℕ)
    (fine : LiveFine setup s.registry s.registry.between) (order : InOrder 0 s.registry.handles s.registry.next) where
  abbrev hs : List Handle
  hs = filter (is_of t) s.registry.handles

  abbrev refs : DevId → Option ℕ
  refs = references s.registry t

  abbrev need : DevId → ℕ
  need d = users_on setup (filter (is_of t) s.registry.handles) d + more d

  abbrev Before : Option Between → Type 0
  Before o = Covered setup (λ d. users_on setup (filter (is_of t) s.registry.handles) d + more d) (references s.registry t) (pending o t)

  abbrev After : List Handle → (DevId → Option ℕ) → Option Between → Type 0
  After hs' refs' o = Covered setup (λ d. users_on setup hs' d + less d) refs' (pending o t)

  sum_less : (a b c : ℕ) → a ≤ b → c + a ≤ c + b
  sum_less a b c h = omega arith

  -- where handles and references stay
  stays : ((d : DevId) → less d ≤ more d) → Before None → After (filter (is_of t) s.registry.handles) (references s.registry t) None
  stays l c = weaker setup need (λ d. users_on setup hs d + less d) refs (pending None t) (pending None t) (λ d. sum_less (less d) (more d) (users_on setup hs d) (l d)) (λ d. le_refl 0) c

  -- a handle is opened
  opened : (id : HandleId) (dev : DevId) (write : Bool) (blocks : ℕ) → ((d : DevId) → less d ≤ more d) → Before None → After (hs ++ record { id = id; dev = dev; thread = record { 0 = t }; write = write; claim = None; blocks = blocks } ∷ []) refs (Some (Opening t dev))
  opened id dev write blocks l c d = go (is_user setup d new) (same_dev dev d) (λ e. (and_parts (same_dev dev d) (not (is_base_handle setup id)) e).0) (count_in (is_user setup d) (hs ++ new ∷ [])) (in_push (is_user setup d) hs new) (t == t) (eq-eqb t t refl)
    where
      new : Handle
      new = record { id = id; dev = dev; thread = record { 0 = t }; write = write; claim = None; blocks = blocks }

      one : (a b x i n v y j : ℕ) → y ≡ x + i → i ≤ j → a ≤ b → x + b + n ≤ v + 0 → y + a + n ≤ v + j
      one a b x i n v y j e h k c = omega arith

      less_one : (a b : Bool) → (a ≡ true → b ≡ true) → one_if a ≤ one_if b
      less_one true true h = omega arith
      less_one true false h = let e : false ≡ true = h refl in cc
      less_one false b h = omega arith

      go : (a b : Bool) → (a ≡ true → b ≡ true) → (y : ℕ) → y ≡ users_on setup hs d + one_if a → (q : Bool) → q ≡ true → y + less d + above setup refs d ≤ val (refs d) + one_if (q && b)
      go a b h y e true f = one (less d) (more d) (users_on setup hs d) (one_if a) (above setup refs d) (val (refs d)) y (one_if b) e (less_one a b h) (l d) (c d)
      go a b h y e false f = cc

  -- a channel is got
  got : (u : ℕ) (dev : DevId) → u ≡ t → ((d : DevId) → less d ≤ more d) → Before (Some (Opening u dev)) → After hs (counts_by (counts_got refs (below setup dev)) refs) None
  got u dev same l c =
      weaker setup need (λ d. users_on setup hs d + less d) (counts_by (counts_got refs (below setup dev)) refs) (λ d. 0) (pending None t)
      (λ d. sum_less (less d) (more d) (users_on setup hs d) (l d)) (λ d. le_refl 0)
      (got_covered setup ordered need (length setup.devices) dev 0 refs refs (deep_at setup ordered need dev) (λ d k. refl)
      (weaker setup need need refs (pending (Some (Opening u dev)) t) (λ d. one_if (same_dev dev d)) (λ d. le_refl (need d)) (λ d. by (u == t) (same_dev dev d)) c))
    where
      by : (a b : Bool) → one_if (a && b) ≤ one_if b
      by true b = le_refl (one_if b)
      by false true = omega arith
      by false false = omega arith

  -- the answer of a get that follows an open
  got_answer : (dev : DevId) (a : Answer) → are_live setup s.registry dev ≡ true → same_answer a (get_answer setup s.registry t dev) ≡ true → (fresh : Bool) × ((frozen : List DevId) × (a ≡ answers.Got fresh frozen))
  got_answer dev a live h = by a (subst (λ (b : Bool). same_answer a (cond b (answers.Got f fs) (answers.Refused NoDev)) ≡ true) live h)
    where
      f : Bool
      f = is_none (references s.registry t dev)

      fs : List DevId
      fs = filter (λ d. is_born_frozen (slice_get s.registry.devices d.0)) (made (references s.registry t) (below setup dev))

      by : (a : Answer) → same_answer a (answers.Got f fs) ≡ true → (fresh : Bool) × ((frozen : List DevId) × (a ≡ answers.Got fresh frozen))
      by (answers.Got x y) h = (x, (y, refl))
      by _ h = cc

  -- a put
  put_down : (dev : DevId) (left : ℕ) → same_answer (answers.PutDown left) (put_answer (refs dev)) ≡ true → (n : ℕ) × ((refs dev ≡ Some n) × (left ≡ n - 1))
  put_down dev left h = go (refs dev) refl h
    where
      go : (o : Option ℕ) → refs dev ≡ o → same_answer (answers.PutDown left) (put_answer o) ≡ true → (n : ℕ) × ((refs dev ≡ Some n) × (left ≡ n - 1))
      go None e h = cc
      go (Some n) e h = (n, (e, by (n == 0) h))
        where
          by : (b : Bool) → same_answer (answers.PutDown left) (cond b (answers.Refused NoDev) (answers.PutDown (n - 1))) ≡ true → left ≡ n - 1
          by true h = cc
          by false h = eqb-true left (n - 1) h

  down : (dev : DevId) (left : ℕ) → same_answer (answers.PutDown left) (put_answer (refs dev)) ≡ true → Before None → Covered setup need (with_one setup ordered need refs dev (Some left)) (λ d. one_if (same_dev dev d))
  down dev left h c = go (put_down dev left h)
    where
      go : (n : ℕ) × ((refs dev ≡ Some n) × (left ≡ n - 1)) → Covered setup need (with_one setup ordered need refs dev (Some left)) (λ d. one_if (same_dev dev d))
      go (n, (e, is)) = subst (λ (k : ℕ). Covered setup need (with_one setup ordered need refs dev (Some k)) (λ d. one_if (same_dev dev d))) (sym is) (put_covered setup ordered need refs dev n e c)

  put_closing : (dev : DevId) (left : ℕ) → same_answer (answers.PutDown left) (put_answer (refs dev)) ≡ true → ((d : DevId) → less d ≤ more d) → Before None → After hs (with_one setup ordered need refs dev (Some left)) (Some (Closing t dev))
  put_closing dev left h l c =
      weaker setup need (λ d. users_on setup hs d + less d) (with_one setup ordered need refs dev (Some left)) (λ d. one_if (same_dev dev d)) (pending (Some (Closing t dev)) t)
      (λ d. sum_less (less d) (more d) (users_on setup hs d) (l d)) (λ d. by (t == t) (same_dev dev d) (eq-eqb t t refl)) (down dev left h c)
    where
      by : (a b : Bool) → a ≡ true → one_if b ≤ one_if (a && b)
      by true b e = le_refl (one_if b)
      by false b e = cc

  put_by_home : (dev : DevId) (left : ℕ) → same_answer (answers.PutDown left) (put_answer (refs dev)) ≡ true → ((d : DevId) → less d + one_if (same_dev dev d) ≤ more d) → Before None → After hs (with_one setup ordered need refs dev (Some left)) None
  put_by_home dev left h l c d = go (users_on setup hs d) (less d) (more d) (above setup (with_one setup ordered need refs dev (Some left)) d) (val (with_one setup ordered need refs dev (Some left) d)) (one_if (same_dev dev d)) (l d) (down dev left h c d)
    where
      go : (x a b n v i : ℕ) → a + i ≤ b → x + b + n ≤ v + i → x + a + n ≤ v + 0
      go x a b n v i h k = omega arith

  -- a handle is closed
  fewer_users : (id : HandleId) (d : DevId) → users_on setup (filter (λ h. not (is_own t id h)) hs) d ≤ users_on setup hs d
  fewer_users id d = in_filter (is_user setup d) (λ h. not (is_own t id h)) hs

  closed_freely : (id : HandleId) → ((d : DevId) → less d ≤ more d) → Before None → After (filter (λ h. not (is_own t id h)) hs) refs None
  closed_freely id l c =
      weaker setup need (λ d. users_on setup (filter (λ h. not (is_own t id h)) hs) d + less d) refs (pending None t) (pending None t)
      (λ d. sums (users_on setup (filter (λ h. not (is_own t id h)) hs) d) (users_on setup hs d) (less d) (more d) (fewer_users id d) (l d)) (λ d. le_refl 0) c
    where
      sums : (a b c d : ℕ) → a ≤ b → c ≤ d → a + c ≤ b + d
      sums a b c d h k = omega arith

  -- the handle that is closed stands on the device
  closes_one : (id : HandleId) (dev : DevId) (h : Handle) → handle_of hs id ≡ Some h → same_dev h.dev dev ≡ true → is_base_handle setup id ≡ false → list_any (λ x. is_user setup dev x && not (not (is_own t id x))) hs ≡ true
  closes_one id dev h e on base = at s.registry.handles e
    where
      twice : (b : Bool) → not (not b) ≡ b
      twice true = refl
      twice false = refl

      at : (xs : List Handle) → handle_of (filter (is_of t) xs) id ≡ Some h → list_any (λ x. is_user setup dev x && not (not (is_own t id x))) (filter (is_of t) xs) ≡ true
      at [] e = cc
      at (x ∷ xs) e = go (is_of t x) refl e (at xs)
        where
          or_right : (b : Bool) → list_any (λ x. is_user setup dev x && not (not (is_own t id x))) (filter (is_of t) xs) ≡ true → (b || list_any (λ x. is_user setup dev x && not (not (is_own t id x))) (filter (is_of t) xs)) ≡ true
          or_right true k = refl
          or_right false k = k

          here : (q : Bool) → is_of t x ≡ true → same_handle x.id id ≡ q → cond q (Some x) (handle_of (filter (is_of t) xs) id) ≡ Some h
              → (handle_of (filter (is_of t) xs) id ≡ Some h → list_any (λ x. is_user setup dev x && not (not (is_own t id x))) (filter (is_of t) xs) ≡ true)
              → ((is_user setup dev x && not (not (is_own t id x))) || list_any (λ x. is_user setup dev x && not (not (is_own t id x))) (filter (is_of t) xs)) ≡ true
          here true f g e rest =
              let same : x ≡ h = cc in
              let is_id : x.id ≡ id = ap (λ (n : ℕ). let i : HandleId = record { 0 = n } in i) (eqb-true x.id.0 id.0 g) in
              let user : is_user setup dev x ≡ true = and_from (same_dev x.dev dev) (not (is_base_handle setup x.id)) (subst (λ (y : Handle). same_dev y.dev dev ≡ true) (sym same) on) (ap not (ap (is_base_handle setup) is_id ∙ base)) in
              let own : not (not (is_own t id x)) ≡ true = twice (is_own t id x) ∙ and_from (same_handle x.id id) (x.thread.0 == t) g f in
              ap (λ b. b || list_any (λ x. is_user setup dev x && not (not (is_own t id x))) (filter (is_of t) xs)) (and_from (is_user setup dev x) (not (not (is_own t id x))) user own)
          here false f g e rest = or_right (is_user setup dev x && not (not (is_own t id x))) (rest e)

          go : (q : Bool) → is_of t x ≡ q → handle_of (cond q (x ∷ filter (is_of t) xs) (filter (is_of t) xs)) id ≡ Some h → (handle_of (filter (is_of t) xs) id ≡ Some h → list_any (λ x. is_user setup dev x && not (not (is_own t id x))) (filter (is_of t) xs) ≡ true)
              → list_any (λ x. is_user setup dev x && not (not (is_own t id x))) (cond q (x ∷ filter (is_of t) xs) (filter (is_of t) xs)) ≡ true
          go true f e rest = here (same_handle x.id id) f refl e rest
          go false f e rest = rest e

  closed_between : (u : ℕ) (dev : DevId) (id : HandleId) (h : Handle) → handle_of hs id ≡ Some h → same_dev h.dev dev ≡ true → is_base_handle setup id ≡ false → ((d : DevId) → less d ≤ more d) → Before (Some (Closing u dev)) → After (filter (λ h. not (is_own t id h)) hs) refs None
  closed_between u dev id h e on base l c d = go (u == t) (same_dev dev d) refl (c d)
    where
      rest : (a b x y n v i : ℕ) → a ≤ b → x ≤ y → i ≡ 0 → y + b + n ≤ v + i → x + a + n ≤ v + 0
      rest a b x y n v i h k e c = omega arith

      one : (a b x y n v : ℕ) → a ≤ b → x + 1 ≤ y → y + b + n ≤ v + 1 → x + a + n ≤ v + 0
      one a b x y n v h k c = omega arith

      gone : dev ≡ d → users_on setup (filter (λ h. not (is_own t id h)) hs) d + 1 ≤ users_on setup hs d
      gone same = subst (λ (x : DevId). users_on setup (filter (λ h. not (is_own t id h)) hs) x + 1 ≤ users_on setup hs x) same (in_filter_less (is_user setup dev) (λ h. not (is_own t id h)) hs (closes_one id dev h e on base))

      go : (p q : Bool) → same_dev dev d ≡ q → users_on setup hs d + more d + above setup refs d ≤ val (refs d) + one_if (p && q) → users_on setup (filter (λ h. not (is_own t id h)) hs) d + less d + above setup refs d ≤ val (refs d) + 0
      go true true f c = one (less d) (more d) (users_on setup (filter (λ h. not (is_own t id h)) hs) d) (users_on setup hs d) (above setup refs d) (val (refs d)) (l d) (gone (dev_exact dev d f)) c
      go true false f c = rest (less d) (more d) (users_on setup (filter (λ h. not (is_own t id h)) hs) d) (users_on setup hs d) (above setup refs d) (val (refs d)) 0 (l d) (fewer_users id d) refl c
      go false q f c = rest (less d) (more d) (users_on setup (filter (λ h. not (is_own t id h)) hs) d) (users_on setup hs d) (above setup refs d) (val (refs d)) 0 (l d) (fewer_users id d) refl c

  -- a claim leaves the handles on a device
  claimed : (id : HandleId) (kind : ClaimKind) → ((d : DevId) → less d ≤ more d) → Before None → After (map (λ h. cond (is_own t id h) (with_claim kind h) h) hs) refs None
  claimed id kind l c =
      weaker setup need (λ d. users_on setup (map (λ h. cond (is_own t id h) (with_claim kind h) h) hs) d + less d) refs (pending None t) (pending None t)
      (λ d. sums (users_on setup (map (λ h. cond (is_own t id h) (with_claim kind h) h) hs) d) (users_on setup hs d) (less d) (more d) (in_map (is_user setup d) (λ h. cond (is_own t id h) (with_claim kind h) h) (λ x. keeps d x (is_own t id x)) hs) (l d)) (λ d. le_refl 0) c
    where
      sums : (a b c d : ℕ) → a ≡ b → c ≤ d → a + c ≤ b + d
      sums a b c d h k = omega arith

      keeps : (d : DevId) (x : Handle) (b : Bool) → is_user setup d (cond b (with_claim kind x) x) ≡ is_user setup d x
      keeps d x true = refl
      keeps d x false = refl

  -- a channel without references is dropped
  dropped_is : (dev : DevId) (what : Dropped) (base gone : Option DevId) → same_answer (answers.Dropped what base gone) (drop_answer setup s.registry t dev) ≡ true → is_dropped what ≡ true → refs dev ≡ Some 0
  dropped_is dev what base gone h d = go (refs dev) refl (is_count 0 (refs dev)) refl h
    where
      kept : (what : Dropped) → same_dropped what dropped.Kept ≡ true → is_dropped what ≡ true → ⊥
      kept dropped.Kept h d = cc
      kept dropped.Gone h d = cc
      kept dropped.Last h d = cc

      some : (o : Option ℕ) → refs dev ≡ o → is_count 0 o ≡ true → refs dev ≡ Some 0
      some None e c = cc
      some (Some n) e c = e ∙ ap (λ (k : ℕ). Some k) (eqb-true n 0 c)

      go : (o : Option ℕ) → refs dev ≡ o → (b : Bool) → is_count 0 (refs dev) ≡ b
          → same_answer (answers.Dropped what base gone) (cond b (answers.Dropped (cond (is_nobody (other_threads_of setup s.registry t dev)) dropped.Last dropped.Gone) (zero_by_drop s.registry t (stands_on setup dev)) (if_so (is_bare s.registry dev (handles_on s.registry dev) (other_threads_of setup s.registry t dev)) dev)) (answers.Dropped dropped.Kept None None)) ≡ true
          → refs dev ≡ Some 0
      go o e true c h = some (refs dev) refl c
      go o e false c h = absurd (kept what (and_parts (same_dropped what dropped.Kept) (same_if_any same_dev base None) (and_parts (same_dropped what dropped.Kept && same_if_any same_dev base None) (same_if_any same_dev gone None) h).0).0 d)

  drops : (dev : DevId) (what : Dropped) → (is_dropped what ≡ true → refs dev ≡ Some 0) → ((d : DevId) → less d ≤ more d) → Before None → After hs (counts_by (cond (is_dropped what) (base_put refs (stands_on setup dev) ++ record { dev = dev; count = None } ∷ []) []) refs) None
  drops dev what zero_is l c =
      weaker setup need (λ d. users_on setup hs d + less d) (counts_by (cond (is_dropped what) (base_put refs (stands_on setup dev) ++ record { dev = dev; count = None } ∷ []) []) refs) (λ d. 0) (pending None t)
      (λ d. sum_less (less d) (more d) (users_on setup hs d) (l d)) (λ d. le_refl 0) (go (is_dropped what) refl)
    where
      go : (b : Bool) → is_dropped what ≡ b → Covered setup need (counts_by (cond b (base_put refs (stands_on setup dev) ++ record { dev = dev; count = None } ∷ []) []) refs) (λ d. 0)
      go true e = dropped_covered setup ordered need refs dev (zero_is e) c
      go false e = c

  -- ---- a close that follows a put

  -- it is on the device
  handle_on : (dev : DevId) (id : HandleId) → is_handle_on dev (handle_of (filter (is_of t) s.registry.handles) id) ≡ true → (h : Handle) × ((handle_of (filter (is_of t) s.registry.handles) id ≡ Some h) × (same_dev h.dev dev ≡ true))
  handle_on dev id k = go (handle_of (filter (is_of t) s.registry.handles) id) refl k
    where
      go : (o : Option Handle) → handle_of (filter (is_of t) s.registry.handles) id ≡ o → is_handle_on dev o ≡ true → (h : Handle) × ((handle_of (filter (is_of t) s.registry.handles) id ≡ Some h) × (same_dev h.dev dev ≡ true))
      go None e k = cc
      go (Some h) e k = (h, (e, k))

  closed_answer : (id : HandleId) (h : Handle) (a : Answer) → handle_of (filter (is_of t) s.registry.handles) id ≡ Some h → same_answer a (close_answer setup s.registry t id (handle_of s.registry.handles id)) ≡ true → (destruct : Option DevId) × (a ≡ answers.Closed destruct)
  closed_answer id h a e k =
      let p = own_handle t id 0 s.registry.next s.registry.handles order h e in
      let k' : same_answer a (close_answer setup s.registry t id (Some h)) ≡ true = subst (λ (o : Option Handle). same_answer a (close_answer setup s.registry t id o) ≡ true) p.0 k in
      by a (subst (λ (b : Bool). same_answer a (cond b (answers.Closed (freed_by_close setup s.registry t id h.dev)) (answers.Refused BadDesc)) ≡ true) (eq-eqb h.thread.0 t p.1) k')
    where
      by : (a : Answer) → same_answer a (answers.Closed (freed_by_close setup s.registry t id h.dev)) ≡ true → (destruct : Option DevId) × (a ≡ answers.Closed destruct)
      by (answers.Closed x) k = (x, refl)
      by _ k = cc

  -- ---- the events

  abbrev Asks : RegEvent → Option Between → Type 0
  Asks event o = asks_between setup t (view s t) came event o ≡ true

  abbrev Answers : RegEvent → Answer → Type 0
  Answers event a = same_answer a (answer_to setup s.registry t event) ≡ true

  abbrev Then : RegEvent → Answer → Type 0
  Then event a = After (handles_after t (filter (is_of t) s.registry.handles) event a) (counts_by (counts_after setup (references s.registry t) event a) (references s.registry t)) (between_after t event a)

  got_then : (dev : DevId) (a : Answer) (u : ℕ) → u ≡ t → are_live setup s.registry dev ≡ true → Answers (events.GetChannel dev) a → ((d : DevId) → less d ≤ more d) → Before (Some (Opening u dev)) → Then (events.GetChannel dev) a
  got_then dev a u same live h l c = go (got_answer dev a live h)
    where
      go : (fresh : Bool) × ((frozen : List DevId) × (a ≡ answers.Got fresh frozen)) → Then (events.GetChannel dev) a
      go (fresh, (frozen, is)) = subst (λ (x : Answer). Then (events.GetChannel dev) x) (sym is) (got u dev same l c)

  closed_then : (dev : DevId) (id : HandleId) (a : Answer) (u : ℕ) → is_close_on setup t (view s t) came dev (events.Close id) ≡ true → Answers (events.Close id) a → ((d : DevId) → less d ≤ more d) → Before (Some (Closing u dev)) → Then (events.Close id) a
  closed_then dev id a u k h l c =
      let p = and_parts (is_handle_on dev (handle_of (filter (is_of t) s.registry.handles) id)) (may_close setup t (view s t) came id) k in
      go (handle_on dev id p.0) (may_close_is setup t (view s t) came id p.1).0
    where
      by : (x : Handle) → handle_of (filter (is_of t) s.registry.handles) id ≡ Some x → same_dev x.dev dev ≡ true → is_base_handle setup id ≡ false → (destruct : Option DevId) × (a ≡ answers.Closed destruct) → Then (events.Close id) a
      by x e on base (destruct, is) = subst (λ (y : Answer). Then (events.Close id) y) (sym is) (closed_between u dev id x e on base l c)

      go : (x : Handle) × ((handle_of (filter (is_of t) s.registry.handles) id ≡ Some x) × (same_dev x.dev dev ≡ true)) → is_base_handle setup id ≡ false → Then (events.Close id) a
      go (x, (e, on)) base = by x e on base (closed_answer id x a e h)

  pub covered_event : (event : RegEvent) (a : Answer) → Answers event a → Asks event s.registry.between → Spends event more less → Before s.registry.between → Then event a
  covered_event event a h q sp c = go s.registry.between refl event a h q sp c
    where
      none : (o : Option Between) (event : RegEvent) → is_answered_between event ≡ false → Asks event o → Before o → Before None
      none o event n q c = subst Before (freely setup t (view s t) came event o n q) c

      plain : (o : Option Between) (event : RegEvent) → is_answered_between event ≡ false → Asks event o → ((d : DevId) → less d ≤ more d) → Before o → After (filter (is_of t) s.registry.handles) (references s.registry t) None
      plain o event n q l c = stays l (none o event n q c)

      go : (o : Option Between) → s.registry.between ≡ o → (event : RegEvent) (a : Answer) → Answers event a → Asks event o → Spends event more less → Before o → Then event a
      go o e (events.Open name write) (answers.Opened id dev blocks) h q sp c = opened id dev write blocks sp (none o (events.Open name write) refl q c)
      go o e (events.Open name write) _ h q sp c = plain o (events.Open name write) refl q sp c
      go None e (events.GetChannel dev) a h q sp c = cc
      go (Some (Opening u d)) e (events.GetChannel dev) a h q sp c =
          let p = and_parts (u == t) (same_dev dev d) q in
          let same : d ≡ dev = sym (dev_exact dev d p.1) in
          let live : are_live setup s.registry d ≡ true = subst (LiveFine setup s.registry) e fine in
          got_then dev a u (eqb-true u t p.0) (subst (λ (x : DevId). are_live setup s.registry x ≡ true) same live) h sp (subst (λ (x : DevId). Before (Some (Opening u x))) same c)
      go (Some (Closing u d)) e (events.GetChannel dev) a h q sp c = absurd (no_and (u == t) q)
      go o e (events.PutChannel dev true) (answers.PutDown left) h q sp c = put_closing dev left h sp (none o (events.PutChannel dev true) refl q c)
      go o e (events.PutChannel dev false) (answers.PutDown left) h q sp c = put_by_home dev left h sp (none o (events.PutChannel dev false) refl q c)
      go o e (events.PutChannel dev true) _ h q sp c = plain o (events.PutChannel dev true) refl q sp c
      go o e (events.PutChannel dev false) _ h q sp c = plain o (events.PutChannel dev false) refl q (spends_less (events.PutChannel dev false) more less sp) c
      go None e (events.Close id) (answers.Closed destruct) h q sp c = closed_freely id sp c
      go None e (events.Close id) _ h q sp c = stays sp c
      go (Some (Opening u d)) e (events.Close id) a h q sp c = absurd (no_and (u == t) q)
      go (Some (Closing u d)) e (events.Close id) a h q sp c = closed_then d id a u (and_parts (u == t) (is_close_on setup t (view s t) came d (events.Close id)) q).1 h sp c
      go o e (events.Claim id kind) answers.Claimed h q sp c = claimed id kind sp (none o (events.Claim id kind) refl q c)
      go o e (events.Claim id kind) _ h q sp c = plain o (events.Claim id kind) refl q sp c
      go o e (events.DropChannel dev) (answers.Dropped what base destruct) h q sp c = drops dev what (dropped_is dev what base destruct h) sp (none o (events.DropChannel dev) refl q c)
      go o e (events.DropChannel dev) _ h q sp c = plain o (events.DropChannel dev) refl q sp c
      go o e (events.BeginRemove name) a h q sp c = plain o (events.BeginRemove name) refl q sp c
      go o e (events.BeginReset dev req) a h q sp c = plain o (events.BeginReset dev req) refl q sp c
      go o e (events.EndReset dev) a h q sp c = plain o (events.EndReset dev) refl q sp c
      go o e (events.FinishReset dev) a h q sp c = plain o (events.FinishReset dev) refl q sp c
      go o e (events.TakeInjection dev req op) a h q sp c = plain o (events.TakeInjection dev req op) refl q sp c
      go o e (events.Destructed dev) a h q sp c = plain o (events.Destructed dev) refl q sp c
      go o e (events.BeginResize name blocks) a h q sp c = plain o (events.BeginResize name blocks) refl q sp c
      go o e (events.EndResize dev) a h q sp c = plain o (events.EndResize dev) refl q sp c
