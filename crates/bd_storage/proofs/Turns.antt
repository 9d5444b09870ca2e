-- Turns in which disks serve first.
use Rattle.std.proofs.Common.{◌≡◌, ℕ, zero, suc, ◌<◌, ◌≤◌, ◌+◌, ◌⊎◌, inl, inr, Bool, true, false, List, [], ◌∷◌, ◌++◌, length, Option, Some, None, option_and_then, slice_get, Result, Ok, Err, IfOk, refl, sym, ◌∙◌, ap, subst, arith}
use Rattle.std.specs.Option.{option_map}
use Rattle.std.proofs.lemmas.Bool.{cases_lt}
use Rattle.std.proofs.lemmas.Option.{slice_get_within}
use Rattle.bd_base.specs.declared.act.ApplyEnd.{ApplyEnd}
use Rattle.bd_base.specs.declared.id.DevId.{DevId}
use Rattle.bd_disks.specs.Rows.{ChangesDisk, Does}
use Rattle.bd_machine.specs.declared.state.Id.{Id}
use Rattle.bd_machine.specs.declared.state.Id.TheVariants as ids
use Rattle.bd_machine.specs.declared.state.OpenPiece.{OpenPiece}
use Rattle.bd_machine.specs.Kept.{as_piece}
use Rattle.bd_outside.specs.Disk.{DiskState}
use Rattle.bd_disks.specs.Contents.{contents_of}
use Rattle.bd_storage.specs.Served.{WentWithDisks}
use Rattle.bd_storage.specs.Serving.{moment, AreServed, Moment, NoService, NoServiceBelow, NoServiceOn, Serves, ServesIf, Still}
use Rattle.bd_thread.specs.declared.links.Links.{Links}
use Rattle.bd_thread.specs.declared.thread.Thread.{Thread}
use Rattle.bd_thread.specs.Disks.{disk_due, piece_on_disk}
use Rattle.bd_thread.specs.Given.{ServesAs, ServesAsBy}
use Rattle.bd_thread.specs.Seen.{block_size}
use Rattle.bd_thread.specs.Waits.{Idles, IsIdle}
use Rattle.bd_tokens.specs.Tokens.{here_in}
use Rattle.bd_thread.proofs.Over.{over_grown}

-- ---- disks one after the other

-- a turn adds entries only
grown_with : {D : Type 0} (state : D → DiskState) (x y : List (DevId × D)) (o : Thread) (a : Links) (n : Thread) (c : Links) → WentWithDisks state x o a y n c → length a.entries ≤ length c.entries
grown_with state x y o a n c g = over_grown (contents_of state x) (contents_of state y) o a n c g.went

pub still_then : {D : Type 0} (state : D → DiskState) (x y z : List (DevId × D)) (o : Thread) (a : Links) (m : Thread) (b : Links) (n : Thread) (c : Links)
    → WentWithDisks state x o a y m b → WentWithDisks state y m b z n c → Still a b x y → Still b c y z → Still a c x z
still_then state x y z o a m b n c g h first second few = second (omega (arith, few, grown_with state x y o a m b g)) ∙ first (omega (arith, few, grown_with state y z m b n c h))

-- a step in which a disk may serve, after others
pub serves_then : {D : Type 0} {P : Thread → Links → Type 0} (state : D → DiskState) (dev : DevId) (x y z : List (DevId × D)) (o : Thread) (a : Links) (m : Thread) (b : Links) (n : Thread) (c : Links)
    → WentWithDisks state x o a y m b
    → WentWithDisks state y m b z n c
    → Still a b x y
    → Idles P o a m b
    → Idles (λ t links. NoServiceOn state y dev t) m b n c
    → Idles (λ t links. NoServiceOn state x dev t) o a n c
serves_then {D = D} {P = P} state dev x y z o a m b n c g h still first second few =
    let one : IsIdle P o a m b = first (omega (arith, few, grown_with state y z m b n c h)) in
    let two : IsIdle (λ t links. NoServiceOn state y dev t) m b n c = second (omega (arith, few, grown_with state x y o a m b g)) in
    let same : y ≡ x = still (omega (arith, few, grown_with state y z m b n c h)) in
    record {
      thread = two.thread ∙ one.thread;
      links = two.links ∙ one.links;
      waits = subst (λ (ds : List (DevId × D)). NoServiceOn state ds dev o) same (subst (λ (t : Thread). NoServiceOn state y dev t) one.thread two.waits);
    }

some_same : {X : Type 0} {x y : X} → Some x ≡ Some y → x ≡ y
some_same e = cc

-- the disk at a place, after those before it
pub serves_below : {D : Type 0} (state : D → DiskState) (place : ℕ) (row : DevId × D) (x y z : List (DevId × D)) (o : Thread) (a : Links) (m : Thread) (b : Links) (n : Thread) (c : Links)
    → WentWithDisks state x o a y m b
    → WentWithDisks state y m b z n c
    → Still a b x y
    → slice_get y place ≡ Some row
    → Idles (λ t links. NoServiceBelow place state x t) o a m b
    → Idles (λ t links. NoServiceOn state y row.0 t) m b n c
    → Idles (λ t links. NoServiceBelow (place + 1) state x t) o a n c
serves_below {D = D} state place row x y z o a m b n c g h still at first second few =
    let one : IsIdle (λ t links. NoServiceBelow place state x t) o a m b = first (omega (arith, few, grown_with state y z m b n c h)) in
    let two : IsIdle (λ t links. NoServiceOn state x row.0 t) o a n c = serves_then {P = λ t links. NoServiceBelow place state x t} state row.0 x y z o a m b n c g h still first second few in
    let same : y ≡ x = still (omega (arith, few, grown_with state y z m b n c h)) in
    let here : slice_get x place ≡ Some row = subst (λ (ds : List (DevId × D)). slice_get ds place ≡ Some row) same at in
    record { thread = two.thread; links = two.links; waits = λ i r less found. go here one.waits two.waits i r less found (cases_lt i place) }
  where
    go : slice_get x place ≡ Some row → NoServiceBelow place state x o → NoServiceOn state x row.0 o → (i : ℕ) (r : DevId × D) → i < place + 1 → slice_get x i ≡ Some r → (i < place) ⊎ (place ≤ i) → NoServiceOn state x r.0 o
    go here below one i r less found (inl lower) = below i r lower found
    go here below one i r less found (inr upper) =
        let same : i ≡ place = omega (arith, less, upper) in
        let is : row ≡ r = some_same (sym here ∙ subst (λ (k : ℕ). slice_get x k ≡ Some r) same found) in
        subst (λ (q : DevId × D). NoServiceOn state x q.0 o) is one

-- ---- what disks did

pub serves_none : {D : Type 0} (state : D → DiskState) (a : Moment D) → Serves state a a
serves_none state a = record { moments = []; are = refl }

are_then : {D : Type 0} (state : D → DiskState) (xs ys : List (Moment D)) (a b c : Moment D) → AreServed state xs a b → AreServed state ys b c → AreServed state (xs ++ ys) a c
are_then {D = D} state [] ys a b c g h = subst (λ (m : Moment D). AreServed state ys m c) g h
are_then state (x ∷ xs) ys a b c g h = (g.0, are_then state xs ys x b c g.1 h)

pub serves_more : {D : Type 0} (state : D → DiskState) (a b c : Moment D) → Serves state a b → Serves state b c → Serves state a c
serves_more state a b c g h = record { moments = g.moments ++ h.moments; are = are_then state g.moments h.moments a b c g.are h.are }

-- one that may have been served
pub serves_if : {D : Type 0} (state : D → DiskState) (a b : Moment D) (done : Bool) → ServesIf state a b done → Serves state a b
serves_if state a b true h = record { moments = b ∷ []; are = (h, refl) }
serves_if state a b false h = record { moments = []; are = h }

-- the disk did what the piece that is next asks, and the thread took it
pub one_served : {D E : Type 0} (state : D → DiskState) (dev : DevId) (p : OpenPiece) (end : ApplyEnd) (read : Option (List ℕ)) (size : ℕ) (ds ds' : List (DevId × D)) (t : Thread) (a : Links) (t' : Thread) (a' : Links) (result : Result Bool E)
    → Some p ≡ piece_on_disk t dev
    → size ≡ block_size t dev
    → ChangesDisk p.base (λ old new. Does size p end read (state old) (state new)) ds ds'
    → IfOk result (ServesAs dev end read t a t' a')
    → IfOk result (ServesIf state (moment ds t a) (moment ds' t' a'))
one_served state dev p end read size ds ds' t a t' a' (Err e) next sized did serves = tt
one_served {D = D} state dev p end read size ds ds' t a t' a' (Ok done) next sized did serves = go (disk_due t dev) refl serves
  where
    one : done ≡ true → ServesIf state (moment ds t a) (moment ds' t' a') done
    one is = subst (λ (b : Bool). ServesIf state (moment ds t a) (moment ds' t' a') b) (sym is) (record {
      dev = dev;
      piece = p;
      end = end;
      read = read;
      next = sym next;
      did = subst (λ (n : ℕ). ChangesDisk p.base (λ old new. Does n p end read (state old) (state new)) ds ds') sized did;
      says = subst (λ (b : Bool). ServesAs dev end read t a t' a' b) is serves;
    })

    none : Some p ≡ None → ServesIf state (moment ds t a) (moment ds' t' a') done
    none e = cc

    go : (due : Option Id) → disk_due t dev ≡ due → ServesAsBy dev end read t a t' a' done due → ServesIf state (moment ds t a) (moment ds' t' a') done
    go None e h = none (next ∙ ap (λ (o : Option Id). option_and_then (λ (id : Id). as_piece (here_in t.held.items id)) o) e)
    go (Some (ids.Piece req k)) e h = one h.0
    go (Some (ids.Request req)) e h = absurd h
    go (Some (ids.Walk walk)) e h = absurd h
    go (Some (ids.Notice sender receiver number)) e h = absurd h

-- the disk of this device, at this place, after those before it
pub serves_at : {D : Type 0} (state : D → DiskState) (place : ℕ) (dev : DevId) (x y z : List (DevId × D)) (o : Thread) (a : Links) (m : Thread) (b : Links) (n : Thread) (c : Links)
    → WentWithDisks state x o a y m b
    → WentWithDisks state y m b z n c
    → Still a b x y
    → Some dev ≡ option_map (λ (row : DevId × D). row.0) (slice_get y place)
    → Idles (λ t links. NoServiceBelow place state x t) o a m b
    → Idles (λ t links. NoServiceOn state y dev t) m b n c
    → Idles (λ t links. NoServiceBelow (place + 1) state x t) o a n c
serves_at {D = D} state place dev x y z o a m b n c g h still at first second = go (slice_get y place) refl at
  where
    none : Some dev ≡ None → Idles (λ t links. NoServiceBelow (place + 1) state x t) o a n c
    none e = cc

    go : (r : Option (DevId × D)) → slice_get y place ≡ r → Some dev ≡ option_map (λ (row : DevId × D). row.0) r → Idles (λ t links. NoServiceBelow (place + 1) state x t) o a n c
    go None e is = none is
    go (Some row) e is = serves_below state place row x y z o a m b n c g h still e first (subst (λ (d : DevId). Idles (λ t links. NoServiceOn state y d t) m b n c) (some_same is) second)

-- after the last of them
pub serves_all : {D : Type 0} (state : D → DiskState) (count : ℕ) (x : List (DevId × D)) (o : Thread) (a : Links) (n : Thread) (c : Links)
    → length x ≤ count
    → Idles (λ t links. NoServiceBelow count state x t) o a n c
    → Idles (λ t links. NoService state x t) o a n c
serves_all state count x o a n c whole first few =
    let one : IsIdle (λ t links. NoServiceBelow count state x t) o a n c = first few in
    record { thread = one.thread; links = one.links; waits = λ i row found. one.waits i row (omega (arith, whole, slice_get_within x i row found)) found }

-- a place below their number has one
pub serves_there : {D : Type 0} {Q : Type 0} (place : ℕ) (x y : List (DevId × D)) (a c : Links)
    → place < length x
    → None ≡ option_map (λ (row : DevId × D). row.0) (slice_get y place)
    → Still a c x y
    → length c.entries ≤ length a.entries
    → Q
serves_there {D = D} {Q = Q} place x y a c within none still few = go x place within (subst (λ (ds : List (DevId × D)). None ≡ option_map (λ (row : DevId × D). row.0) (slice_get ds place)) (still few) none)
  where
    no : {X : Type 0} {z : X} → None ≡ Some z → Q
    no e = cc

    go : (xs : List (DevId × D)) (i : ℕ) → i < length xs → None ≡ option_map (λ (row : DevId × D). row.0) (slice_get xs i) → Q
    go [] i within none = absurd (omega (arith, within))
    go (r ∷ rs) zero within none = no none
    go (r ∷ rs) (suc i) within none = go rs i (omega (arith, within)) none
