-- What seats that rest, are blocked or destructed all see, by the number of their thread.
use Rattle.std.proofs.Common.{◌≡◌, ℕ, ◌^◌, ◌<◌, Bool, true, false, cond, not, ◌&&◌, ◌||◌, ◌==◌, List, [], ◌∷◌, length, Option, Some, None, is_none, refl, sym, ◌∙◌, ap, subst, eq-eqb}
use Rattle.std.proofs.Common.{eqb-true, nat_lt, arith}
use Rattle.std.specs.List.{list_all, list_any, range_with_len, slice_get}
use Rattle.std.proofs.lemmas.Bool.{and_parts}
use Rattle.std.proofs.lemmas.Nat.{mod_below}
use Rattle.bd_base.specs.declared.id.DevId.{DevId}
use Rattle.bd_base.specs.declared.id.HandleId.{HandleId}
use Rattle.bd_base.specs.declared.setup.Setup.{Setup}
use Rattle.bd_machine.specs.declared.state.Handle.{Handle}
use Rattle.bd_machine.specs.declared.state.Id.{Id}
use Rattle.bd_machine.specs.declared.state.Id.TheVariants.{Request, Piece, Walk, Notice}
use Rattle.bd_machine.specs.declared.state.Kept.{Kept}
use Rattle.bd_machine.specs.declared.state.Kept.TheVariants as keeps
use Rattle.bd_machine.specs.declared.state.Part.{Part}
use Rattle.bd_machine.specs.declared.state.Prior.{Prior}
use Rattle.bd_machine.specs.Admission.{is_gone}
use Rattle.bd_machine.specs.Asked.{is_script_blocked, open_on}
use Rattle.bd_machine.specs.BlockMap.{base_of, home}
use Rattle.bd_machine.specs.Marks.{has_any_mark}
use Rattle.bd_machine.specs.Messages.{count_at}
use Rattle.bd_machine.specs.Registry.{handle_of}
use Rattle.bd_machine.specs.Same.{same_dev, same_handle, same_id}
use Rattle.bd_machine.specs.Users.{dev_of, is_base_handle}
use Rattle.bd_machine.specs.View.{View}
use Rattle.bd_machine.proofs.Tables.{id_same}
use Rattle.bd_turns.specs.Laws.{is_left_open_in, is_resting_here, AreBlocked, AreDestructed}
use Rattle.bd_turns.specs.Local.{Local}
use Rattle.bd_tokens.specs.Pended.{are_own_pended, is_own_pended}
use Rattle.bd_tokens.specs.Tokens.{here_in}
use Rattle.bd_law_logs.specs.Laws.{AreAllTaken, AreSpent}
use Rattle.bd_law_threads.specs.Course.{Phase}
use Rattle.bd_law_threads.specs.Ends.{Rests}
use Rattle.bd_law_threads.specs.Steps.{local_at_start}
use Rattle.bd_thread.specs.declared.links.Links.{Links}
use Rattle.bd_thread.specs.declared.thread.Thread.{Thread}
use Rattle.bd_thread.specs.Resting.{has_destructed_all, is_done, is_settled, rests}
use Rattle.bd_thread.specs.Seen.{number_of, setup_of, view_of}
use Rattle.bd_wires.specs.declared.wires.Wires.{Wires}
use Rattle.bd_worker.specs.declared.seat.Seat.{Seat}
use Rattle.bd_worker.specs.Seats.{seen_over, Past}
use Rattle.bd_outside.specs.Disk.{DiskState}
use Rattle.bd_disks.specs.Contents.{contents_of}
use Rattle.bd_node.specs.Whole.{are_all_taken, has_taken, seat_has_destructed, seat_is_blocked, seat_is_done, seat_rests, AreSeated}
use Rattle.bd_worker.proofs.Places.{all_at, all_below, has_at}

-- ---- what seats see

-- with what its disks hold
abbrev pub local_of : {D : Type 0} → (D → DiskState) → Setup → Seat D → Local
local_of state setup s = seen_over setup (contents_of state s.disks) s.worker

abbrev pub local_or : {D : Type 0} → (D → DiskState) → Setup → ℕ → Option (Seat D) → Local
local_or state setup t None = local_at_start setup [] t
local_or state setup t (Some s) = local_of state setup s

-- what the thread with this number sees and has for itself
abbrev pub locals_of : {D : Type 0} → (D → DiskState) → Setup → List (Seat D) → ℕ → Local
locals_of state setup seats t = local_or state setup t (slice_get seats t)

abbrev pub views_of : {D : Type 0} → (D → DiskState) → Setup → List (Seat D) → ℕ → View
views_of state setup seats t = (locals_of state setup seats t).view

-- ---- by parts

nothing : {X : Type 0} (xs : List X) → (length xs == 0) ≡ true → xs ≡ []
nothing [] h = refl
nothing (x ∷ xs) h = absurd (let e : length (x ∷ xs) ≡ 0 = eqb-true (length (x ∷ xs)) 0 h in omega (arith, e))

none_held : (held : List (Id × Kept)) → held ≡ [] → (id : Id) → here_in held id ≡ None
none_held held e id = ap (λ (h : List (Id × Kept)). here_in h id) e

none_taken : (o : Option Prior) → is_none o ≡ true → o ≡ None
none_taken None h = refl
none_taken (Some x) h = cc

-- what a thread at rest has
pub record HasRest (t : Thread) (links : Links) : Type 0 where
  pub due : t.part.due ≡ []
  pub owed : t.part.owed ≡ []
  pub prior : t.part.prior ≡ None
  pub pended : are_own_pended t.setup.now t.part t.me t.held.items ≡ true
  pub settled : list_all (is_settled t links) t.part.gone ≡ true

pub rests_of : (t : Thread) (links : Links) → rests t links ≡ true → HasRest t links
rests_of t links h =
    let sent : Bool = length t.outbox.items == 0 in
    let due : Bool = length t.part.due == 0 in
    let owed : Bool = length t.part.owed == 0 in
    let prior : Bool = is_none t.part.prior in
    let pended : Bool = are_own_pended t.setup.now t.part t.me t.held.items in
    let p = and_parts (sent && due && owed && prior && pended) (list_all (is_settled t links) t.part.gone) h in
    let q = and_parts (sent && due && owed && prior) pended p.0 in
    let r = and_parts (sent && due && owed) prior q.0 in
    let u = and_parts (sent && due) owed r.0 in
    record {
      due = nothing t.part.due (and_parts sent due u.0).1;
      owed = nothing t.part.owed u.1;
      prior = none_taken t.part.prior r.1;
      pended = q.1;
      settled = p.1;
    }

-- what a thread that is done has
pub record HasNone (t : Thread) : Type 0 where
  pub held : t.held.items ≡ []
  pub due : t.part.due ≡ []
  pub owed : t.part.owed ≡ []

pub none_of : (t : Thread) → is_done t ≡ true → HasNone t
none_of t h =
    let held : Bool = length t.held.items == 0 in
    let due : Bool = length t.part.due == 0 in
    let owed : Bool = length t.part.owed == 0 in
    let p = and_parts (held && due && owed) (is_none t.part.prior) h in
    let q = and_parts (held && due) owed p.0 in
    let r = and_parts held due q.0 in
    record { held = nothing t.held.items r.0; due = nothing t.part.due r.1; owed = nothing t.part.owed q.1 }

-- ---- tokens at rest

-- a pended request of this thread rests here, where the same devices carry marks
pended_rests : (setup : Setup) (v : View) (part : Part) (me : ℕ) → ((dev : DevId) → has_any_mark setup v.part dev ≡ has_any_mark setup part dev) → (id : Id) (kept : Kept)
    → is_own_pended setup part me id kept ≡ true → is_resting_here setup me v id (Some kept) ≡ true
pended_rests setup v part me same (Request req) (keeps.Request r) h = ap (λ b. (req.thread == me) && (r.pended && is_none r.aborted && not b)) (same r.dev) ∙ h
pended_rests setup v part me same (Request req) (keeps.Piece p) h = cc
pended_rests setup v part me same (Request req) (keeps.Walk w) h = cc
pended_rests setup v part me same (Request req) (keeps.Notice news) h = cc
pended_rests setup v part me same (Piece req k) kept h = cc
pended_rests setup v part me same (Walk walk) kept h = cc
pended_rests setup v part me same (Notice sender receiver number) kept h = cc

-- where all are, what is here of any token rests
all_pended_rest : (setup : Setup) (v : View) (part : Part) (me : ℕ) → ((dev : DevId) → has_any_mark setup v.part dev ≡ has_any_mark setup part dev) → (items : List (Id × Kept))
    → are_own_pended setup part me items ≡ true → (id : Id) → is_resting_here setup me v id (here_in items id) ≡ true
all_pended_rest setup v part me same [] all id = refl
all_pended_rest setup v part me same (x ∷ xs) all id =
    let p = and_parts (is_own_pended setup part me x.0 x.1) (are_own_pended setup part me xs) all in
    go (same_id x.0 id) refl (pended_rests setup v part me same x.0 x.1 p.0) (all_pended_rest setup v part me same xs p.1 id)
  where
    go : (b : Bool) → same_id x.0 id ≡ b → is_resting_here setup me v x.0 (Some x.1) ≡ true → is_resting_here setup me v id (here_in xs id) ≡ true → is_resting_here setup me v id (cond b (Some x.1) (here_in xs id)) ≡ true
    go true e this others = subst (λ (i : Id). is_resting_here setup me v i (Some x.1) ≡ true) (id_same.exact x.0 id e) this
    go false e this others = others

-- ---- handles that a thread closes by itself

-- a handle whose remove event was taken is a base handle, or isn't open
gone_settled : (t : Thread) (links : Links) (id : HandleId) (gone : List HandleId) → list_all (is_settled t links) gone ≡ true → list_any (same_handle id) gone ≡ true → is_settled t links id ≡ true
gone_settled t links id [] all h = cc
gone_settled t links id (g ∷ gs) all h =
    let parts = and_parts (is_settled t links g) (list_all (is_settled t links) gs) all in
    go (same_handle id g) refl parts.0 h (gone_settled t links id gs parts.1)
  where
    go : (b : Bool) → same_handle id g ≡ b → is_settled t links g ≡ true → b || list_any (same_handle id) gs ≡ true → (list_any (same_handle id) gs ≡ true → is_settled t links id ≡ true)
        → is_settled t links id ≡ true
    go true e k any rest = ap (λ (n : ℕ). is_settled t links (record { 0 = n })) (eqb-true id.0 g.0 e) ∙ k
    go false e k any rest = rest any

-- where each of these is open by its number, none is left open
none_left_open : (t : Thread) (links : Links) (setup : Setup) → setup_of t ≡ setup → list_all (is_settled t links) t.part.gone ≡ true → (hs : List Handle)
    → ((id : HandleId) → handle_of (view_of t links).handles id ≡ None → handle_of hs id ≡ None)
    → list_any (is_left_open_in setup (view_of t links)) hs ≡ false
none_left_open t links setup given all [] among = refl
none_left_open t links setup given all (h ∷ hs) among =
    ap (λ b. b || list_any (is_left_open_in setup v) hs) (one (is_base_handle setup h.id) (is_gone v.part h.id) refl refl)
    ∙ none_left_open t links setup given all hs (λ id none. behind id (same_handle h.id id) (among id none))
  where
    v : View
    v = view_of t links

    behind : (id : HandleId) (b : Bool) → cond b (Some h) (handle_of hs id) ≡ None → handle_of hs id ≡ None
    behind id true e = cc
    behind id false e = e

    -- it is found by its own number
    found : handle_of v.handles h.id ≡ None → ⊥
    found none = mine (same_handle h.id h.id) (eq-eqb h.id.0 h.id.0 refl) (among h.id none)
      where
        mine : (b : Bool) → b ≡ true → cond b (Some h) (handle_of hs h.id) ≡ None → ⊥
        mine true e k = cc
        mine false e k = cc

    settled_base : (b : Bool) (o : Option Handle) → handle_of v.handles h.id ≡ o → b || is_none o ≡ true → b ≡ true
    settled_base true o e k = refl
    settled_base false None e k = absurd (found e)
    settled_base false (Some x) e k = k

    one : (base gone : Bool) → is_base_handle setup h.id ≡ base → is_gone v.part h.id ≡ gone → not base && gone && (open_on v.part h.id == 0) ≡ false
    one true gone b g = refl
    one false false b g = refl
    one false true b g =
        let own : is_base_handle t.setup.now h.id ≡ true = settled_base (is_base_handle t.setup.now h.id) (handle_of v.handles h.id) refl (gone_settled t links h.id t.part.gone all g) in
        absurd (clash (sym b ∙ ap (λ (s : Setup). is_base_handle s h.id) (sym given) ∙ own))
      where
        clash : false ≡ true → ⊥
        clash e = cc

one_of : (b c : Bool) → (not b || c) ≡ true → b ≡ true → c ≡ true
one_of true c h e = h
one_of false c h e = cc

-- another thread is the home of a device, or it was destructed
abbrev is_gone_at : Thread → ℕ → Bool
is_gone_at x k = not (home x.setup.now (dev_of k) == x.me) || list_any (same_dev (dev_of k)) x.part.destructed

-- ---- the seats of a node

module _ {D : Type 0} (state : D → DiskState) (setup : Setup) (w : Wires) (starts : List (List (DevId × D))) (pasts : ℕ → Past) (seats : List (Seat D)) (shut : Bool) (phases : ℕ → Phase) (a : AreSeated state setup w starts pasts seats shut phases) where
  abbrev seen : ℕ → View
  seen = views_of state setup seats

  -- the seat of a thread that exists
  pub seat_at : (t : ℕ) → t < setup.threads → (s : Seat D) × (slice_get seats t ≡ Some s)
  seat_at t lt = has_at seats t (subst (λ (n : ℕ). t < n) (sym a.len) lt)

  -- the thread at a seat knows its number and its setup
  pub me_of : (t : ℕ) (s : Seat D) → slice_get seats t ≡ Some s → s.worker.me ≡ t
  me_of t s e = (a.each t s e).sits.seat.worker.me

  pub number_at : (t : ℕ) (s : Seat D) → slice_get seats t ≡ Some s → number_of s.worker.thread ≡ t
  number_at t s e = (a.each t s e).sits.seat.worker.number

  pub given_at : (t : ℕ) (s : Seat D) → slice_get seats t ≡ Some s → setup_of s.worker.thread ≡ setup
  given_at t s e = (a.each t s e).sits.seat.worker.given

  -- what holds of each seat by what it sees holds of the views
  of_each : (p : Seat D → Bool) (q : ℕ → View → Type 0) → list_all p seats ≡ true
      → ((t : ℕ) (s : Seat D) → number_of s.worker.thread ≡ t → setup_of s.worker.thread ≡ setup → p s ≡ true → q t (local_of state setup s).view)
      → (t : ℕ) → t < setup.threads → q t (seen t)
  of_each p q all gives t lt =
      let u = seat_at t lt in
      subst (λ (v : View). q t v) (sym (ap (λ (o : Option (Seat D)). (local_or state setup t o).view) u.1))
      (gives t u.0 (number_at t u.0 u.1) (given_at t u.0 u.1) (all_at p seats t u.0 all u.1))

  -- all rest
  pub all_rest : list_all seat_rests seats ≡ true → (t : ℕ) → t < setup.threads → Rests setup t (seen t)
  all_rest rest = of_each seat_rests (λ t v. Rests setup t v) rest one
    where
      one : (t : ℕ) (s : Seat D) → number_of s.worker.thread ≡ t → setup_of s.worker.thread ≡ setup → seat_rests s ≡ true → Rests setup t (local_of state setup s).view
      one t s number given h =
          let x : Thread = s.worker.thread in
          let v : View = (local_of state setup s).view in
          let r : HasRest x s.worker.links = rests_of x s.worker.links h in
          record {
            none_due = r.due;
            none_owed = r.owed;
            closed = none_left_open x s.worker.links setup given r.settled v.handles (λ id none. none);
            resting = λ id.
                subst (λ (n : ℕ). is_resting_here setup n v id (v.here id) ≡ true) number
                (subst (λ (y : Setup). is_resting_here y (number_of x) v id (v.here id) ≡ true) given
                (all_pended_rest x.setup.now v x.part x.me (λ dev. refl) x.held.items r.pended id));
          }

  -- what a thread has that is done
  done_at : list_all seat_is_done seats ≡ true → (q : View → Type 0) → ((s : Seat D) → HasNone s.worker.thread → q (local_of state setup s).view) → (t : ℕ) → t < setup.threads → q (seen t)
  done_at done q gives = of_each seat_is_done (λ t v. q v) done (λ t s number given h. gives s (none_of s.worker.thread h))

  -- the last entry of none asks for one directly after it
  pub none_injected : list_all seat_rests seats ≡ true → (t : ℕ) → t < setup.threads → (seen t).part.prior ≡ None
  none_injected rest = of_each seat_rests (λ t v. v.part.prior ≡ None) rest (λ t s number given h. (rests_of s.worker.thread s.worker.links h).prior)

  -- every message was taken
  pub all_taken : are_all_taken seats ≡ true → AreAllTaken setup.threads seen
  all_taken taken t u low lt =
      let from = seat_at t low in
      let to = seat_at u lt in
      let one : has_taken from.0 to.0 ≡ true =
      all_at (λ x. has_taken from.0 x) seats u to.0 (all_at (λ x. list_all (λ y. has_taken x y) seats) seats t from.0 taken from.1) to.1 in
      ap (λ (o : Option (Seat D)). count_at (local_or state setup t o).view.part.put u) from.1
      ∙ ap (λ (n : ℕ). count_at from.0.worker.thread.part.put n) (sym (me_of u to.0 to.1))
      ∙ eqb-true (count_at from.0.worker.thread.part.put to.0.worker.me) (count_at to.0.worker.thread.part.taken from.0.worker.me) one
      ∙ ap (λ (n : ℕ). count_at to.0.worker.thread.part.taken n) (me_of t from.0 from.1)
      ∙ sym (ap (λ (o : Option (Seat D)). count_at (local_or state setup u o).view.part.taken t) to.1)

  -- where all are done, no token is on any, and none has anything still to put or to do
  pub are_spent : list_all seat_is_done seats ≡ true → are_all_taken seats ≡ true → AreSpent setup.threads seen
  are_spent done taken = record {
    none_here = done_at done (λ v. (id : Id) → v.here id ≡ None) (λ s h id. none_held s.worker.thread.held.items h.held id);
    none_due = done_at done (λ v. v.part.due ≡ []) (λ s h. h.due);
    none_owed = done_at done (λ v. v.part.owed ≡ []) (λ s h. h.owed);
    all_taken = all_taken taken;
  }

  pub are_blocked : list_all seat_is_blocked seats ≡ true → AreBlocked setup seen
  are_blocked all = of_each seat_is_blocked (λ t v. is_script_blocked setup t v ≡ true) all
      (λ t s number given h.
      subst (λ (n : ℕ). is_script_blocked setup n (local_of state setup s).view ≡ true) number
      (subst (λ (x : Setup). is_script_blocked x (number_of s.worker.thread) (local_of state setup s).view ≡ true) given h))

  pub are_destructed : list_all seat_has_destructed seats ≡ true → AreDestructed setup seen
  are_destructed all n lt =
      let at = home setup (dev_of n) in
      of_each seat_has_destructed (λ t v. (t ≡ at) → list_any (same_dev (dev_of n)) v.part.destructed ≡ true) all
      (λ t s number given h same. one t s.worker.thread number given h same) at (mod_below (base_of setup (dev_of n)).0 setup.threads a.some) refl
    where
      one : (t : ℕ) (x : Thread) → number_of x ≡ t → setup_of x ≡ setup → has_destructed_all x ≡ true → t ≡ home setup (dev_of n) → list_any (same_dev (dev_of n)) x.part.destructed ≡ true
      one t x number given h same =
          let devices : ℕ = length x.setup.now.devices in
          let every = (and_parts (nat_lt devices (2 ^ 32)) (list_all (is_gone_at x) (range_with_len 0 devices)) h).1 in
          let here = all_below (is_gone_at x) devices n every (subst (λ (s : Setup). n < length s.devices) (sym given) lt) in
          one_of (home x.setup.now (dev_of n) == x.me) (list_any (same_dev (dev_of n)) x.part.destructed) here
          (eq-eqb (home x.setup.now (dev_of n)) x.me (ap (λ (s : Setup). home s (dev_of n)) given ∙ sym same ∙ sym number))
