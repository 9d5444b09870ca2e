-- How the table of handles goes with the list of all handles.
use Rattle.std.proofs.Common.{◌≡◌, ◌≢◌, ℕ, zero, suc, ◌+◌, ◌<◌, ◌≤◌, Bool, true, false, not, cond, ◌&&◌, ◌==◌, ◌⊎◌, inl, inr, List, [], ◌∷◌, ◌++◌, length, map, Some, None, refl, sym, ◌∙◌, ap, eqb-true, eq-eqb, ne_eqb, lt-ltb, le-ltb, nat_lt, option_to_list, append-nil, arith}
use Rattle.std.specs.Prelude.{slice_get}
use Rattle.std.specs.List.{AllByRecursion, filter}
use Rattle.std.proofs.lemmas.Bool.{cases_eq, cases_lt}
use Rattle.bd_base.specs.declared.event.Answer.{Answer}
use Rattle.bd_base.specs.declared.event.Answer.TheVariants as answers
use Rattle.bd_base.specs.declared.event.ClaimKind.{ClaimKind}
use Rattle.bd_base.specs.declared.event.RegEvent.{RegEvent}
use Rattle.bd_base.specs.declared.event.RegEvent.TheVariants as events
use Rattle.bd_base.specs.declared.id.DevId.{DevId}
use Rattle.bd_base.specs.declared.id.HandleId.{HandleId}
use Rattle.bd_machine.specs.declared.state.Handle.{Handle}
use Rattle.bd_machine.specs.Changes.{handles_after, with_claim}
use Rattle.bd_machine.specs.Registry.{handle_of, is_on, is_own}
use Rattle.bd_machine.specs.Same.{same_handle}
use Rattle.bd_machine.specs.View.{is_of}
use Rattle.bd_machine.proofs.Laws.{filter_push, filter_twice, filter_map_commutes}
use Rattle.bd_machine.proofs.Tables.{dev_exact}
use Rattle.bd_rule_channels.specs.ByDevice.{place_of, row_at, with_row}
use Rattle.bd_rule_channels.proofs.Rows.{row_same, row_other, row_where_same}
use Rattle.bd_registry.specs.Handles.{HandleTable, IsNumbered, Keeps, Rise, named_handle, with_handle}

-- ---- what stays of the handles of one device

claim_stays : (t : ℕ) (d : DevId) (id : HandleId) (kind : ClaimKind) (h : Handle) → is_on d (cond (is_own t id h) (with_claim kind h) h) ≡ is_on d h
claim_stays t d id kind h = go (is_own t id h)
  where
    go : (b : Bool) → is_on d (cond b (with_claim kind h) h) ≡ is_on d h
    go true = refl
    go false = refl

-- two lists with the same handles of the device have the same ones after a close or a claim
pub on_changed : (t : ℕ) (d : DevId) (xs ys : List Handle) (event : RegEvent) (answer : Answer) (id : HandleId) → named_handle event ≡ Some id
    → filter (is_on d) xs ≡ filter (is_on d) ys → filter (is_on d) (handles_after t xs event answer) ≡ filter (is_on d) (handles_after t ys event answer)
on_changed t d xs ys (events.Close i) (answers.Closed destruct) id n e =
    let left : Handle → Bool = λ h. not (is_own t i h) in
    filter_twice (is_on d) left xs ∙ ap (filter left) e ∙ sym (filter_twice (is_on d) left ys)
on_changed t d xs ys (events.Claim i kind) answers.Claimed id n e =
    let claimed : Handle → Handle = λ h. cond (is_own t i h) (with_claim kind h) h in
    filter_map_commutes (is_on d) claimed (claim_stays t d i kind) xs ∙ ap (map claimed) e ∙ sym (filter_map_commutes (is_on d) claimed (claim_stays t d i kind) ys)
on_changed t d xs ys (events.Close i) _ id n e = e
on_changed t d xs ys (events.Claim i kind) _ id n e = e
on_changed t d xs ys _ _ id n e = cc

-- ---- all handles keep their numbers

all_left : (P : Handle → Type 0) (is : Handle → Bool) (hs : List Handle) → AllByRecursion P hs → AllByRecursion P (filter is hs)
all_left P is [] a = tt
all_left P is (h ∷ hs) a = go (is h) (all_left P is hs a.1)
  where
    go : (b : Bool) → AllByRecursion P (filter is hs) → AllByRecursion P (cond b (h ∷ filter is hs) (filter is hs))
    go true ih = (a.0, ih)
    go false ih = ih

all_claimed : (ds : List DevId) (t : ℕ) (id : HandleId) (kind : ClaimKind) (hs : List Handle) → AllByRecursion (IsNumbered ds) hs
    → AllByRecursion (IsNumbered ds) (map (λ (h : Handle). cond (is_own t id h) (with_claim kind h) h) hs)
all_claimed ds t id kind [] a = tt
all_claimed ds t id kind (h ∷ hs) a = (go (is_own t id h), all_claimed ds t id kind hs a.1)
  where
    go : (b : Bool) → IsNumbered ds (cond b (with_claim kind h) h)
    go true = a.0
    go false = a.0

pub numbered_changed : (ds : List DevId) (t : ℕ) (hs : List Handle) (event : RegEvent) (answer : Answer) (id : HandleId) → named_handle event ≡ Some id
    → AllByRecursion (IsNumbered ds) hs → AllByRecursion (IsNumbered ds) (handles_after t hs event answer)
numbered_changed ds t hs (events.Close i) (answers.Closed destruct) id n a = all_left (IsNumbered ds) (λ h. not (is_own t i h)) hs a
numbered_changed ds t hs (events.Claim i kind) answers.Claimed id n a = all_claimed ds t i kind hs a
numbered_changed ds t hs (events.Close i) _ id n a = a
numbered_changed ds t hs (events.Claim i kind) _ id n a = a
numbered_changed ds t hs _ _ id n a = cc

-- ---- numbers rise

pub rise_from : (m n : ℕ) (hs : List Handle) → m ≤ n → Rise n hs → Rise m hs
rise_from m n [] le r = tt
rise_from m n (h ∷ hs) le r = (omega (arith, r.0), r.1)

rise_left : (is : Handle → Bool) (n : ℕ) (hs : List Handle) → Rise n hs → Rise n (filter is hs)
rise_left is n [] r = tt
rise_left is n (h ∷ hs) r = go (is h) (rise_left is (h.id.0 + 1) hs r.1)
  where
    go : (b : Bool) → Rise (h.id.0 + 1) (filter is hs) → Rise n (cond b (h ∷ filter is hs) (filter is hs))
    go true ih = (r.0, ih)
    go false ih = rise_from n (h.id.0 + 1) (filter is hs) (omega (arith, r.0)) ih

rise_claimed : (t : ℕ) (id : HandleId) (kind : ClaimKind) (n : ℕ) (hs : List Handle) → Rise n hs → Rise n (map (λ (h : Handle). cond (is_own t id h) (with_claim kind h) h) hs)
rise_claimed t id kind n [] r = tt
rise_claimed t id kind n (h ∷ hs) r = go (is_own t id h) (rise_claimed t id kind (h.id.0 + 1) hs r.1)
  where
    claimed : List Handle
    claimed = map (λ (h : Handle). cond (is_own t id h) (with_claim kind h) h) hs

    go : (b : Bool) → Rise (h.id.0 + 1) claimed → Rise n (cond b (with_claim kind h) h ∷ claimed)
    go true ih = (r.0, ih)
    go false ih = (r.0, ih)

pub rise_changed : (t : ℕ) (hs : List Handle) (event : RegEvent) (answer : Answer) (id : HandleId) → named_handle event ≡ Some id → Rise 0 hs → Rise 0 (handles_after t hs event answer)
rise_changed t hs (events.Close i) (answers.Closed destruct) id n r = rise_left (λ h. not (is_own t i h)) 0 hs r
rise_changed t hs (events.Claim i kind) answers.Claimed id n r = rise_claimed t i kind 0 hs r
rise_changed t hs (events.Close i) _ id n r = r
rise_changed t hs (events.Claim i kind) _ id n r = r
rise_changed t hs _ _ id n r = cc

get_below : (ds : List DevId) (n : ℕ) (d : DevId) → slice_get ds n ≡ Some d → n < length ds
get_below [] n d h = absurd cc
get_below (x ∷ xs) zero d h = omega arith
get_below (x ∷ xs) (suc n) d h = omega (arith, get_below xs n d h)

-- a handle with the next number comes last
rise_more : (ds : List DevId) (n : ℕ) (hs : List Handle) (h : Handle) → n ≤ h.id.0 → h.id.0 ≡ length ds → AllByRecursion (IsNumbered ds) hs → Rise n hs → Rise n (hs ++ h ∷ [])
rise_more ds n [] h le e a r = (le, tt)
rise_more ds n (x ∷ xs) h le e a r = (r.0, rise_more ds (x.id.0 + 1) xs h (omega (arith, get_below ds x.id.0 x.dev a.0, e)) e a.1 r.1)

-- ---- a device none of whose handles is named

-- no handle of this number is on the device
abbrev pub Elsewhere : List DevId → HandleId → DevId → Type 0
Elsewhere ds id d = (h : Handle) → IsNumbered ds h → same_handle h.id id ≡ true → is_on d h ≡ false

unclosed : (ds : List DevId) (t : ℕ) (id : HandleId) (d : DevId) (hs : List Handle) → Elsewhere ds id d → AllByRecursion (IsNumbered ds) hs
    → filter (is_on d) (filter (λ h. not (is_own t id h)) hs) ≡ filter (is_on d) hs
unclosed ds t id d [] e a = refl
unclosed ds t id d (h ∷ hs) e a = go (same_handle h.id id) (h.thread.0 == t) refl (unclosed ds t id d hs e a.1)
  where
    left : List Handle
    left = filter (λ h. not (is_own t id h)) hs

    go : (b k : Bool) → same_handle h.id id ≡ b → filter (is_on d) left ≡ filter (is_on d) hs → filter (is_on d) (cond (not (b && k)) (h ∷ left) left) ≡ cond (is_on d h) (h ∷ filter (is_on d) hs) (filter (is_on d) hs)
    go true true at ih = ih ∙ sym (ap (λ c. cond c (h ∷ filter (is_on d) hs) (filter (is_on d) hs)) (e h a.0 at))
    go true false at ih = ap (λ zs. cond (is_on d h) (h ∷ zs) zs) ih
    go false k at ih = ap (λ zs. cond (is_on d h) (h ∷ zs) zs) ih

unclaimed : (ds : List DevId) (t : ℕ) (id : HandleId) (kind : ClaimKind) (d : DevId) (hs : List Handle) → Elsewhere ds id d → AllByRecursion (IsNumbered ds) hs
    → filter (is_on d) (map (λ (h : Handle). cond (is_own t id h) (with_claim kind h) h) hs) ≡ filter (is_on d) hs
unclaimed ds t id kind d [] e a = refl
unclaimed ds t id kind d (h ∷ hs) e a = go (same_handle h.id id) (h.thread.0 == t) refl (unclaimed ds t id kind d hs e a.1)
  where
    claimed : List Handle
    claimed = map (λ (h : Handle). cond (is_own t id h) (with_claim kind h) h) hs

    hidden : (b : Bool) (x y : Handle) (zs : List Handle) → b ≡ false → cond b (x ∷ zs) zs ≡ cond b (y ∷ zs) zs
    hidden true x y zs n = cc
    hidden false x y zs n = refl

    go : (b k : Bool) → same_handle h.id id ≡ b → filter (is_on d) claimed ≡ filter (is_on d) hs
        → filter (is_on d) (cond (b && k) (with_claim kind h) h ∷ claimed) ≡ cond (is_on d h) (h ∷ filter (is_on d) hs) (filter (is_on d) hs)
    go true true at ih = ap (λ zs. cond (is_on d h) (with_claim kind h ∷ zs) zs) ih ∙ hidden (is_on d h) (with_claim kind h) h (filter (is_on d) hs) (e h a.0 at)
    go true false at ih = ap (λ zs. cond (is_on d h) (h ∷ zs) zs) ih
    go false k at ih = ap (λ zs. cond (is_on d h) (h ∷ zs) zs) ih

pub on_unchanged : (ds : List DevId) (t : ℕ) (d : DevId) (hs : List Handle) (event : RegEvent) (answer : Answer) (id : HandleId) → named_handle event ≡ Some id → Elsewhere ds id d
    → AllByRecursion (IsNumbered ds) hs → filter (is_on d) (handles_after t hs event answer) ≡ filter (is_on d) hs
on_unchanged ds t d hs (events.Close i) (answers.Closed destruct) id n e a =
    let same : i ≡ id = cc in unclosed ds t i d hs (λ h m s. e h m (ap (λ (j : HandleId). same_handle h.id j) (sym same) ∙ s)) a
on_unchanged ds t d hs (events.Claim i kind) answers.Claimed id n e a =
    let same : i ≡ id = cc in unclaimed ds t i kind d hs (λ h m s. e h m (ap (λ (j : HandleId). same_handle h.id j) (sym same) ∙ s)) a
on_unchanged ds t d hs (events.Close i) _ id n e a = refl
on_unchanged ds t d hs (events.Claim i kind) _ id n e a = refl
on_unchanged ds t d hs _ _ id n e a = cc

-- ---- the table after a close or a claim

id_exact : (a b : HandleId) → same_handle a b ≡ true → a ≡ b
id_exact a b h = ap (λ (n : ℕ). let i : HandleId = record { 0 = n } in i) (eqb-true a.0 b.0 h)

module _ (table : HandleTable) (t : ℕ) (hs : List Handle) (event : RegEvent) (answer : Answer) (id : HandleId) (named : named_handle event ≡ Some id) (keeps : Keeps table hs) where
  abbrev place : DevId → ℕ
  place d = place_of (length table.rows) d

  -- where the handle is on a device, and the table has that device's row as it is then
  pub row_changed : (dev : DevId) → slice_get table.devices id.0 ≡ Some dev → 0 < length table.rows
      → Keeps (record table { rows = with_row table.rows dev (handles_after t (row_at table.rows dev) event answer) }) (handles_after t hs event answer)
  row_changed dev at room = record {
    on_each = each;
    numbered = numbered_changed table.devices t hs event answer id named keeps.numbered;
    rising = rise_changed t hs event answer id named keeps.rising;
  }
    where
      row : List Handle
      row = handles_after t (row_at table.rows dev) event answer

      away : (d : DevId) → (place dev ≢ place d) → Elsewhere table.devices id d
      away d ne h m s = go (is_on d h) refl
        where
          go : (b : Bool) → is_on d h ≡ b → b ≡ false
          go false e = refl
          go true e =
              let on : h.dev ≡ d = dev_exact h.dev d e in
              let there : Some h.dev ≡ Some dev = sym m ∙ ap (λ (j : HandleId). slice_get table.devices j.0) (id_exact h.id id s) ∙ at in
              let is : h.dev ≡ dev = cc in
              absurd (ne (ap place (sym is ∙ on)))

      each : (d : DevId) → filter (is_on d) (row_at (with_row table.rows dev row) d) ≡ filter (is_on d) (handles_after t hs event answer)
      each d = go (cases_eq (place dev) (place d))
        where
          go : (place dev ≡ place d) ⊎ (place dev ≢ place d) → filter (is_on d) (row_at (with_row table.rows dev row) d) ≡ filter (is_on d) (handles_after t hs event answer)
          go (inl e) =
              ap (filter (is_on d)) (row_same table.rows dev d row room e)
              ∙ on_changed t d (row_at table.rows dev) hs event answer id named (ap (filter (is_on d)) (row_where_same table.rows dev d [] e) ∙ keeps.on_each d)
          go (inr ne) =
              ap (filter (is_on d)) (row_other table.rows dev d row (λ e. ne (sym e))) ∙ keeps.on_each d
              ∙ sym (on_unchanged table.devices t d hs event answer id named (away d ne) keeps.numbered)

  -- where no handle of this number was ever opened
  pub none_changed : slice_get table.devices id.0 ≡ None → Keeps table (handles_after t hs event answer)
  none_changed at = record {
    on_each = λ d. keeps.on_each d ∙ sym (on_unchanged table.devices t d hs event answer id named (away d) keeps.numbered);
    numbered = numbered_changed table.devices t hs event answer id named keeps.numbered;
    rising = rise_changed t hs event answer id named keeps.rising;
  }
    where
      away : (d : DevId) → Elsewhere table.devices id d
      away d h m s = let both : Some h.dev ≡ None = sym m ∙ ap (λ (j : HandleId). slice_get table.devices j.0) (id_exact h.id id s) ∙ at in absurd cc

-- ---- one handle more

get_more : (ds : List DevId) (d e : DevId) (n : ℕ) → slice_get ds n ≡ Some e → slice_get (ds ++ d ∷ []) n ≡ Some e
get_more [] d e n h = cc
get_more (x ∷ xs) d e zero h = h
get_more (x ∷ xs) d e (suc n) h = get_more xs d e n h

get_last : (ds : List DevId) (d : DevId) → slice_get (ds ++ d ∷ []) (length ds) ≡ Some d
get_last [] d = refl
get_last (x ∷ xs) d = get_last xs d

numbered_more : (ds : List DevId) (h : Handle) (hs : List Handle) → h.id.0 ≡ length ds → AllByRecursion (IsNumbered ds) hs → AllByRecursion (IsNumbered (ds ++ h.dev ∷ [])) (hs ++ h ∷ [])
numbered_more ds h [] e a = (ap (λ (n : ℕ). slice_get (ds ++ h.dev ∷ []) n) e ∙ get_last ds h.dev, tt)
numbered_more ds h (x ∷ xs) e a = (get_more ds h.dev x.dev x.id.0 a.0, numbered_more ds h xs e a.1)

pub one_more : (table : HandleTable) (h : Handle) (hs : List Handle) → 0 < length table.rows → h.id.0 ≡ length table.devices → Keeps table hs → Keeps (with_handle table h) (hs ++ h ∷ [])
one_more table h hs room number keeps = record {
  on_each = each;
  numbered = numbered_more table.devices h hs number keeps.numbered;
  rising = rise_more table.devices 0 hs h (omega arith) number keeps.numbered keeps.rising;
}
  where
    place : DevId → ℕ
    place d = place_of (length table.rows) d

    row : List Handle
    row = row_at table.rows h.dev ++ h ∷ []

    off : (d : DevId) → (place_of (length table.rows) h.dev ≢ place_of (length table.rows) d) → is_on d h ≡ false
    off d ne = go (is_on d h) refl
      where
        go : (b : Bool) → is_on d h ≡ b → b ≡ false
        go false e = refl
        go true e = absurd (ne (ap (λ (x : DevId). place_of (length table.rows) x) (dev_exact h.dev d e)))

    each : (d : DevId) → filter (is_on d) (row_at (with_row table.rows h.dev row) d) ≡ filter (is_on d) (hs ++ h ∷ [])
    each d = go (cases_eq (place_of (length table.rows) h.dev) (place_of (length table.rows) d))
      where
        go : (place_of (length table.rows) h.dev ≡ place_of (length table.rows) d) ⊎ (place_of (length table.rows) h.dev ≢ place_of (length table.rows) d)
            → filter (is_on d) (row_at (with_row table.rows h.dev row) d) ≡ filter (is_on d) (hs ++ h ∷ [])
        go (inl e) =
            ap (filter (is_on d)) (row_same table.rows h.dev d row room e)
            ∙ filter_push (is_on d) (row_at table.rows h.dev) h
            ∙ ap (λ zs. zs ++ cond (is_on d h) (h ∷ []) []) (ap (filter (is_on d)) (row_where_same table.rows h.dev d [] e) ∙ keeps.on_each d)
            ∙ sym (filter_push (is_on d) hs h)
        go (inr ne) =
            ap (filter (is_on d)) (row_other table.rows h.dev d row (λ e. ne (sym e))) ∙ keeps.on_each d
            ∙ sym (filter_push (is_on d) hs h ∙ ap (λ b. filter (is_on d) hs ++ cond b (h ∷ []) []) (off d ne) ∙ append-nil (filter (is_on d) hs))

-- ---- a look-up

-- the first handle of the number among those of its device
found_on : (ds : List DevId) (id : HandleId) (dev : DevId) (hs : List Handle) → slice_get ds id.0 ≡ Some dev → AllByRecursion (IsNumbered ds) hs → handle_of (filter (is_on dev) hs) id ≡ handle_of hs id
found_on ds id dev [] at a = refl
found_on ds id dev (h ∷ hs) at a = go (is_on dev h) (same_handle h.id id) refl refl (found_on ds id dev hs at a.1)
  where
    go : (b k : Bool) → is_on dev h ≡ b → same_handle h.id id ≡ k → handle_of (filter (is_on dev) hs) id ≡ handle_of hs id
        → handle_of (cond b (h ∷ filter (is_on dev) hs) (filter (is_on dev) hs)) id ≡ cond k (Some h) (handle_of hs id)
    go true true e f ih = ap (λ c. cond c (Some h) (handle_of (filter (is_on dev) hs) id)) f
    go true false e f ih = ap (λ c. cond c (Some h) (handle_of (filter (is_on dev) hs) id)) f ∙ ih
    go false true e f ih =
        let there : Some h.dev ≡ Some dev = sym a.0 ∙ ap (λ (j : HandleId). slice_get ds j.0) (id_exact h.id id f) ∙ at in
        let is : h.dev ≡ dev = cc in
        let both : true ≡ false = sym (eq-eqb h.dev.0 dev.0 (ap (λ (d : DevId). d.0) is)) ∙ e in cc
    go false false e f ih = ih

pub found : (table : HandleTable) (id : HandleId) (dev : DevId) (hs : List Handle) → Keeps table hs → slice_get table.devices id.0 ≡ Some dev → handle_of (filter (is_on dev) (row_at table.rows dev)) id ≡ handle_of hs id
found table id dev hs keeps at = ap (λ (zs : List Handle). handle_of zs id) (keeps.on_each dev) ∙ found_on table.devices id dev hs at keeps.numbered

pub missed : (ds : List DevId) (id : HandleId) (hs : List Handle) → slice_get ds id.0 ≡ None → AllByRecursion (IsNumbered ds) hs → None ≡ handle_of hs id
missed ds id [] at a = refl
missed ds id (h ∷ hs) at a = go (same_handle h.id id) refl (missed ds id hs at a.1)
  where
    go : (k : Bool) → same_handle h.id id ≡ k → None ≡ handle_of hs id → None ≡ cond k (Some h) (handle_of hs id)
    go true f ih = let both : Some h.dev ≡ None = sym a.0 ∙ ap (λ (j : HandleId). slice_get ds j.0) (id_exact h.id id f) ∙ at in absurd cc
    go false f ih = ih

-- the same of the handles that a thread has open
pub found_own : (table : HandleTable) (t : ℕ) (id : HandleId) (dev : DevId) (hs : List Handle) → Keeps table hs → slice_get table.devices id.0 ≡ Some dev
    → handle_of (filter (is_of t) (filter (is_on dev) (row_at table.rows dev))) id ≡ handle_of (filter (is_of t) hs) id
found_own table t id dev hs keeps at =
    ap (λ (zs : List Handle). handle_of (filter (is_of t) zs) id) (keeps.on_each dev)
    ∙ ap (λ (zs : List Handle). handle_of zs id) (filter_twice (is_of t) (is_on dev) hs)
    ∙ found_on table.devices id dev (filter (is_of t) hs) at (all_left (IsNumbered table.devices) (is_of t) hs keeps.numbered)

pub missed_own : (ds : List DevId) (t : ℕ) (id : HandleId) (hs : List Handle) → slice_get ds id.0 ≡ None → AllByRecursion (IsNumbered ds) hs → None ≡ handle_of (filter (is_of t) hs) id
missed_own ds t id hs at a = missed ds id (filter (is_of t) hs) at (all_left (IsNumbered ds) (is_of t) hs a)

-- ---- all handles

-- the handles with numbers below this one
abbrev pub below_number : ℕ → List Handle → List Handle
below_number n hs = filter (λ h. nat_lt h.id.0 n) hs

-- none of those from this number on is below it
pub none_below : (m n : ℕ) (hs : List Handle) → m ≤ n → Rise n hs → below_number m hs ≡ []
none_below m n [] le r = refl
none_below m n (h ∷ hs) le r =
    ap (λ b. cond b (h ∷ below_number m hs) (below_number m hs)) (le-ltb h.id.0 m (omega (arith, r.0)))
    ∙ none_below m (h.id.0 + 1) hs (omega (arith, r.0)) r.1

-- nor has this number
none_of : (m n : ℕ) (hs : List Handle) → m < n → Rise n hs → handle_of hs (record { 0 = m }) ≡ None
none_of m n [] le r = refl
none_of m n (h ∷ hs) le r =
    ap (λ b. cond b (Some h) (handle_of hs (record { 0 = m }))) (ne_eqb h.id.0 m (λ (e : h.id.0 ≡ m). omega (arith, e, r.0)))
    ∙ none_of m (h.id.0 + 1) hs (omega (arith, r.0)) r.1

-- those below the next number are those below this one, and that of this one
pub below_next : (m n : ℕ) (hs : List Handle) → Rise n hs → below_number (m + 1) hs ≡ below_number m hs ++ option_to_list (handle_of hs (record { 0 = m }))
below_next m n [] r = refl
below_next m n (h ∷ hs) r = elim (cases_lt h.id.0 m) [
  | inl lt ↦
      ap (λ b. cond b (h ∷ below_number (m + 1) hs) (below_number (m + 1) hs)) (lt-ltb h.id.0 (m + 1) (omega (arith, lt)))
      ∙ ap (λ (zs : List Handle). h ∷ zs) (below_next m (h.id.0 + 1) hs r.1)
      ∙ sym (ap (λ b. cond b (h ∷ below_number m hs) (below_number m hs) ++ option_to_list (handle_of (h ∷ hs) (record { 0 = m }))) (lt-ltb h.id.0 m lt)
      ∙ ap (λ b. h ∷ (below_number m hs ++ option_to_list (cond b (Some h) (handle_of hs (record { 0 = m }))))) (ne_eqb h.id.0 m (λ (e : h.id.0 ≡ m). omega (arith, e, lt))))
  | inr ge ↦ elim (cases_lt m h.id.0) [
    | inl gt ↦
        none_below (m + 1) h.id.0 (h ∷ hs) (omega (arith, gt)) (omega arith, r.1)
        ∙ sym (ap (λ (zs : List Handle). zs ++ option_to_list (handle_of (h ∷ hs) (record { 0 = m }))) (none_below m h.id.0 (h ∷ hs) (omega (arith, gt)) (omega arith, r.1))
        ∙ ap option_to_list (none_of m h.id.0 (h ∷ hs) gt (omega arith, r.1)))
    | inr le ↦
        let same : h.id.0 ≡ m = omega (arith, ge, le) in
        ap (λ b. cond b (h ∷ below_number (m + 1) hs) (below_number (m + 1) hs)) (lt-ltb h.id.0 (m + 1) (omega (arith, same)))
        ∙ ap (λ (zs : List Handle). h ∷ zs) (none_below (m + 1) (h.id.0 + 1) hs (omega (arith, same)) r.1)
        ∙ sym (ap (λ b. cond b (h ∷ below_number m hs) (below_number m hs) ++ option_to_list (handle_of (h ∷ hs) (record { 0 = m }))) (le-ltb h.id.0 m ge)
        ∙ ap (λ (zs : List Handle). zs ++ option_to_list (handle_of (h ∷ hs) (record { 0 = m }))) (none_below m (h.id.0 + 1) hs (omega (arith, same)) r.1)
        ∙ ap (λ b. option_to_list (cond b (Some h) (handle_of hs (record { 0 = m })))) (eq-eqb h.id.0 m same))
  ]
]

-- all are below the next number
pub all_below : (ds : List DevId) (hs : List Handle) → AllByRecursion (IsNumbered ds) hs → below_number (length ds) hs ≡ hs
all_below ds [] a = refl
all_below ds (h ∷ hs) a =
    ap (λ b. cond b (h ∷ below_number (length ds) hs) (below_number (length ds) hs)) (lt-ltb h.id.0 (length ds) (get_below ds h.id.0 h.dev a.0))
    ∙ ap (λ (zs : List Handle). h ∷ zs) (all_below ds hs a.1)
