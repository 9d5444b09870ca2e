-- Disks that are open, one more each time, and what becomes of them.
use Rattle.std.proofs.Common.{◌≡◌, ℕ, zero, suc, ◌+◌, ◌-◌, ◌<◌, ◌≤◌, ◌%◌, Bool, false, cond, List, [], ◌∷◌, ◌++◌, length, map, Option, Some, None, ◌⊎◌, inl, inr, refl, sym, ◌∙◌, ap, subst, append_assoc, append-nil, arith}
use Rattle.std.specs.List.{slice_get}
use Rattle.std.specs.Prelude.{replicate, slice_index_or, unwrap_or}
use Rattle.std.proofs.lemmas.Bool.{cases_eq}
use Rattle.std.proofs.lemmas.Nat.{mod_below}
use Rattle.std.proofs.lemmas.List.{length-append, length-map, length-set}
use Rattle.std.proofs.lemmas.Option.{get_or_from_slice_get}
use Rattle.bd_base.specs.declared.id.DevId.{DevId}
use Rattle.bd_disks.specs.Rows.{disk_of}
use Rattle.bd_machine.specs.Same.{same_dev}
use Rattle.bd_outside.specs.Disk.{DiskState, closing_of}
use Rattle.bd_outside.specs.Opening.{open_row}
use Rattle.bd_outside.specs.declared.opening.Opening.{Opening}
use Rattle.bd_disk_pool.specs.Closing.{closing_all, name_in}
use Rattle.bd_disk_pool.specs.Covering.{begun_row, AreApart, AreDone, AreOpen, Begun, HaveGoneOn, IsAtHome, IsBegun, IsDone, IsIn, IsOneOf}
use Rattle.bd_disk_pool.specs.Held.{at_home, none_held, with_disk, Held}
use Rattle.bd_disk_pool.proofs.EachClosed.{all_closed, Covers, IsRight, IsToClose, KeepsFirst}
use Rattle.bd_disk_pool.proofs.Lists.{apart_more, at_before, at_first, at_last, at_second, begins, dev_self, flat, found, has_at, in_either, in_first, in_flat, in_map, in_second, is_below, map_at, none_some, of_flat, of_map, of_more, of_none, other_dev, set_else, set_here, some_same}

-- ---- none

none_at : {X : Type 0} (n t : ℕ) (own : List X) → slice_get (replicate n []) t ≡ Some own → own ≡ []
none_at zero t own e = none_some e
none_at (suc n) zero own e = sym (some_same e)
none_at (suc n) (suc t) own e = none_at n t own e

nowhere : {X : Type 0} {Q : Type 0} (k : ℕ) (x : X) → slice_get [] k ≡ Some x → Q
nowhere k x e = none_some e

pub none_open : {D : Type 0} (state : D → DiskState) (threads : ℕ) (old : List Opening) → AreOpen state 0 (none_held threads) [] old old
none_open {D = D} state threads old = record {
  rows = sym (append-nil old);
  each = λ k b at. nowhere k b at;
  none = λ dev low. refl;
  here = λ t own row at h. absurd (subst (IsIn row) (none_at threads t own at) h);
  apart = λ t own at. subst (λ (rows : List (DevId × D)). AreApart (map (λ (r : DevId × D). r.0) rows)) (sym (none_at threads t own at)) tt;
  all = λ k b at. nowhere k b at;
}

-- ---- numbers

-- a greater bound
pub raised : {D : Type 0} (state : D → DiskState) (n m : ℕ) (held : Held D) (begun : List Begun) (old new : List Opening) → n ≤ m → AreOpen state n held begun old new → AreOpen state m held begun old new
raised state n m held begun old new le o = record {
  rows = o.rows;
  each = λ k b at. let is = o.each k b at in record { placed = is.placed; named = is.named; below = omega (arith, is.below, le) };
  none = λ dev low. o.none dev (omega (arith, low, le));
  here = o.here;
  apart = o.apart;
  all = o.all;
}

-- how many rows there are
pub counted : (old new : List Opening) (begun : List Begun) → new ≡ old ++ map begun_row begun → length new ≡ length old + length begun
counted old new begun is = ap (λ (rs : List Opening). length rs) is ∙ length-append old (map begun_row begun) ∙ ap (λ (n : ℕ). length old + n) (length-map begun begun_row)

-- ---- one more

module _ {D : Type 0} (state : D → DiskState) (n : ℕ) (held : Held D) (begun : List Begun) (old new : List Opening) (dev : DevId) (name : List ℕ) (disk : D)
    (o : AreOpen state n held begun old new) (low : n ≤ dev.0) (some : 0 < length held.threads) (placed : (state disk).place ≡ Some (length new)) where
  abbrev more : Begun
  more = record { dev = dev; name = name; disk = state disk }

  abbrev row : DevId × D
  row = (dev, disk)

  abbrev home : ℕ
  home = dev.0 % length held.threads

  abbrev rows_there : List (DevId × D)
  rows_there = slice_index_or held.threads home []

  abbrev after : List (List (DevId × D))
  after = at_home held.threads dev disk

  within : home < length held.threads
  within = mod_below dev.0 (length held.threads) some

  same_len : length after ≡ length held.threads
  same_len = length-set held.threads home (rows_there ++ row ∷ [])

  there : slice_get held.threads home ≡ Some rows_there
  there = let h = has_at held.threads home within in subst (λ (x : List (DevId × D)). slice_get held.threads home ≡ Some x) (sym (get_or_from_slice_get held.threads home h.0 [] h.1)) h.1

  now_there : slice_get after home ≡ Some (rows_there ++ row ∷ [])
  now_there = set_here held.threads home (rows_there ++ row ∷ []) within

  -- where it was opened
  number : length new ≡ length old + length begun
  number = counted old new begun o.rows

  more_each : (k : ℕ) (b : Begun) → slice_get (begun ++ more ∷ []) k ≡ Some b → IsBegun (length old + k) (suc dev.0) (held.names ++ (dev, name) ∷ []) b
  more_each k b at = go (at_last begun more k b at)
    where
      go : (slice_get begun k ≡ Some b) ⊎ ((k ≡ length begun) × (more ≡ b)) → IsBegun (length old + k) (suc dev.0) (held.names ++ (dev, name) ∷ []) b
      go (inl was) = let is = o.each k b was in record { placed = is.placed; named = of_more b.dev held.names ((dev, name) ∷ []) b.name is.named; below = omega (arith, is.below, low) }
      go (inr (last, is)) = subst (IsBegun (length old + k) (suc dev.0) (held.names ++ (dev, name) ∷ [])) is (record {
        placed = placed ∙ ap Some (number ∙ ap (λ (m : ℕ). length old + m) (sym last));
        named = of_none dev held.names ((dev, name) ∷ []) (o.none dev low) ∙ ap (λ (b : Bool). cond b (Some name) None) (dev_self dev);
        below = omega arith;
      })

  more_none : (other : DevId) → suc dev.0 ≤ other.0 → disk_of other (held.names ++ (dev, name) ∷ []) ≡ None
  more_none other le =
      of_none other held.names ((dev, name) ∷ []) (o.none other (omega (arith, le, low)))
      ∙ ap (λ (b : Bool). cond b (Some name) None) (other_dev dev other (omega (arith, le)))

  old_here : (t : ℕ) (r : DevId × D) → IsOneOf state (length held.threads) t begun r → IsOneOf state (length after) t (begun ++ more ∷ []) r
  old_here t r is = record {
    number = is.number;
    begins = is.begins;
    there = at_before begun (more ∷ []) is.number is.begins is.there;
    device = is.device;
    same = is.same;
    home = is.home ∙ ap (λ (m : ℕ). is.begins.dev.0 % m) (sym same_len);
  }

  new_here : IsOneOf state (length after) home (begun ++ more ∷ []) row
  new_here = record {
    number = length begun;
    begins = more;
    there = at_second begun (more ∷ []) 0 (length begun) (omega arith);
    device = refl;
    same = refl;
    home = ap (λ (m : ℕ). dev.0 % m) (sym same_len);
  }

  more_here : (t : ℕ) (own : List (DevId × D)) (r : DevId × D) → slice_get after t ≡ Some own → IsIn r own → IsOneOf state (length after) t (begun ++ more ∷ []) r
  more_here t own r at h = go (cases_eq home t)
    where
      go : (home ≡ t) ⊎ (home ≡ t → ⊥) → IsOneOf state (length after) t (begun ++ more ∷ []) r
      go (inr ne) = old_here t r (o.here t own r (sym (set_else held.threads home t (rows_there ++ row ∷ []) ne) ∙ at) h)
      go (inl e) = at_its_home (in_either r rows_there (row ∷ []) (subst (IsIn r) (some_same (sym at ∙ subst (λ (m : ℕ). slice_get after m ≡ Some (rows_there ++ row ∷ [])) e now_there)) h))
        where
          at_its_home : IsIn r rows_there ⊎ IsIn r (row ∷ []) → IsOneOf state (length after) t (begun ++ more ∷ []) r
          at_its_home (inl h) = old_here t r (subst (λ (m : ℕ). IsOneOf state (length held.threads) m begun r) e (o.here home rows_there r there h))
          at_its_home (inr (inl is)) = subst (IsOneOf state (length after) t (begun ++ more ∷ [])) is (subst (λ (m : ℕ). IsOneOf state (length after) m (begun ++ more ∷ []) row) e new_here)
          at_its_home (inr (inr h)) = absurd h

  devs_map : (xs : List (DevId × D)) → map (λ (r : DevId × D). r.0) (xs ++ row ∷ []) ≡ map (λ (r : DevId × D). r.0) xs ++ dev ∷ []
  devs_map [] = refl
  devs_map (x ∷ xs) = ap (λ (ds : List DevId). x.0 ∷ ds) (devs_map xs)

  -- each device there has a lower number
  others_there : (other : DevId) → IsIn other (map (λ (r : DevId × D). r.0) rows_there) → same_dev other dev ≡ false
  others_there other h =
      let r = of_map (λ (x : DevId × D). x.0) other rows_there h in
      let is = o.here home rows_there r.0 there r.1 in
      let below : is.begins.dev.0 < n = (o.each is.number is.begins is.there).below in
      subst (λ (d : DevId). same_dev d dev ≡ false) (sym is.device ∙ r.2) (other_dev is.begins.dev dev (omega (arith, below, low)))

  more_apart : (t : ℕ) (own : List (DevId × D)) → slice_get after t ≡ Some own → AreApart (map (λ (r : DevId × D). r.0) own)
  more_apart t own at = go (cases_eq home t)
    where
      go : (home ≡ t) ⊎ (home ≡ t → ⊥) → AreApart (map (λ (r : DevId × D). r.0) own)
      go (inr ne) = o.apart t own (sym (set_else held.threads home t (rows_there ++ row ∷ []) ne) ∙ at)
      go (inl e) =
          let is : rows_there ++ row ∷ [] ≡ own = some_same (sym now_there ∙ subst (λ (m : ℕ). slice_get after m ≡ Some own) (sym e) at) in
          subst (λ (rows : List (DevId × D)). AreApart (map (λ (r : DevId × D). r.0) rows)) is
          (subst AreApart (sym (devs_map rows_there)) (apart_more (map (λ (r : DevId × D). r.0) rows_there) dev (o.apart home rows_there there) others_there))

  -- the disk of a home stands there still
  still_home : (b : Begun) → IsAtHome state held.threads b → IsAtHome state after b
  still_home b is = go (cases_eq home (b.dev.0 % length held.threads))
    where
      at_len : (own : List (DevId × D)) → slice_get after (b.dev.0 % length held.threads) ≡ Some own → slice_get after (b.dev.0 % length after) ≡ Some own
      at_len own at = ap (λ (m : ℕ). slice_get after (b.dev.0 % m)) same_len ∙ at

      go : (home ≡ b.dev.0 % length held.threads) ⊎ (home ≡ b.dev.0 % length held.threads → ⊥) → IsAtHome state after b
      go (inr ne) = record { own = is.own; row = is.row; there = at_len is.own (set_else held.threads home (b.dev.0 % length held.threads) (rows_there ++ row ∷ []) ne ∙ is.there); among = is.among; device = is.device; same = is.same }
      go (inl e) =
          let same : is.own ≡ rows_there = some_same (sym is.there ∙ subst (λ (m : ℕ). slice_get held.threads m ≡ Some rows_there) e there) in
          record {
            own = rows_there ++ row ∷ [];
            row = is.row;
            there = at_len (rows_there ++ row ∷ []) (subst (λ (m : ℕ). slice_get after m ≡ Some (rows_there ++ row ∷ [])) e now_there);
            among = in_first is.row rows_there (row ∷ []) (subst (IsIn is.row) same is.among);
            device = is.device;
            same = is.same;
          }

  its_home : IsAtHome state after more
  its_home = record {
    own = rows_there ++ row ∷ [];
    row = row;
    there = ap (λ (m : ℕ). slice_get after (dev.0 % m)) same_len ∙ now_there;
    among = in_second row rows_there (row ∷ []) (inl refl);
    device = refl;
    same = refl;
  }

  more_all : (k : ℕ) (b : Begun) → slice_get (begun ++ more ∷ []) k ≡ Some b → IsAtHome state after b
  more_all k b at = go (at_last begun more k b at)
    where
      go : (slice_get begun k ≡ Some b) ⊎ ((k ≡ length begun) × (more ≡ b)) → IsAtHome state after b
      go (inl was) = still_home b (o.all k b was)
      go (inr (last, is)) = subst (IsAtHome state after) is its_home

  row_map : (xs : List Begun) → map begun_row (xs ++ more ∷ []) ≡ map begun_row xs ++ begun_row more ∷ []
  row_map [] = refl
  row_map (x ∷ xs) = ap (λ (rs : List Opening). begun_row x ∷ rs) (row_map xs)

  -- **a disk more is open**
  pub one_more : AreOpen state (suc dev.0) (with_disk held dev name disk) (begun ++ more ∷ []) old (new ++ open_row name (state disk).blocks ∷ [])
  one_more = record {
    rows = ap (λ (rs : List Opening). rs ++ begun_row more ∷ []) o.rows ∙ append_assoc old (map begun_row begun) (begun_row more ∷ []) ∙ ap (λ (rs : List Opening). old ++ rs) (sym (row_map begun));
    each = more_each;
    none = more_none;
    here = more_here;
    apart = more_apart;
    all = more_all;
  }

-- each row since the old ones is that of a disk that was opened
pub at_end : (begun : List Begun) (old new : List Opening) → new ≡ old ++ map begun_row begun → (k : ℕ) (row : Opening) → slice_get new (length old + k) ≡ Some row
    → (b : Begun) × (slice_get begun k ≡ Some b) × (begun_row b ≡ row)
at_end begun old new is k row at =
    map_at begun_row begun k row
    (sym (ap (λ (rs : List Opening). slice_get rs (length old + k)) is ∙ at_second old (map begun_row begun) k (length old + k) refl) ∙ at)

-- ---- closed, after they went on

module _ {D : Type 0} (state : D → DiskState) (Did : DevId → DiskState → DiskState → Type 0) (n : ℕ) (held : Held D) (begun : List Begun) (old new : List Opening) (after : List (List (DevId × D)))
    (o : AreOpen state n held begun old new) (g : HaveGoneOn state Did begun held.threads after) where
  -- the row at this place, of the disk that was opened there, is done
  abbrev Good : ℕ → Opening → Type 0
  Good p row = (k : ℕ) → p ≡ length old + k → (b : Begun) → slice_get begun k ≡ Some b → IsDone Did b row

  -- a disk that went on, of the device of one that was opened
  record Kept (b : Begun) : Type 0 where
    pub own : List (DevId × D)
    pub t : ℕ
    pub r : DevId × D
    pub there : slice_get after t ≡ Some own
    pub among : IsIn r own
    pub device : r.0 ≡ b.dev
    pub did : Did b.dev b.disk (state r.1)

  same_devices : (t : ℕ) (a b : List (DevId × D)) → slice_get held.threads t ≡ Some a → slice_get after t ≡ Some b → AreApart (map (λ (r : DevId × D). r.0) b)
  same_devices t a b at at' = subst AreApart (sym (g.devices t a b at at')) (o.apart t a at)

  went : (t k : ℕ) (a b : List (DevId × D)) (x y : DevId × D) (is : Begun) → slice_get begun k ≡ Some is → slice_get held.threads t ≡ Some a → slice_get after t ≡ Some b → t ≡ is.dev.0 % length held.threads → IsIn x a → IsIn y b
      → x.0 ≡ is.dev → y.0 ≡ is.dev → state x.1 ≡ is.disk
      → Did is.dev is.disk (state y.1)
  went t k a b x y is at-k at at' home in-a in-b dev-x dev-y same =
      let from : disk_of is.dev a ≡ Some x.1 = subst (λ (d : DevId). disk_of d a ≡ Some x.1) dev-x (found a x (o.apart t a at) in-a) in
      let to : disk_of is.dev b ≡ Some y.1 = subst (λ (d : DevId). disk_of d b ≡ Some y.1) dev-y (found b y (same_devices t a b at at') in-b) in
      subst (λ (d : DiskState). Did is.dev d (state y.1)) same (g.did k is a b x.1 y.1 at-k (subst (λ (m : ℕ). slice_get held.threads m ≡ Some a) home at) (subst (λ (m : ℕ). slice_get after m ≡ Some b) home at') from to)

  kept : (k : ℕ) (b : Begun) → slice_get begun k ≡ Some b → IsAtHome state held.threads b → Kept b
  kept k b at-k h =
      let t : ℕ = b.dev.0 % length held.threads in
      let there = has_at after t (subst (λ (m : ℕ). t < m) (sym g.len) (is_below held.threads t h.own h.there)) in
      let own : List (DevId × D) = there.0 in
      let r = of_map (λ (x : DevId × D). x.0) h.row.0 own (subst (IsIn h.row.0) (sym (g.devices t h.own own h.there there.1)) (in_map (λ (x : DevId × D). x.0) h.row h.own h.among)) in
      record {
        own = own;
        t = t;
        r = r.0;
        there = there.1;
        among = r.1;
        device = r.2 ∙ h.device;
        did = went t k h.own own h.row r.0 b at-k h.there there.1 refl h.among r.1 h.device (r.2 ∙ h.device) h.same;
      }

  rest : (p : ℕ) (row : Opening) → length old ≤ p → slice_get new p ≡ Some row → Good p row ⊎ IsToClose state held.names (length old) Good p row (flat after)
  rest p row low at = inr (closing, kept-b.r, in_flat kept-b.r after kept-b.t kept-b.own kept-b.there kept-b.among, place, name)
    where
      k : ℕ
      k = p - length old

      is-p : p ≡ length old + k
      is-p = omega (arith, low)

      there : (b : Begun) × (slice_get begun k ≡ Some b) × (begun_row b ≡ row)
      there = at_end begun old new o.rows k row (subst (λ (m : ℕ). slice_get new m ≡ Some row) is-p at)

      b : Begun
      b = there.0

      kept-b : Kept b
      kept-b = kept k b there.1 (o.all k b there.1)

      closing : row.closing ≡ None
      closing = sym (ap (λ (r : Opening). r.closing) there.2)

      place : (state kept-b.r.1).place ≡ Some p
      place = g.place b.dev b.disk (state kept-b.r.1) kept-b.did ∙ (o.each k b there.1).placed ∙ ap Some (sym is-p)

      name : name_in held.names kept-b.r.0 ≡ row.name
      name =
          ap (name_in held.names) kept-b.device
          ∙ ap (λ (found : Option (List ℕ)). unwrap_or found []) (o.each k b there.1).named
          ∙ ap (λ (r : Opening). r.name) there.2

  right : (r : DevId × D) → IsIn r (flat after) → IsRight state held.names (length old) Good new r
  right r h p row place at = (low, good)
    where
      there : (t : ℕ) × (own : List (DevId × D)) × (slice_get after t ≡ Some own) × IsIn r own
      there = of_flat r after h

      t : ℕ
      t = there.0

      before : (own : List (DevId × D)) × (slice_get held.threads t ≡ Some own)
      before = has_at held.threads t (subst (λ (m : ℕ). t < m) g.len (is_below after t there.1 there.2))

      was : (x : DevId × D) × IsIn x before.0 × (x.0 ≡ r.0)
      was = of_map (λ (x : DevId × D). x.0) r.0 before.0 (subst (IsIn r.0) (g.devices t before.0 there.1 before.1 there.2) (in_map (λ (x : DevId × D). x.0) r there.1 there.3))

      is : IsOneOf state (length held.threads) t begun was.0
      is = o.here t before.0 was.0 before.1 was.1

      did : Did is.begins.dev is.begins.disk (state r.1)
      did = went t is.number before.0 there.1 was.0 r is.begins is.there before.1 there.2 is.home was.1 there.3 is.device (sym was.2 ∙ is.device) is.same

      is-p : p ≡ length old + is.number
      is-p = some_same (sym place ∙ g.place is.begins.dev is.begins.disk (state r.1) did ∙ (o.each is.number is.begins is.there).placed)

      low : length old ≤ p
      low = omega (arith, is-p)

      row-is : begun_row is.begins ≡ row
      row-is =
          let e = at_end begun old new o.rows is.number row (subst (λ (m : ℕ). slice_get new m ≡ Some row) is-p at) in
          ap begun_row (some_same (sym is.there ∙ e.1)) ∙ e.2

      good : row.closing ≡ None → Good p (record row { closing = Some (closing_of (state r.1)) })
      good none k same b there-b =
          let number : k ≡ is.number = omega (arith, same, is-p) in
          let same-b : is.begins ≡ b = some_same (sym is.there ∙ subst (λ (m : ℕ). slice_get begun m ≡ Some b) number there-b) in
          subst (λ (x : Begun). IsDone Did x (record row { closing = Some (closing_of (state r.1)) })) same-b
          (record { last = state r.1; did = did; is = ap (λ (x : Opening). record x { closing = Some (closing_of (state r.1)) }) (sym row-is) })

  -- **they were closed, and all is done**
  pub closed_so : (final : List Opening) × (closing_all state held.names after (Some new) ≡ Some final) × AreDone Did begun old final
  closed_so = (end.0, end.1, record { added = split.0; are = split.1; many = many; each = each })
    where
      end : (final : List Opening) × (closing_all state held.names after (Some new) ≡ Some final) × KeepsFirst state held.names (length old) Good new final × Covers state held.names (length old) Good final []
      end = all_closed state held.names (length old) Good after new (record { rest = rest; right = right })

      all-rows : length new ≡ length old + length begun
      all-rows = counted old new begun o.rows

      as-before : (p : ℕ) → p < length old → slice_get end.0 p ≡ slice_get old p
      as-before p h = end.2.same p h ∙ ap (λ (rs : List Opening). slice_get rs p) o.rows ∙ at_first old (map begun_row begun) p h

      split : (more : List Opening) × (end.0 ≡ old ++ more)
      split = begins old end.0 (omega (arith, end.2.len, all-rows)) as-before

      many : length split.0 ≡ length begun
      many = let e : length end.0 ≡ length old + length split.0 = ap (λ (rs : List Opening). length rs) split.1 ∙ length-append old split.0 in omega (arith, e, end.2.len, all-rows)

      each : (k : ℕ) (b : Begun) (row : Opening) → slice_get begun k ≡ Some b → slice_get split.0 k ≡ Some row → IsDone Did b row
      each k b row at-b at = go (end.3.rest (length old + k) row (omega arith) (ap (λ (rs : List Opening). slice_get rs (length old + k)) split.1 ∙ at_second old split.0 k (length old + k) refl ∙ at))
        where
          go : Good (length old + k) row ⊎ IsToClose state held.names (length old) Good (length old + k) row [] → IsDone Did b row
          go (inl good) = good k refl b at-b
          go (inr left) = absurd left.2
