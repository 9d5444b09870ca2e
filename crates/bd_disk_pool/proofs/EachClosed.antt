-- Each disk is closed once, with what it tells then.
use Rattle.std.proofs.Common.{◌≡◌, ℕ, ◌<◌, ◌≤◌, Bool, true, false, ◌&&◌, List, [], ◌∷◌, ◌++◌, length, set, Option, Some, None, ◌⊎◌, inl, inr, refl, sym, ◌∙◌, ap, ap₂, subst, arith}
use Rattle.std.specs.List.{slice_get}
use Rattle.std.specs.Prelude.{is_none, if◌then◌else◌}
use Rattle.std.proofs.lemmas.Bool.{cases_eq}
use Rattle.std.specs.Cmp.Lexicographic.{nat_list_eq_equiv}
use Rattle.std.proofs.lemmas.List.{length-set}
use Rattle.bd_base.specs.Name.{same_name}
use Rattle.bd_base.specs.declared.id.DevId.{DevId}
use Rattle.bd_outside.specs.Disk.{DiskState, closing_of}
use Rattle.bd_outside.specs.Host.{HostState}
use Rattle.bd_outside.specs.Opening.{close_at, closed_row, openings_closed}
use Rattle.bd_outside.specs.declared.opening.Closing.{Closing}
use Rattle.bd_outside.specs.declared.opening.Opening.{Opening}
use Rattle.bd_disk_pool.specs.Closing.{closing_all, closing_each, closing_one, name_in, KeepsCounts}
use Rattle.bd_disk_pool.specs.Covering.{IsIn}
use Rattle.bd_disk_pool.proofs.Lists.{flat, is_below, none_some, set_else, set_here, some_same}

-- ---- counts

pub kept_same : (a : HostState) → KeepsCounts a a
kept_same a = record { told = λ name. refl; faults = refl; absences = refl }

pub kept_then : (a b c : HostState) → KeepsCounts a b → KeepsCounts b c → KeepsCounts a c
kept_then a b c p q = record { told = λ name. q.told name ∙ p.told name; faults = q.faults ∙ p.faults; absences = q.absences ∙ p.absences }

-- ---- names

pub name_same : (name : List ℕ) → same_name name name ≡ true
name_same name = nat_list_eq_equiv.refl name

-- ---- one closing

abbrev with_closing : Opening → Closing → Opening
with_closing row closing = record row { closing = Some closing }

module _ {D : Type 0} (state : D → DiskState) (names : List (DevId × List ℕ)) (from : ℕ) (Good : ℕ → Opening → Type 0) where
  -- the row at this place is open, and one of these disks is its own
  abbrev pub IsToClose : ℕ → Opening → List (DevId × D) → Type 0
  IsToClose p row left = (row.closing ≡ None) × (r : DevId × D) × IsIn r left × ((state r.1).place ≡ Some p) × (name_in names r.0 ≡ row.name)

  -- what these disks tell is right for their rows, where those are open
  abbrev pub IsRight : List Opening → DevId × D → Type 0
  IsRight rows r = (p : ℕ) (row : Opening) → (state r.1).place ≡ Some p → slice_get rows p ≡ Some row → (from ≤ p) × (row.closing ≡ None → Good p (with_closing row (closing_of (state r.1))))

  -- of the rows since some place, each is closed as it should be, or one of these disks closes it so
  pub record Covers (rows : List Opening) (left : List (DevId × D)) : Type 0 where
    pub rest : (p : ℕ) (row : Opening) → from ≤ p → slice_get rows p ≡ Some row → Good p row ⊎ IsToClose p row left
    pub right : (r : DevId × D) → IsIn r left → IsRight rows r

  -- the same number of rows, and those before are as they were
  pub record KeepsFirst (old new : List Opening) : Type 0 where
    pub len : length new ≡ length old
    pub same : (p : ℕ) → p < from → slice_get new p ≡ slice_get old p

  keeps_refl : (rows : List Opening) → KeepsFirst rows rows
  keeps_refl rows = record { len = refl; same = λ p h. refl }

  keeps_trans : (a b c : List Opening) → KeepsFirst a b → KeepsFirst b c → KeepsFirst a c
  keeps_trans a b c f g = record { len = g.len ∙ f.len; same = λ p h. g.same p h ∙ f.same p h }

  other_place : (p q : ℕ) (r : DevId × D) → (state r.1).place ≡ Some q → (q ≡ p → ⊥) → (state r.1).place ≡ Some p → ⊥
  other_place p q r is ne at = ne (some_same (sym is ∙ at))

  -- a disk with no row
  pass : (rows : List Opening) (r : DevId × D) (left : List (DevId × D)) → ((p : ℕ) (row : Opening) → (state r.1).place ≡ Some p → slice_get rows p ≡ Some row → ⊥) → Covers rows (r ∷ left) → Covers rows left
  pass rows r left rowless c = record { rest = rest; right = λ x h. c.right x (inr h) }
    where
      rest : (p : ℕ) (row : Opening) → from ≤ p → slice_get rows p ≡ Some row → Good p row ⊎ IsToClose p row left
      rest p row low at = go (c.rest p row low at)
        where
          go : Good p row ⊎ IsToClose p row (r ∷ left) → Good p row ⊎ IsToClose p row left
          go (inl good) = inl good
          go (inr (none, x, inl e, place, name)) = absurd (rowless p row (subst (λ (y : DevId × D). (state y.1).place ≡ Some p) (sym e) place) at)
          go (inr (none, x, inr h, place, name)) = inr (none, x, h, place, name)

  -- a disk with a row, and how that is closed
  module _ (rows : List Opening) (r : DevId × D) (left : List (DevId × D)) (q : ℕ) (was : Opening) (place : (state r.1).place ≡ Some q) (there : slice_get rows q ≡ Some was) (c : Covers rows (r ∷ left)) where
    abbrev now : Opening
    now = closed_row was (name_in names r.0) (closing_of (state r.1))

    abbrev next : List Opening
    next = set rows q now

    here : slice_get next q ≡ Some now
    here = set_here rows q now (is_below rows q was there)

    -- it is closed as it should be; or it was closed before, or has another name
    abbrev Turns : Type 0
    Turns = ((now ≡ with_closing was (closing_of (state r.1))) × Good q now) ⊎ ((now ≡ was) × ((was.closing ≡ None) → name_in names r.0 ≡ was.name → ⊥))

    turns : Turns
    turns = go (same_name was.name (name_in names r.0)) refl was.closing refl
      where
        go : (b : Bool) → same_name was.name (name_in names r.0) ≡ b → (o : Option Closing) → was.closing ≡ o → Turns
        go true same None open_is =
            let is : now ≡ with_closing was (closing_of (state r.1)) = ap (λ (t : Bool). if t then with_closing was (closing_of (state r.1)) else was) (ap₂ (λ (s t : Bool). s && t) same (ap is_none open_is)) in
            inl (is, subst (Good q) (sym is) ((c.right r (inl refl) q was place there).1 open_is))
        go true same (Some closing) closed = inr (ap (λ (t : Bool). if t then with_closing was (closing_of (state r.1)) else was) (ap₂ (λ (s t : Bool). s && t) same (ap is_none closed)), λ open_is name. none_some (sym open_is ∙ closed))
        go false other o is = inr (ap (λ (t : Bool). if t && is_none was.closing then with_closing was (closing_of (state r.1)) else was) other, λ open_is name. differs other name)
          where
            differs : same_name was.name (name_in names r.0) ≡ false → name_in names r.0 ≡ was.name → ⊥
            differs none same = let yes : same_name was.name (name_in names r.0) ≡ true = subst (λ (n : List ℕ). same_name was.name n ≡ true) (sym same) (name_same was.name) in cc

    closed_rest : (p : ℕ) (row : Opening) → from ≤ p → slice_get next p ≡ Some row → (q ≡ p) ⊎ (q ≡ p → ⊥) → Good p row ⊎ IsToClose p row left
    closed_rest p row low at (inr ne) = go (c.rest p row low (sym (set_else rows q p now ne) ∙ at))
      where
        go : Good p row ⊎ IsToClose p row (r ∷ left) → Good p row ⊎ IsToClose p row left
        go (inl good) = inl good
        go (inr (none, x, inl e, at, name)) = absurd (other_place p q x (subst (λ (y : DevId × D). (state y.1).place ≡ Some q) e place) ne at)
        go (inr (none, x, inr h, at, name)) = inr (none, x, h, at, name)
    closed_rest p row low at (inl e) = go turns
      where
        is : now ≡ row
        is = some_same (sym here ∙ subst (λ (n : ℕ). slice_get next n ≡ Some row) (sym e) at)

        old_rest : (now ≡ was) → ((was.closing ≡ None) → name_in names r.0 ≡ was.name → ⊥) → Good q was ⊎ IsToClose q was (r ∷ left) → Good p row ⊎ IsToClose p row left
        old_rest same other (inl good) = inl (subst (λ (n : ℕ). Good n row) e (subst (Good q) (sym same ∙ is) good))
        old_rest same other (inr (none, x, inl f, at, name)) = absurd (other none (subst (λ (y : DevId × D). name_in names y.0 ≡ was.name) (sym f) name))
        old_rest same other (inr (none, x, inr h, at, name)) = inr (subst (λ (n : ℕ). IsToClose n row left) e (subst (λ (o : Opening). IsToClose q o left) (sym same ∙ is) (none, x, h, at, name)))

        go : Turns → Good p row ⊎ IsToClose p row left
        go (inl (shut, good)) = inl (subst (λ (n : ℕ). Good n row) e (subst (Good q) is good))
        go (inr (same, other)) = old_rest same other (c.rest q was (subst (λ (n : ℕ). from ≤ n) (sym e) low) there)

    still_right : (x : DevId × D) → IsIn x left → (p : ℕ) (row : Opening) → (state x.1).place ≡ Some p → slice_get next p ≡ Some row → (q ≡ p) ⊎ (q ≡ p → ⊥)
        → (from ≤ p) × (row.closing ≡ None → Good p (with_closing row (closing_of (state x.1))))
    still_right x h p row at there' (inr ne) = c.right x (inr h) p row at (sym (set_else rows q p now ne) ∙ there')
    still_right x h p row at there' (inl e) = go turns
      where
        is : now ≡ row
        is = some_same (sym here ∙ subst (λ (n : ℕ). slice_get next n ≡ Some row) (sym e) there')

        old_right : (from ≤ p) × (was.closing ≡ None → Good p (with_closing was (closing_of (state x.1))))
        old_right = c.right x (inr h) p was at (subst (λ (n : ℕ). slice_get rows n ≡ Some was) e there)

        go : Turns → (from ≤ p) × (row.closing ≡ None → Good p (with_closing row (closing_of (state x.1))))
        go (inr (same, other)) = subst (λ (o : Opening). (from ≤ p) × (o.closing ≡ None → Good p (with_closing o (closing_of (state x.1))))) (sym same ∙ is) old_right
        go (inl (shut, good)) = (old_right.0, λ none. none_some (sym none ∙ ap (λ (o : Opening). o.closing) (sym is ∙ shut)))

    covers_next : Covers next left
    covers_next = record {
      rest = λ p row low at. closed_rest p row low at (cases_eq q p);
      right = λ x h p row at there'. still_right x h p row at there' (cases_eq q p);
    }

    keeps_next : KeepsFirst rows next
    keeps_next = record { len = length-set rows q now; same = λ p h. set_else rows q p now (λ e. absurd (low p h e)) }
      where
        low : (p : ℕ) → p < from → q ≡ p → ⊥
        low p h e = let le : from ≤ q = (c.right r (inl refl) q was place there).0 in omega (arith, le, h, e)

  abbrev ClosedAt : List Opening → DevId × D → List (DevId × D) → Option ℕ → Type 0
  ClosedAt rows r left place = (after : List Opening) × (openings_closed (Some rows) place (name_in names r.0) (closing_of (state r.1)) ≡ Some after) × KeepsFirst rows after × Covers after left

  -- one disk is closed
  one_closed : (rows : List Opening) (r : DevId × D) (left : List (DevId × D)) → Covers rows (r ∷ left) → (after : List Opening) × (closing_one state names r (Some rows) ≡ Some after) × KeepsFirst rows after × Covers after left
  one_closed rows r left c = by_place (state r.1).place refl
    where
      by_row : (q : ℕ) → (state r.1).place ≡ Some q → (o : Option Opening) → slice_get rows q ≡ o → ClosedAt rows r left (Some q)
      by_row q place None none = (
        rows,
        ap (λ (o : Option Opening). Some (close_at rows q o (name_in names r.0) (closing_of (state r.1)))) none,
        keeps_refl rows,
        pass rows r left (λ p row at there. none_some (sym (subst (λ (n : ℕ). slice_get rows n ≡ None) (some_same (sym place ∙ at)) none) ∙ there)) c,
      )
      by_row q place (Some was) there =
          (next rows r left q was place there c, ap (λ (o : Option Opening). Some (close_at rows q o (name_in names r.0) (closing_of (state r.1)))) there, keeps_next rows r left q was place there c, covers_next rows r left q was place there c)

      by_place : (place : Option ℕ) → (state r.1).place ≡ place → ClosedAt rows r left (state r.1).place
      by_place None none = subst (ClosedAt rows r left) (sym none) (rows, refl, keeps_refl rows, pass rows r left (λ p row at there. none_some (sym none ∙ at)) c)
      by_place (Some q) place = subst (ClosedAt rows r left) (sym place) (by_row q place (slice_get rows q) refl)

  -- **each disk is closed in turn, and then each row since that place is closed as it should be**
  pub each_closed : (left rows : List (DevId × D)) (told : List Opening) → Covers told (left ++ rows) → (after : List Opening) × (closing_each state names left (Some told) ≡ Some after) × KeepsFirst told after × Covers after rows
  each_closed [] rows told c = (told, refl, keeps_refl told, c)
  each_closed (r ∷ left) rows told c =
      let one = one_closed told r (left ++ rows) c in
      let more = each_closed left rows one.0 one.3 in
      (more.0, ap (λ (o : Option (List Opening)). closing_each state names left o) one.1 ∙ more.1, keeps_trans told one.0 more.0 one.2 more.2, more.3)

  pub all_closed : (threads : List (List (DevId × D))) (told : List Opening) → Covers told (flat threads) → (after : List Opening) × (closing_all state names threads (Some told) ≡ Some after) × KeepsFirst told after × Covers after []
  all_closed [] told c = (told, refl, keeps_refl told, c)
  all_closed (own ∷ threads) told c =
      let one = each_closed own (flat threads) told c in
      let more = all_closed threads one.0 one.3 in
      (more.0, ap (λ (o : Option (List Opening)). closing_all state names threads o) one.1 ∙ more.1, keeps_trans told one.0 more.0 one.2 more.2, more.3)

-- where nothing is told, nothing is told after
pub untold_each : {D : Type 0} (state : D → DiskState) (names : List (DevId × List ℕ)) (left : List (DevId × D)) → closing_each state names left None ≡ None
untold_each state names [] = refl
untold_each state names (r ∷ left) = untold_each state names left

pub untold_all : {D : Type 0} (state : D → DiskState) (names : List (DevId × List ℕ)) (threads : List (List (DevId × D))) → closing_all state names threads None ≡ None
untold_all state names [] = refl
untold_all {D = D} state names (own ∷ threads) = ap (λ (o : Option (List Opening)). closing_all state names threads o) (untold_each state names own) ∙ untold_all state names threads
