-- The row of a device among the disks: found by its place, and changed there.
use Rattle.std.proofs.Common.{◌≡◌, ℕ, suc, ◌+◌, ◌<◌, ◌≤◌, Bool, true, false, cond, not, List, [], ◌∷◌, length, get_or, set, nat_lt, ltb-true, ltb-false, Option, Some, None, refl, sym, ◌∙◌, ap, subst, arith}
use Rattle.std.specs.List.{position, position_or_len}
use Rattle.std.specs.Option.{option_map}
use Rattle.bd_base.specs.declared.id.DevId.{DevId}
use Rattle.bd_disks.specs.Rows.{ChangesDisk, ChangesRow, disk_of, is_row}

low : (a b : ℕ) → suc a < suc b → a < b
low a b p = omega arith

low_le : (a b : ℕ) → suc a ≤ suc b → a ≤ b
low_le a b p = omega arith

none : (a : ℕ) → suc a ≤ 0 → ⊥
none a p = omega arith

module _ {D : Type 0} (dev : DevId) where
  abbrev is : DevId × D → Bool
  is row = is_row dev row

  -- how many rows stand before that of the device
  abbrev before : List (DevId × D) → ℕ
  before [] = 0
  before (row ∷ rows) = cond (not (is row)) (suc (before rows)) 0

  before_is : (rows : List (DevId × D)) → before rows ≡ position_or_len is rows
  before_is [] = refl
  before_is (row ∷ rows) = go (not (is row)) (before_is rows)
    where
      more : (a b : ℕ) → a ≡ b → suc a ≡ 1 + b
      more a b e = omega arith

      go : (b : Bool) → before rows ≡ position_or_len is rows → cond b (suc (before rows)) 0 ≡ cond b (1 + position_or_len is rows) 0
      go true ih = more (before rows) (position_or_len is rows) ih
      go false ih = refl

  placed : (rows : List (DevId × D)) (i : ℕ) → position is rows ≡ Some i → (before rows ≡ i) × (before rows < length rows)
  placed rows i e = go (nat_lt (position_or_len is rows) (length rows)) refl e
    where
      some_same : Some (position_or_len is rows) ≡ Some i → position_or_len is rows ≡ i
      some_same e = cc

      go : (b : Bool) → nat_lt (position_or_len is rows) (length rows) ≡ b → cond b (Some (position_or_len is rows)) None ≡ Some i
          → (before rows ≡ i) × (before rows < length rows)
      go true q e = (before_is rows ∙ some_same e, subst (λ (n : ℕ). n < length rows) (sym (before_is rows)) (ltb-true (position_or_len is rows) (length rows) q))
      go false q e = cc

  past : (rows : List (DevId × D)) → position is rows ≡ None → length rows ≤ before rows
  past rows e = go (nat_lt (position_or_len is rows) (length rows)) refl e
    where
      go : (b : Bool) → nat_lt (position_or_len is rows) (length rows) ≡ b → cond b (Some (position_or_len is rows)) None ≡ None → length rows ≤ before rows
      go true q e = cc
      go false q e = subst (λ (n : ℕ). length rows ≤ n) (sym (before_is rows)) (ltb-false (position_or_len is rows) (length rows) q)

  there : (rows : List (DevId × D)) (d : DevId × D) → before rows < length rows → disk_of dev rows ≡ Some (get_or rows (before rows) d).1
  there [] d h = absurd (omega arith)
  there (row ∷ rows) d h = go (is row) h (there rows d)
    where
      go : (b : Bool) → cond (not b) (suc (before rows)) 0 < suc (length rows)
          → (before rows < length rows → disk_of dev rows ≡ Some (get_or rows (before rows) d).1)
          → cond b (Some row.1) (disk_of dev rows) ≡ Some (get_or (row ∷ rows) (cond (not b) (suc (before rows)) 0) d).1
      go true l ih = refl
      go false l ih = ih (low (before rows) (length rows) l)

  nowhere : (rows : List (DevId × D)) → length rows ≤ before rows → disk_of dev rows ≡ None
  nowhere [] h = refl
  nowhere (row ∷ rows) h = go (is row) h (nowhere rows)
    where
      go : (b : Bool) → suc (length rows) ≤ cond (not b) (suc (before rows)) 0 → (length rows ≤ before rows → disk_of dev rows ≡ None)
          → cond b (Some row.1) (disk_of dev rows) ≡ None
      go true l ih = absurd (none (length rows) l)
      go false l ih = ih (low_le (length rows) (before rows) l)

  -- the disk at the place is the device's
  pub disk_at : (rows : List (DevId × D)) (i : ℕ) (d : DevId × D) → position is rows ≡ Some i → disk_of dev rows ≡ Some (get_or rows i d).1
  disk_at rows i d e =
      let p = placed rows i e in
      there rows d p.1 ∙ ap (λ (n : ℕ). Some (get_or rows n d).1) p.0

  -- where there is no place there is no disk
  pub no_disk : (rows : List (DevId × D)) → position is rows ≡ None → disk_of dev rows ≡ None
  no_disk rows e = nowhere rows (past rows e)

  -- what is said of the disk, by the place that was found
  pub mapped_at : (f : D → ℕ) (rows : List (DevId × D)) (place : Option ℕ) (i : ℕ) (d : DevId × D) → place ≡ position is rows → place ≡ Some i
      → Some (f (get_or rows i d).1) ≡ option_map f (disk_of dev rows)
  mapped_at f rows place i d e s = ap (λ (o : Option D). option_map f o) (sym (disk_at rows i d (sym e ∙ s)))

  pub mapped_nowhere : (f : D → ℕ) (rows : List (DevId × D)) (place : Option ℕ) → place ≡ position is rows → place ≡ None
      → None ≡ option_map f (disk_of dev rows)
  mapped_nowhere f rows place e s = ap (λ (o : Option D). option_map f o) (sym (no_disk rows (sym e ∙ s)))

  module _ (So : D → D → Type 0) where
    abbrev here : Bool → DevId × D → List (DevId × D) → List (DevId × D) → Type 0
    here b row rows [] = ⊥
    here b row rows (other ∷ new) = ChangesRow b So row other (new ≡ rows) (ChangesDisk dev So rows new)

    changed_there : (rows : List (DevId × D)) (d next : DevId × D) → before rows < length rows → next.0 ≡ (get_or rows (before rows) d).0
        → So (get_or rows (before rows) d).1 next.1 → ChangesDisk dev So rows (set rows (before rows) next)
    changed_there [] d next h same so = absurd (omega arith)
    changed_there (row ∷ rows) d next h same so = go (is row) h same so (changed_there rows d next)
      where
        go : (b : Bool) → cond (not b) (suc (before rows)) 0 < suc (length rows)
            → next.0 ≡ (get_or (row ∷ rows) (cond (not b) (suc (before rows)) 0) d).0
            → So (get_or (row ∷ rows) (cond (not b) (suc (before rows)) 0) d).1 next.1
            → (before rows < length rows → next.0 ≡ (get_or rows (before rows) d).0 → So (get_or rows (before rows) d).1 next.1
            → ChangesDisk dev So rows (set rows (before rows) next))
            → here b row rows (set (row ∷ rows) (cond (not b) (suc (before rows)) 0) next)
        go true l same so ih = (same, so, refl)
        go false l same so ih = (refl, ih (low (before rows) (length rows) l) same so)

    -- a change at the place is a change of the device's disk
    pub changed_at : (rows : List (DevId × D)) (i : ℕ) (d next : DevId × D) → position is rows ≡ Some i → next.0 ≡ (get_or rows i d).0
        → So (get_or rows i d).1 next.1 → ChangesDisk dev So rows (set rows i next)
    changed_at rows i d next e same so =
        let p = placed rows i e in
        subst (λ (n : ℕ). ChangesDisk dev So rows (set rows n next)) p.0
        (changed_there rows d next p.1 (subst (λ (n : ℕ). next.0 ≡ (get_or rows n d).0) (sym p.0) same) (subst (λ (n : ℕ). So (get_or rows n d).1 next.1) (sym p.0) so))
