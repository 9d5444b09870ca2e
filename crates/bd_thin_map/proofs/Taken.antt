-- What a write to a place has to do, and what holds of the cluster that it takes.
use Rattle.std.proofs.Common.{◌≡◌, ℕ, zero, suc, ◌+◌, ◌<◌, Bool, true, false, cond, nat_eq, nat_lt, ◌==◌, List, length, slice_index, Option, Some, None, Result, Ok, Err, find, refl, sym, ap, ◌∙◌, arith}
use Rattle.std.proofs.lemmas.Bool.Decides.{nat_tests}
use Rattle.std.specs.List.{position, range_with_len}
use Rattle.bd_base.specs.declared.id.DevId.{DevId}
use Rattle.bd_thin_map.specs.Map.{IsCounted, MapRows, first_free, look, prepare, ready_for, users_of, with_free}
use Rattle.bd_thin_map.specs.declared.ready.NoSpace.{NoSpace}
use Rattle.bd_thin_map.specs.declared.ready.Ready.{Ready}
use Rattle.bd_thin_map.specs.declared.ready.Ready.TheVariants.{InPlace, Fresh, Copy}
use Rattle.bd_thin_map.specs.declared.row.Row.{Row}
use Rattle.bd_thin_map.proofs.Rows.{first_free_is}

-- ---- the answer

pub free_is : (users : List ℕ) (rows : List Row) (m : MapRows) → record { clusters = length users; rows = rows } ≡ m → IsCounted users rows → position (nat_eq 0) users ≡ first_free m
free_is users rows m view is = first_free_is users rows is.counts ∙ ap first_free view

pub users_are : (users : List ℕ) (rows : List Row) (m : MapRows) → record { clusters = length users; rows = rows } ≡ m → IsCounted users rows → (c : ℕ) → slice_index users c ≡ users_of m.rows c
users_are users rows m view is c = is.counts c ∙ ap (λ (s : MapRows). users_of s.rows c) view

shared : (n : ℕ) → 1 < n → nat_lt 1 n ≡ true
shared n h = grind (arith, nat_tests)

module _ (m : MapRows) (dev : DevId) (place : ℕ) where
  pub fresh_is : (free : Option ℕ) → look m dev place ≡ None → free ≡ first_free m → with_free Fresh free ≡ prepare m dev place
  fresh_is free none is = ap (with_free Fresh) is ∙ sym (ap (ready_for m) none)

  pub copy_is : (from : ℕ) (free : Option ℕ) → look m dev place ≡ Some from → free ≡ first_free m → 1 < users_of m.rows from → with_free (Copy from) free ≡ prepare m dev place
  copy_is from free some is more =
      let other : Result Ready NoSpace = Ok (InPlace from) in
      ap (with_free (Copy from)) is ∙ sym (ap (λ (b : Bool). cond b (with_free (Copy from) (first_free m)) other) (shared (users_of m.rows from) more)) ∙ sym (ap (ready_for m) some)

-- ---- the cluster that is taken

-- a cluster is among those of the range, and passes the test
record IsFound (p : ℕ → Bool) (end to : ℕ) : Type 0 where
  pub passes : p to ≡ true
  pub within : to < end

found_in : (p : ℕ → Bool) (a n to : ℕ) → find p (range_with_len a n) ≡ Some to → IsFound p (a + n) to
found_in p a zero to e = let no : None ≡ Some to = e in absurd (cc)
found_in p a (suc n) to e = go (p a) refl e (found_in p (a + 1) n to)
  where
    go : (b : Bool) → p a ≡ b → cond b (Some a) (find p (range_with_len (a + 1) n)) ≡ Some to → (find p (range_with_len (a + 1) n) ≡ Some to → IsFound p (a + 1 + n) to) → IsFound p (a + suc n) to
    go true q h rest = let same : a ≡ to = cc in record { passes = ap p (sym same) ∙ q; within = omega (arith, same) }
    go false q h rest = let r = rest h in record { passes = r.passes; within = omega (arith, r.within) }

-- it is there, and no place has it
pub record IsFree (m : MapRows) (to : ℕ) : Type 0 where
  pub there : to < m.clusters
  pub free : users_of m.rows to ≡ 0

is_zero : (n : ℕ) → (n == 0) ≡ true → n ≡ 0
is_zero n h = grind (arith, nat_tests)

first_is_free : (m : MapRows) (to : ℕ) → first_free m ≡ Some to → IsFree m to
first_is_free m to e = let f = found_in (λ c. users_of m.rows c == 0) 0 m.clusters to e in record { there = omega (arith, f.within); free = is_zero (users_of m.rows to) f.passes }

-- the cluster that is taken
taken : Ready → Option ℕ
taken (InPlace c) = None
taken (Fresh to) = Some to
taken (Copy from to) = Some to

taken_in : Result Ready NoSpace → Option ℕ
taken_in (Ok r) = taken r
taken_in (Err e) = None

module _ (m : MapRows) where
  fresh_takes : (free : Option ℕ) (to : ℕ) → taken_in (with_free Fresh free) ≡ Some to → free ≡ Some to
  unfolding taken taken_in
  fresh_takes None to e = e
  fresh_takes (Some c) to e = e

  copy_takes : (from : ℕ) (free : Option ℕ) (to : ℕ) → taken_in (with_free (Copy from) free) ≡ Some to → free ≡ Some to
  unfolding taken taken_in
  copy_takes from None to e = e
  copy_takes from (Some c) to e = e

  ready_takes : (at : Option ℕ) (to : ℕ) → taken_in (ready_for m at) ≡ Some to → first_free m ≡ Some to
  unfolding taken taken_in
  ready_takes None to e = fresh_takes (first_free m) to e
  ready_takes (Some from) to e = go (nat_lt 1 (users_of m.rows from)) e
    where
      go : (b : Bool) → taken_in (cond b (with_free (Copy from) (first_free m)) (Ok (InPlace from))) ≡ Some to → first_free m ≡ Some to
      go true h = copy_takes from (first_free m) to h
      go false h = let no : None ≡ Some to = h in absurd (cc)

pub fresh_free : (m : MapRows) (dev : DevId) (place to : ℕ) → prepare m dev place ≡ Ok (Fresh to) → IsFree m to
unfolding taken taken_in
fresh_free m dev place to e = first_is_free m to (ready_takes m (look m dev place) to (ap taken_in e))

pub copy_free : (m : MapRows) (dev : DevId) (place from to : ℕ) → prepare m dev place ≡ Ok (Copy from to) → IsFree m to
unfolding taken taken_in
copy_free m dev place from to e = first_is_free m to (ready_takes m (look m dev place) to (ap taken_in e))
