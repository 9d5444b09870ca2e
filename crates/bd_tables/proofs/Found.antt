-- What the first row that passes a test is, and what is left without it.
use Rattle.std.proofs.Common.{◌≡◌, ℕ, zero, suc, Bool, true, false, List, [], ◌∷◌, ◌++◌, length, Option, Some, None, is_some, MatchOption, remove, find, refl, ap, sym, arith}
use Rattle.std.specs.List.{list_any}
use Rattle.bd_tables.specs.declared.row.Row.{Row}
use Rattle.bd_tables.specs.Firsts.{at, NonePasses, IsFirst}
use Rattle.bd_base.specs.declared.id.ReqId.{ReqId}
use Rattle.bd_tables.specs.declared.place.Place.{Place}
use Rattle.bd_tables.specs.Rows.{without_first, keeps, moved}
use Rattle.std.specs.Option.{option_map}

pub none_found : (p : Row → Bool) (rows : List Row) → NonePasses p rows (length rows) → find p rows ≡ None
none_found p [] none = refl
none_found p (r ∷ rs) none =
    let here : p r ≡ false = none 0 (omega arith) in
    rw here (none_found p rs (λ j inside. none (suc j) (omega arith)))

pub none_any : (p : Row → Bool) (rows : List Row) → NonePasses p rows (length rows) → list_any p rows ≡ false
none_any p [] none = refl
none_any p (r ∷ rs) none =
    let here : p r ≡ false = none 0 (omega arith) in
    rw here (none_any p rs (λ j inside. none (suc j) (omega arith)))

pub none_goes : (p : Row → Bool) (rows : List Row) → NonePasses p rows (length rows) → without_first p rows ≡ rows
none_goes p [] none = refl
none_goes p (r ∷ rs) none =
    let here : p r ≡ false = none 0 (omega arith) in
    rw here (ap (λ (left : List Row). r ∷ left) (none_goes p rs (λ j inside. none (suc j) (omega arith))))

-- the first among the rows after the head
tail_first : (p : Row → Bool) (r : Row) (rs : List Row) (i : ℕ) → IsFirst p (r ∷ rs) (suc i) → IsFirst p rs i
tail_first p r rs i f = record {
  inside = omega (arith, f.inside);
  passes = f.passes;
  first = λ j less. f.first (suc j) (omega arith);
}

pub first_found : (p : Row → Bool) (rows : List Row) (i : ℕ) → IsFirst p rows i → find p rows ≡ Some (at rows i)
first_found p [] i f = absurd (omega (arith, f.inside))
first_found p (r ∷ rs) zero f = let here : p r ≡ true = f.passes in rw here
first_found p (r ∷ rs) (suc i) f =
    let here : p r ≡ false = f.first 0 (omega arith) in
    rw here (first_found p rs i (tail_first p r rs i f))

pub first_any : (p : Row → Bool) (rows : List Row) (i : ℕ) → IsFirst p rows i → list_any p rows ≡ true
first_any p [] i f = absurd (omega (arith, f.inside))
first_any p (r ∷ rs) zero f = let here : p r ≡ true = f.passes in rw here
first_any p (r ∷ rs) (suc i) f =
    let here : p r ≡ false = f.first 0 (omega arith) in
    rw here (first_any p rs i (tail_first p r rs i f))

pub first_goes : (p : Row → Bool) (rows : List Row) (i : ℕ) → IsFirst p rows i → without_first p rows ≡ remove rows i
first_goes p [] i f = absurd (omega (arith, f.inside))
first_goes p (r ∷ rs) zero f = let here : p r ≡ true = f.passes in rw here
first_goes p (r ∷ rs) (suc i) f =
    let here : p r ≡ false = f.first 0 (omega arith) in
    rw here (ap (λ (left : List Row). r ∷ left) (first_goes p rs i (tail_first p r rs i f)))

-- what is read of the first row that passes, or of none
pub first_read : {Y : Type 0} (f : Row → Y) (p : Row → Bool) (rows : List Row) (i : ℕ) (row : Row) → IsFirst p rows i → row ≡ at rows i → Some (f row) ≡ option_map f (find p rows)
first_read f p rows i row first here = rw (first_found p rows i first) (ap (λ (r : Row). Some (f r)) here)

pub none_read : {Y : Type 0} (f : Row → Y) (p : Row → Bool) (rows : List Row) → NonePasses p rows (length rows) → let none : Option Y = None in none ≡ option_map f (find p rows)
none_read f p rows none = rw (none_found p rows none)

-- the row that keeps a request comes to another place
pub first_moved : (id : ReqId) (place : Place) (rows left : List Row) (i : ℕ) (row : Row) → IsFirst (keeps id) rows i → left ≡ remove rows i → row ≡ at rows i →
    left ++ record { request = row.request; place = place; under = row.under } ∷ [] ≡ moved id place rows
first_moved id place rows left i row first gone here =
    rw (first_found (keeps id) rows i first, first_goes (keeps id) rows i first, gone, here)

pub none_moved : (id : ReqId) (place : Place) (rows : List Row) → NonePasses (keeps id) rows (length rows) → rows ≡ moved id place rows
none_moved id place rows none =
    rw (none_found (keeps id) rows none, none_goes (keeps id) rows none)

-- a row that passes was found exactly where some row passes
pub found_any : (p : Row → Bool) (rows : List Row) (found : Option ℕ) → MatchOption found (NonePasses p rows (length rows)) (IsFirst p rows) → is_some found ≡ list_any p rows
found_any p rows None none = sym (none_any p rows none)
found_any p rows (Some i) first = sym (first_any p rows i first)
