-- Rows that lie in the slots of a slab, in the order of a list of their keys.
use Rattle.std.specs.Prelude.{◌≡◌, ◌≢◌, ℕ, ◌-◌, ◌^◌, List, [], ◌∷◌, length, map, min, count_by, slice_index_or, Option, None, is_some, unwrap_or, IsSome}
use Rattle.bd_base.specs.declared.request.Op.TheVariants.{Flush}
use Rattle.bd_tables.specs.declared.place.Place.TheVariants.{Fresh}
use Rattle.bd_tables.specs.declared.row.Row.{Row}
use Rattle.bd_tables.specs.Under.{nothing_under}

-- no row
abbrev pub absent : Row
absent = record {
  request = record { id = record { thread = 0; seq = 0 }; dev = record { 0 = 0 }; handle = record { 0 = 0 }; op = Flush; lba = 0; count = 0 };
  place = Fresh;
  under = nothing_under;
}

-- what lies at a key
abbrev pub slot_at : List (Option Row) → ℕ → Option Row
slot_at slots key = slice_index_or slots key None

abbrev pub row_at : List (Option Row) → ℕ → Row
row_at slots key = unwrap_or (slot_at slots key) absent

-- the rows in their order
abbrev pub rows_of : List (Option Row) → List ℕ → List Row
rows_of slots keys = map (row_at slots) keys

-- the key isn't among these
abbrev pub IsFree : ℕ → List ℕ → Type 0
IsFree key [] = Unit {0}
IsFree key (k ∷ ks) = (key ≢ k) × IsFree key ks

-- no key comes twice
abbrev pub AreDistinct : List ℕ → Type 0
AreDistinct [] = Unit {0}
AreDistinct (k ∷ ks) = IsFree k ks × AreDistinct ks

-- each key has a row
abbrev pub AreFilled : List (Option Row) → List ℕ → Type 0
AreFilled slots [] = Unit {0}
AreFilled slots (k ∷ ks) = IsSome (slot_at slots k) × AreFilled slots ks

-- the keys are those of the rows, each once
pub record IsInOrder (slots : List (Option Row)) (keys : List ℕ) : Type 0 where
  pub distinct : AreDistinct keys
  pub filled : AreFilled slots keys
  pub all : count_by is_some slots ≡ length keys

-- how many more rows fit, of at most 2^32 - 1, beside n rows
abbrev pub room_of : ℕ → ℕ → ℕ → ℕ
room_of slab_capacity order_capacity n = min (min slab_capacity order_capacity) (2 ^ 32 - 1) - n
