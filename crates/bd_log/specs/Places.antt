-- Which parts have entries of which stamps.
use Rattle.std.specs.Prelude.{◌≡◌, ℕ, ◌+◌, ◌-◌, ◌<◌, ◌≤◌, List, length, slice_index_or}
use Rattle.std.specs.List.{AllByRecursion}
use Rattle.bd_base.specs.declared.act.Entry.{Entry}
use Rattle.bd_base.specs.declared.thread_set.ThreadSet.{ThreadSet}
use Rattle.bd_base.specs.ThreadSet.{Has}
use Rattle.bd_log.specs.Merge.{Part, IsPart}

-- of the sets for the stamps from the first on, that of the entry's stamp has the place
pub record IsMarked (first : ℕ) (sets : List ThreadSet) (place : ℕ) (entry : Entry) : Type 0 where
  pub from : first ≤ entry.stamp
  pub within : entry.stamp < first + length sets
  pub inside : (d : ThreadSet) → Has (slice_index_or sets (entry.stamp - first) d).0 place

-- each set has all that it had
abbrev pub Grows : List ThreadSet → List ThreadSet → Type 0
Grows old new = (length new ≡ length old) × ((i k : ℕ) (d : ThreadSet) → Has (slice_index_or old i d).0 k → Has (slice_index_or new i d).0 k)

-- the first N parts are marked at each of their entries
abbrev pub AreMarkedUpTo : ℕ → ℕ → List ThreadSet → List Part → Type 0
AreMarkedUpTo count first sets parts = (k : ℕ) (d : Part) → k < count → IsPart (slice_index_or parts k d) × AllByRecursion (IsMarked first sets k) (slice_index_or parts k d).entries

-- each part is marked at each of its entries
abbrev pub AreMarked : ℕ → List ThreadSet → List Part → Type 0
AreMarked first sets parts = AreMarkedUpTo (length parts) first sets parts
