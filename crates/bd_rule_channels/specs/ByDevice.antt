-- A table of rows by device. What is of a device without a row of its own is in the last row.
use Rattle.std.specs.Prelude.{ℕ, ◌-◌, List, [], length, min, slice_index_or, slice_set}
use Rattle.bd_base.specs.declared.id.DevId.{DevId}

-- the place of the row of a device among n rows
abbrev pub place_of : ℕ → DevId → ℕ
place_of n dev = min dev.0 (n - 1)

abbrev pub row_at : {X : Type 0} → List (List X) → DevId → List X
row_at rows dev = slice_index_or rows (place_of (length rows) dev) []

-- the table with this row of the device
abbrev pub with_row : {X : Type 0} → List (List X) → DevId → List X → List (List X)
with_row rows dev row = slice_set rows (place_of (length rows) dev) row
