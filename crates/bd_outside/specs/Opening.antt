-- A host's openings of disks, in the order in which they were made.
use Rattle.std.specs.Prelude.{◌≡◌, ℕ, List, [], ◌∷◌, ◌++◌, length, Option, None, Some, ◌⊎◌, ◌&&◌, is_none, slice_get, slice_set, if◌then◌else◌}
use Rattle.bd_base.specs.Name.{same_name}
use Rattle.bd_outside.specs.declared.opening.Opening.{Opening}
use Rattle.bd_outside.specs.declared.opening.Closing.{Closing}

-- an opening that stands open
abbrev pub open_row : List ℕ → ℕ → Opening
open_row name blocks = record { name = name; blocks = blocks; closing = None }

-- a row is added after the others and the new disk has its place, or the host no longer tells its openings
abbrev pub AddsOpening : Option (List Opening) → Option (List Opening) → Opening → Option ℕ → Type 0
AddsOpening None new row place = new ≡ None
AddsOpening (Some rows) new row place = ((new ≡ Some (rows ++ row ∷ [])) × (place ≡ Some (length rows))) ⊎ (new ≡ None)

-- a row with its closing, if it has that name and still stands open; else as it was
abbrev pub closed_row : Opening → List ℕ → Closing → Opening
closed_row row name closing = if same_name row.name name && is_none row.closing then record row { closing = Some closing } else row

-- the rows with the row at a place closed, if there is one
abbrev pub close_at : List Opening → ℕ → Option Opening → List ℕ → Closing → List Opening
close_at rows place None name closing = rows
close_at rows place (Some row) name closing = slice_set rows place (closed_row row name closing)

-- the rows after a disk with that place was closed by that name; a disk that no host opened has no place
abbrev pub rows_closed : List Opening → Option ℕ → List ℕ → Closing → List Opening
rows_closed rows None name closing = rows
rows_closed rows (Some place) name closing = close_at rows place (slice_get rows place) name closing

-- what a host tells of its openings after such a closing
abbrev pub openings_closed : Option (List Opening) → Option ℕ → List ℕ → Closing → Option (List Opening)
openings_closed None place name closing = None
openings_closed (Some rows) place name closing = Some (rows_closed rows place name closing)
