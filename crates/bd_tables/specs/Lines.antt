-- What is kept of each device: the requests that wait over it, and how many of each thread hold up its drain.
use Rattle.std.specs.Prelude.{◌≡◌, ℕ, ◌<◌, ◌≤◌, ◌+◌, ◌-◌, ◌^◌, List, [], ◌∷◌, ◌++◌, if◌then◌else◌, length, map, nat_lt, replicate, slice_index, slice_index_or, slice_set}
use Rattle.bd_base.specs.declared.id.DevId.{DevId}
use Rattle.bd_base.specs.declared.id.ReqId.{ReqId}
use Rattle.bd_msg.specs.Purse.{without}
use Rattle.bd_tables.specs.declared.row.Row.{Row}
use Rattle.bd_tables.specs.Rows.{Rows, counted_under, holds_up, row_id, waits_over, waits_under}

-- the ids of those that wait, in order; for each thread below 16 how many hold up a drain; and for how many ids there is memory
pub record Line : Type 0 where
  pub waiting : List ReqId
  pub counts : List ℕ
  pub capacity : ℕ

abbrev pub blank_counts : List ℕ
blank_counts = replicate 16 0

abbrev pub raised : ℕ → List ℕ → List ℕ
raised thread counts = if nat_lt thread 16 then slice_set counts thread (slice_index counts thread + 1) else counts

abbrev pub lowered : ℕ → List ℕ → List ℕ
lowered thread counts = if nat_lt thread 16 then slice_set counts thread (slice_index counts thread - 1) else counts

-- the line of a device after a row came, as the last one
abbrev pub with_row : DevId → Row → Line → Line
with_row dev r line = record {
  waiting = if waits_over dev r then line.waiting ++ row_id r ∷ [] else line.waiting;
  counts = if holds_up dev r then raised r.request.id.thread line.counts else line.counts;
  capacity = line.capacity;
}

-- the line of a device after a row went
abbrev pub without_row : DevId → Row → Line → Line
without_row dev r line = record {
  waiting = if waits_over dev r then without (row_id r) line.waiting else line.waiting;
  counts = if holds_up dev r then lowered r.request.id.thread line.counts else line.counts;
  capacity = line.capacity;
}

-- there is room for one more row, and no count is at its end
abbrev pub Fits : Line → Type 0
Fits line = (length line.waiting < line.capacity) × ((t : ℕ) → t < 16 → slice_index line.counts t < 2 ^ 32 - 1)

-- the line has just what the rows say of the device
pub record IsExact (dev : DevId) (rows : List Row) (line : Line) : Type 0 where
  pub waiting : line.waiting ≡ map row_id (waits_under dev rows)
  pub long : length line.counts ≡ 16
  pub counts : (t : ℕ) → t < 16 → slice_index line.counts t ≡ length (counted_under dev t rows)

abbrev pub line_at : List Line → ℕ → Line
line_at lines d = slice_index_or lines d (record { waiting = []; counts = blank_counts; capacity = 0 })

abbrev pub numbered : ℕ → DevId
numbered d = record { 0 = d }

-- line d has what the rows say of device d
abbrev pub AreExact : List Row → List Line → Type 0
AreExact rows lines = (d : ℕ) → d < length lines → IsExact (numbered d) rows (line_at lines d)

-- each line has room for so many
abbrev pub AreRoomy : ℕ → List Line → Type 0
AreRoomy limit lines = (d : ℕ) → d < length lines → limit ≤ (line_at lines d).capacity

-- each of these lines was changed, line d by what device d has of it
pub record AreChanged (change : DevId → Line → Line) (old new : List Line) : Type 0 where
  pub len : length new ≡ length old
  pub each : (d : ℕ) → d < length old → line_at new d ≡ change (numbered d) (line_at old d)

-- the lines have the same, but for room, of which none is lost
pub record AreKept (old new : List Line) : Type 0 where
  pub len : length new ≡ length old
  pub waiting : (d : ℕ) → (line_at new d).waiting ≡ (line_at old d).waiting
  pub counts : (d : ℕ) → (line_at new d).counts ≡ (line_at old d).counts
  pub capacity : (d : ℕ) → (line_at old d).capacity ≤ (line_at new d).capacity

-- lines for these rows, of at most 256 devices, all of them with room for so many rows
pub record AreLines (rows : List Row) (lines : List Line) (limit : ℕ) : Type 0 where
  pub exact : AreExact rows lines
  pub roomy : AreRoomy limit lines
  pub few : length lines ≤ 256

-- lines for the rows on a shelf, which has room for so many too
pub record IsIndexed (shelf : Rows) (lines : List Line) (limit : ℕ) : Type 0 where
  pub all : AreLines shelf.rows lines limit
  pub fits : length shelf.rows ≤ limit
  pub room : limit ≤ shelf.room + length shelf.rows
  pub small : limit ≤ 2 ^ 32 - 1
