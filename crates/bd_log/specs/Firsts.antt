-- Which part comes before which, and parts in order of their threads.
use Rattle.std.specs.Prelude.{◌≡◌, ℕ, ◌<◌, false, List, length, slice_index_or}
use Rattle.bd_log.specs.Merge.{Part, head_before}

-- the part at the one place does not come before that at the other
abbrev pub IsNotBefore : List Part → ℕ → ℕ → Type 0
IsNotBefore parts i j = (d : Part) → head_before (slice_index_or parts i d).entries (slice_index_or parts j d).entries ≡ false

-- each of the first parts, up to this number, has a lesser thread than all parts after it
abbrev pub AreByThread : ℕ → List Part → Type 0
AreByThread count parts = (i j : ℕ) (d : Part) → i < count → i < j → j < length parts → (slice_index_or parts i d).thread < (slice_index_or parts j d).thread
