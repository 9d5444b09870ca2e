-- The disks of several threads, kept in memory that was taken beforehand.
use Rattle.std.specs.Prelude.{ℕ, List, map, Option, IsPermutation}
use Rattle.bd_base.specs.declared.id.DevId.{DevId}
use Rattle.bd_disks.specs.Rows.{places}
use Rattle.bd_outside.specs.Disk.{DiskState}

-- each thread's disks with their devices, in order, and of how many threads there is memory for the disks
pub record Shelved (D : Type 0) : Type 0 where
  pub items : List (List (DevId × D))
  pub capacity : ℕ

-- which disks each thread has, whatever they hold
abbrev pub places_of : {D : Type 0} → (D → DiskState) → List (List (DevId × D)) → List (List (DevId × Option ℕ))
places_of state threads = map (places state) threads

-- no disk came or went, and each is still with those that it was with: only the order of the threads may be another
abbrev pub AreAllThere : {D : Type 0} → (D → DiskState) → List (List (DevId × D)) → List (List (DevId × D)) → Type 0
AreAllThere state old new = IsPermutation (places_of state old) (places_of state new)
