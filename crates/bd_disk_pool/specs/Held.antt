-- Disks that are open.
use Rattle.std.specs.Prelude.{ℕ, ◌%◌, List, [], ◌∷◌, ◌++◌, length, replicate, slice_index_or, slice_set}
use Rattle.bd_base.specs.declared.id.DevId.{DevId}

-- the name of each disk's file by its device, in the order in which they were opened, and the disks of each thread
pub record Held (D : Type 0) : Type 0 where
  pub names : List (DevId × List ℕ)
  pub threads : List (List (DevId × D))

abbrev pub none_held : {D : Type 0} → ℕ → Held D
none_held threads = record { names = []; threads = replicate threads [] }

-- the disks of each thread, with one more for the home of its device
abbrev pub at_home : {D : Type 0} → List (List (DevId × D)) → DevId → D → List (List (DevId × D))
at_home threads dev disk =
    slice_set threads (dev.0 % length threads) (slice_index_or threads (dev.0 % length threads) [] ++ (dev, disk) ∷ [])

abbrev pub with_disk : {D : Type 0} → Held D → DevId → List ℕ → D → Held D
with_disk held dev name disk = record { names = held.names ++ (dev, name) ∷ []; threads = at_home held.threads dev disk }
