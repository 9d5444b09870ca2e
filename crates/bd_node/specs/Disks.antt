-- What the disks of a node's threads did, and what they tell.
use Rattle.std.specs.Prelude.{◌≡◌, ℕ, true, List, [], Option, None, Some, IfSome, find, length, map, slice_get, slice_index_or}
use Rattle.std.specs.List.{range_with_len}
use Rattle.bd_base.specs.declared.act.Entry.{Entry}
use Rattle.bd_base.specs.declared.id.DevId.{DevId}
use Rattle.bd_base.specs.declared.setup.Setup.{Setup}
use Rattle.bd_machine.specs.declared.state.Content.{Content}
use Rattle.bd_machine.specs.declared.state.Content.TheVariants.{Blocks}
use Rattle.bd_machine.specs.BlockMap.{home, is_aio}
use Rattle.bd_machine.specs.Content.{Told}
use Rattle.bd_machine.specs.Homes.{is_base}
use Rattle.bd_machine.specs.Run.{state_after}
use Rattle.bd_machine.specs.Start.{start}
use Rattle.bd_machine.specs.Users.{dev_of}
use Rattle.bd_machine.specs.View.{part_of}
use Rattle.bd_outside.specs.Disk.{DiskState}
use Rattle.bd_law_served.specs.Served.{served_from, ServedPiece}
use Rattle.bd_disks.specs.Contents.{contents_of}
use Rattle.bd_disks.specs.Done.{AreDoneBy}
use Rattle.bd_worker.specs.declared.seat.Seat.{Seat}

-- ---- threads, in order

-- the disks of each seat
abbrev pub disks_of : {D : Type 0} → List (Seat D) → List (List (DevId × D))
disks_of seats = map (λ s. s.disks) seats

-- the disks of this thread; none where there is no such thread
abbrev pub disks_at : {D : Type 0} → List (List (DevId × D)) → ℕ → List (DevId × D)
disks_at disks t = slice_index_or disks t []

-- ---- what disks tell

-- the blocks, where it is any
abbrev pub blocks_in : Content → Option (List (List ℕ))
blocks_in (Blocks blocks) = Some blocks
blocks_in _ = None

-- the disks of the threads, in order: what that of each device of the setup holds, at its home
abbrev pub told_at : {D : Type 0} → (D → DiskState) → Setup → List (List (DevId × D)) → ℕ → Option (List (List ℕ))
told_at state setup disks n = blocks_in (contents_of state (disks_at disks (home setup (dev_of n))) (dev_of n))

-- the blocks that the disk of each device tells; none where a device has no disk, or its disk tells nothing
abbrev pub told_of : {D : Type 0} → (D → DiskState) → Setup → List (List (DevId × D)) → Told
told_of state setup disks = map (told_at state setup disks) (range_with_len 0 (length setup.devices))

-- ---- a history

-- the pieces of each base device that this thread served in it, from what these disks told
abbrev pub pieces_of : {D : Type 0} → (D → DiskState) → Setup → List Entry → List (List (DevId × D)) → ℕ → DevId → List ServedPiece
pieces_of state setup history disks t dev = served_from setup t dev (start setup (told_of state setup disks)) history

-- these were the disks of the threads, in order, at its start, and those at its end: the disks of each thread did just the pieces that it says
-- the thread served, and each tells at the end what it says its device holds then
pub record SaysOfDisks {D : Type 0} (state : D → DiskState) (setup : Setup) (history : List Entry) (old new : List (List (DevId × D))) : Type 0 where
  pub len : length new ≡ length old
  pub each : (t : ℕ) (a b : List (DevId × D)) → slice_get old t ≡ Some a → slice_get new t ≡ Some b → AreDoneBy state setup (pieces_of state setup history old t) a b
  pub holds : (dev : DevId) → is_aio setup dev ≡ true
      → IfSome (find (is_base dev) (part_of (state_after setup (told_of state setup old) history) (home setup dev)).bases)
      (λ base. base.content ≡ contents_of state (disks_at new (home setup dev)) dev)
