-- A thread that goes on with its disks, and what they did by the entries that say it.
use Rattle.std.specs.Prelude.{◌≡◌, List, []}
use Rattle.bd_base.specs.declared.act.Entry.{Entry}
use Rattle.bd_base.specs.declared.id.DevId.{DevId}
use Rattle.bd_disks.specs.Contents.{contents_of}
use Rattle.bd_disks.specs.Done.{AreDoneBy}
use Rattle.bd_law_logs.specs.Journals.{events}
use Rattle.bd_outside.specs.Disk.{DiskState}
use Rattle.bd_law_served.specs.Served.{served_over, ServedPiece}
use Rattle.bd_thread.specs.declared.links.Links.{Links}
use Rattle.bd_thread.specs.declared.thread.Thread.{Thread}
use Rattle.bd_thread.specs.Over.{WentOver}
use Rattle.bd_thread.specs.Seen.{local, number_of, setup_of}

-- the pieces of a device that these entries of a thread say were served, over what its disks hold
abbrev pub served_of : {D : Type 0} → (D → DiskState) → List (DevId × D) → Thread → Links → List Entry → DevId → List ServedPiece
served_of state disks thread links entries dev = served_over (setup_of thread) (number_of thread) dev (contents_of state disks) (local thread links) entries

-- a thread went on with its disks: over what they hold before and after, and they did just the pieces that its entries say were served
pub record WentWithDisks {D : Type 0} (state : D → DiskState) (disks : List (DevId × D)) (old : Thread) (before : Links) (disks' : List (DevId × D)) (new : Thread) (after : Links) : Type 0 where
  pub went : WentOver (contents_of state disks) (contents_of state disks') old before new after
  pub done : AreDoneBy state (setup_of old) (served_of state disks old before went.entries) disks disks'

-- so, and the registry is as before, and none of the entries that were added asks it or is the Shutdown
pub record WentAloneWithDisks {D : Type 0} (state : D → DiskState) (disks : List (DevId × D)) (old : Thread) (before : Links) (disks' : List (DevId × D)) (new : Thread) (after : Links) : Type 0 where
  pub went : WentWithDisks state disks old before disks' new after
  pub registry : after.registry ≡ before.registry
  pub none_asks : events went.went.entries ≡ []
