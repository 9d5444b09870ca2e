-- What the disks of a thread hold, as the machine has content.
use Rattle.std.specs.Prelude.{Option, None, Some, List}
use Rattle.std.specs.Option.{option_map}
use Rattle.bd_base.specs.declared.id.DevId.{DevId}
use Rattle.bd_disks.specs.Holding.{content_of}
use Rattle.bd_disks.specs.Rows.{disk_of}
use Rattle.bd_machine.specs.declared.state.Content.{Content}
use Rattle.bd_machine.specs.declared.state.Content.TheVariants.{Untold}
use Rattle.bd_outside.specs.Disk.{DiskState}

-- the content of a disk, if there is one
abbrev pub content_if : Option DiskState → Content
content_if None = Untold
content_if (Some disk) = content_of disk

-- what the disk of each device holds, in blocks; untold where a device has no disk, or its disk tells nothing
abbrev pub contents_of : {D : Type 0} → (D → DiskState) → List (DevId × D) → DevId → Content
contents_of state disks dev = content_if (option_map state (disk_of dev disks))
