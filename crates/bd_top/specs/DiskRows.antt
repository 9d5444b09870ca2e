-- The disks of a run, from their opening to their closing, by the rows that the host tells of them.
use Rattle.std.specs.Prelude.{◌≡◌, ℕ, ◌+◌, ◌≤◌, ◌&&◌, min, Bool, List, ◌++◌, length, slice_get, Option, Some}
use Rattle.std.specs.List.{count_by}
use Rattle.std.specs.Option.{option_map}
use Rattle.bd_base.specs.declared.act.Entry.{Entry}
use Rattle.bd_base.specs.declared.id.DevId.{DevId}
use Rattle.bd_base.specs.declared.setup.Setup.{Setup}
use Rattle.bd_building.specs.AioDevices.{aio_devices, aio_of, AioDevice, IsPlain}
use Rattle.bd_building.specs.Progress.{Progress}
use Rattle.bd_config.specs.declared.command.Command.{Command}
use Rattle.bd_disks.specs.Holding.{content_of}
use Rattle.bd_disks.specs.Serving.{is_flush}
use Rattle.bd_machine.specs.declared.state.Content.{Content}
use Rattle.bd_machine.specs.declared.state.State.{State}
use Rattle.bd_machine.specs.BlockMap.{home}
use Rattle.bd_machine.specs.Completion.{is_done_end, is_fault_end}
use Rattle.bd_machine.specs.Content.{Told as Contents}
use Rattle.bd_machine.specs.Homes.{base_here}
use Rattle.bd_machine.specs.Run.{state_after}
use Rattle.bd_machine.specs.Start.{start}
use Rattle.bd_machine.specs.View.{view}
use Rattle.bd_disk_pool.specs.Covering.{AreOpen, Begun, WhereTold}
use Rattle.bd_disk_pool.specs.Held.{Held}
use Rattle.bd_outside.specs.Count.{last_count}
use Rattle.bd_outside.specs.Disk.{closing_of, DiskState, HasWholeBlocks, IsOpenedOver}
use Rattle.bd_outside.specs.File.{Told}
use Rattle.bd_outside.specs.Host.{HostState}
use Rattle.bd_outside.specs.declared.opening.Opening.{Opening}
use Rattle.bd_law_served.specs.Served.{served_in, ServedPiece}
use Rattle.bd_disks.specs.Done.{DidPieces}

-- ---- open

-- a disk that was opened over the file of an aio device, as the host tells that file, and to which nothing was done yet
pub record IsFresh (told : List ℕ → Told) (device : AioDevice) (b : Begun) : Type 0 where
  pub device_is : b.dev ≡ device.dev
  pub file : device.file ≡ Some b.name
  pub size : b.disk.block_size ≡ device.size
  pub blocks : b.disk.blocks ≡ device.blocks
  pub over : IsOpenedOver (told b.name) b.disk
  pub whole : HasWholeBlocks b.disk
  pub no_faults : b.disk.faults ≡ 0
  pub no_flushes : b.disk.flushes ≡ 0

-- each of these devices has such a disk, in order
pub record AreFresh (told : List ℕ → Told) (devices : List AioDevice) (begun : List Begun) : Type 0 where
  pub many : length begun ≡ length devices
  pub each : (k : ℕ) (device : AioDevice) (b : Begun) → slice_get devices k ≡ Some device → slice_get begun k ≡ Some b → IsFresh told device b

-- since the host told the old rows just the disks of these devices were opened, whose numbers are below n, and each is as it was opened
pub record IsSetOut {D : Type 0} (state : D → DiskState) (told : List ℕ → Told) (n : ℕ) (devices : List AioDevice) (held : Held D) (old new : List Opening) : Type 0 where
  pub begun : List Begun
  pub stand : AreOpen state n held begun old new
  pub fresh : AreFresh told devices begun

-- the same, where the host still tells its openings
abbrev pub AreSetOut : {D : Type 0} → (D → DiskState) → (List ℕ → Told) → ℕ → List AioDevice → Held D → Option (List Opening) → Option (List Opening) → Type 0
AreSetOut state told n devices held old new = WhereTold (IsSetOut state told n devices held) old new

-- the host tells this of each file
abbrev pub TellsSo : HostState → (List ℕ → Told) → Type 0
TellsSo host told = (name : List ℕ) → host.told name ≡ told name

-- whichever disks of devices below this number were open, the disk of the command's device is open too, if it has one
abbrev pub OpensFor : {D : Type 0} → (D → DiskState) → ℕ → Command → ℕ → HostState → Held D → HostState → Held D → Type 0
OpensFor state n command blocks old before new after =
    (told : List ℕ → Told) (base : Option (List Opening)) (devices : List AioDevice) → TellsSo old told → AreSetOut state told n devices before base old.openings
    → AreSetOut state told (n + length (aio_of n command blocks)) (devices ++ aio_of n command blocks) after base new.openings

-- while commands are done: the host tells the same of each file, and just the disks of the aio devices so far are open
pub record StandOpen {D : Type 0} (state : D → DiskState) (told : List ℕ → Told) (base : Option (List Opening)) (progress : Progress) (held : Held D) (host : HostState) : Type 0 where
  pub same : TellsSo host told
  pub plain : IsPlain progress
  pub rows : AreSetOut state told (length progress.setup.devices) (aio_devices progress.setup) held base host.openings

-- ---- closed

-- a piece that ended with a fault
abbrev pub is_fault : ServedPiece → Bool
is_fault served = is_fault_end (Some served.end)

-- a flush that was done
abbrev pub is_flushed : ServedPiece → Bool
is_flushed served = is_flush served.piece.op && is_done_end (Some served.end)

-- how many such pieces there are, as a count has it that stands still at its last value
abbrev pub counted : (ServedPiece → Bool) → List ServedPiece → ℕ
counted is pieces = min (count_by is pieces) last_count

-- the content of a device in a state of the machine, at the device's home
abbrev pub content_at_home : Setup → State → DevId → Option Content
content_at_home setup s dev = option_map (λ base. base.content) (base_here (view s (home setup dev)) dev)

-- what the host keeps of a device's disk. It was opened over the device's file, with the content that the device has as the run begins. It did just
-- the pieces of which the run says that the device served them, one after the other, each with that end. Then it had the content that the run leaves
-- the device, its count of flushes was that of those pieces, and its count of faults at least theirs; and it was closed with what it told then
pub record IsDiskOf (told : List ℕ → Told) (contents : Contents) (setup : Setup) (trace : List Entry) (device : AioDevice) (row : Opening) : Type 0 where
  pub opened : DiskState
  pub closed : DiskState
  pub fresh : IsFresh told device (record { dev = device.dev; name = row.name; disk = opened })
  pub begins : content_at_home setup (start setup contents) device.dev ≡ Some (content_of opened)
  pub did : DidPieces device.size (served_in setup contents trace device.dev) opened closed
  pub ends : content_at_home setup (state_after setup contents trace) device.dev ≡ Some (content_of closed)
  pub flushes : closed.flushes ≡ counted is_flushed (served_in setup contents trace device.dev)
  pub faults : counted is_fault (served_in setup contents trace device.dev) ≤ closed.faults
  pub is : row ≡ record { name = row.name; blocks = opened.blocks; closing = Some (closing_of closed) }

-- the rows that were added are those of the setup's aio devices, in the order of their numbers
pub record HasDisks (told : List ℕ → Told) (contents : Contents) (setup : Setup) (trace : List Entry) (old new : List Opening) : Type 0 where
  pub added : List Opening
  pub are : new ≡ old ++ added
  pub many : length added ≡ length (aio_devices setup)
  pub each : (k : ℕ) (device : AioDevice) (row : Opening) → slice_get (aio_devices setup) k ≡ Some device → slice_get added k ≡ Some row → IsDiskOf told contents setup trace device row

-- the same, where the host still tells its openings
abbrev pub TellDisks : (List ℕ → Told) → Contents → Setup → List Entry → Option (List Opening) → Option (List Opening) → Type 0
TellDisks told contents setup trace old new = WhereTold (HasDisks told contents setup trace) old new
