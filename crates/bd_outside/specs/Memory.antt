-- What contracts see of the forms in memory.
use Rattle.std.specs.Prelude.{◌≡◌, ◌==◌, ℕ, Bool, ◌-◌, ◌*◌, ◌/◌, List, ◌∷◌, [], ◌++◌, length, take, Option, Some, if◌then◌else◌}
use Rattle.std.specs.List.{list_any}
use Rattle.bd_base.specs.Name.{same_name}
use Rattle.bd_outside.specs.declared.opening.Opening.{Opening}
use Rattle.bd_outside.specs.Count.{one_more}
use Rattle.bd_outside.specs.Disk.{DiskState, closing_of, overwritten}
use Rattle.bd_outside.specs.File.{Told, Untold, NoFile, Content}
use Rattle.bd_outside.specs.Opening.{open_row, rows_closed}

-- a sink in memory: the bytes that it took, how many it has room for in all, and how often it was full
pub record MemorySink : Type 0 where
  pub bytes : List ℕ
  pub room : ℕ
  pub faults : ℕ

-- a new sink with room for this number of bytes
abbrev pub empty_sink : ℕ → MemorySink
empty_sink room = record { bytes = []; room = room; faults = 0 }

-- how many more bytes a sink has room for
abbrev pub space : MemorySink → ℕ
space sink = sink.room - length sink.bytes

-- a disk in memory: its bytes, the bytes of a block, its blocks, which calls fail, how many calls were made, how often
-- it failed, the flushes done, and its place among the openings of its host
pub record MemoryDisk : Type 0 where
  pub content : List ℕ
  pub block_size : ℕ
  pub blocks : ℕ
  pub fails : List ℕ
  pub calls : ℕ
  pub faults : ℕ
  pub flushes : ℕ
  pub place : Option ℕ

-- a new disk with the whole blocks of these bytes, of which these calls fail, at a place among its host's openings, if
-- it has a host
abbrev pub disk_over : List ℕ → ℕ → List ℕ → Option ℕ → MemoryDisk
disk_over bytes size fails place =
    let blocks = length bytes / size in
    record { content = take (blocks * size) bytes; block_size = size; blocks = blocks; fails = fails; calls = 0; faults = 0; flushes = 0; place = place }

-- the disk's next call is one of those that fail: calls are numbered from 1
abbrev pub next_disk_call_fails : MemoryDisk → Bool
next_disk_call_fails disk = list_any (λ call. call == one_more disk.calls) disk.fails

-- the disk after a call that changed nothing else
abbrev pub disk_call : MemoryDisk → MemoryDisk
disk_call disk = record disk { calls = one_more disk.calls }

-- the disk after a call that failed
abbrev pub failed_disk_call : MemoryDisk → MemoryDisk
failed_disk_call disk = record disk { calls = one_more disk.calls; faults = one_more disk.faults }

-- the disk after a call that wrote bytes at a place
abbrev pub write_call : MemoryDisk → ℕ → List ℕ → MemoryDisk
write_call disk at bytes = record disk { calls = one_more disk.calls; content = overwritten disk.content at bytes }

-- the disk after a call that flushed
abbrev pub flush_call : MemoryDisk → MemoryDisk
flush_call disk = record disk { calls = one_more disk.calls; flushes = one_more disk.flushes }

-- what a disk in memory tells: all that it has
abbrev pub memory_state : MemoryDisk → DiskState
memory_state disk = record {
  block_size = disk.block_size;
  blocks = disk.blocks;
  content = Some disk.content;
  faults = disk.faults;
  flushes = disk.flushes;
  place = disk.place;
}

-- the failing calls of a disk over the file of a name, by the first row of that name; none without one
abbrev pub fails_of : List ℕ → List (List ℕ × List ℕ) → List ℕ
fails_of name [] = []
fails_of name (row ∷ rows) = if same_name row.0 name then row.1 else fails_of name rows

-- a host in memory: its named files, its openings and how many it makes at most, which of its calls fail and which of
-- the disks over each name, how many calls were made, and how often it failed and found no file
pub record MemoryHost : Type 0 where
  pub files : List (List ℕ × List ℕ)
  pub openings : List Opening
  pub rows : ℕ
  pub fails : List ℕ
  pub disk_fails : List (List ℕ × List ℕ)
  pub calls : ℕ
  pub faults : ℕ
  pub absences : ℕ

-- a new host of these files
abbrev pub host_of : List (List ℕ × List ℕ) → ℕ → List ℕ → MemoryHost
host_of files rows fails =
    record { files = files; openings = []; rows = rows; fails = fails; disk_fails = []; calls = 0; faults = 0; absences = 0 }

-- the next call of reading or opening is one of those that fail: calls are numbered from 1
abbrev pub next_fails : MemoryHost → Bool
next_fails host = list_any (λ call. call == one_more host.calls) host.fails

-- the host after a call that failed
abbrev pub failed_call : MemoryHost → MemoryHost
failed_call host = record host { calls = one_more host.calls; faults = one_more host.faults }

-- the host after a call that found no file
abbrev pub absent_call : MemoryHost → MemoryHost
absent_call host = record host { calls = one_more host.calls; absences = one_more host.absences }

-- the host after a call that read
abbrev pub read_call : MemoryHost → MemoryHost
read_call host = record host { calls = one_more host.calls }

-- the host after a call that opened a file as a disk of this number of blocks
abbrev pub open_call : MemoryHost → List ℕ → ℕ → MemoryHost
open_call host name blocks = record host { calls = one_more host.calls; openings = host.openings ++ open_row name blocks ∷ [] }

-- a disk over the file, of which these calls fail, at a place among the host's openings
abbrev pub IsDiskOver : Told → List ℕ → ℕ → ℕ → MemoryDisk → Type 0
IsDiskOver Untold fails size place disk = ⊥
IsDiskOver NoFile fails size place disk = ⊥
IsDiskOver (Content file) fails size place disk = disk ≡ disk_over file size fails (Some place)

-- the host after a disk was closed by that name
abbrev pub close_call : MemoryHost → List ℕ → MemoryDisk → MemoryHost
close_call host name disk =
    record host { openings = rows_closed host.openings disk.place name (closing_of (memory_state disk)) }
