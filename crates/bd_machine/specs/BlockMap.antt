-- Which base block lies under a block of a device.
use Rattle.std.specs.Prelude.{◌≡◌, ℕ, ◌<◌, zero, suc, ◌+◌, ◌%◌, Bool, true, false, ◌&&◌, ◌||◌, ◌==◌, List, [], ◌∷◌, length, map, Option, Some, None, slice_get}
use Rattle.std.specs.List.{list_all}
use Rattle.bd_base.specs.declared.id.DevId.{DevId}
use Rattle.bd_base.specs.declared.device.Kind.{Kind}
use Rattle.bd_base.specs.declared.device.Kind.TheVariants as kinds
use Rattle.bd_base.specs.declared.device.DevRow.{DevRow}
use Rattle.bd_base.specs.declared.setup.Setup.{Setup}

-- a block of a device
pub record Block : Type 0 where
  pub dev : DevId
  pub number : ℕ

-- the row of a device
abbrev pub row_of : Setup → DevId → Option DevRow
row_of setup dev = slice_get setup.devices dev.0

abbrev pub blocks_of_row : Option DevRow → ℕ
blocks_of_row None = 0
blocks_of_row (Some row) = row.blocks

abbrev pub size_of_row : Option DevRow → ℕ
size_of_row None = 0
size_of_row (Some row) = row.size

abbrev pub boundary_of_row : Option DevRow → ℕ
boundary_of_row None = 0
boundary_of_row (Some row) = row.boundary

abbrev pub base_of_row : Option DevRow → Option DevId
base_of_row None = None
base_of_row (Some row) = row.base

abbrev pub shift_of_kind : Kind → ℕ
shift_of_kind (kinds.Part shift) = shift
shift_of_kind _ = 0

abbrev pub shift_of_row : Option DevRow → ℕ
shift_of_row None = 0
shift_of_row (Some row) = shift_of_kind row.kind

abbrev pub depth_of_row : Option DevRow → ℕ
depth_of_row None = 0
depth_of_row (Some row) = row.depth

abbrev pub is_aio_kind : Kind → Bool
is_aio_kind kinds.Aio = true
is_aio_kind _ = false

abbrev pub is_malloc_kind : Kind → Bool
is_malloc_kind kinds.Malloc = true
is_malloc_kind _ = false

abbrev pub is_null_kind : Kind → Bool
is_null_kind kinds.Null = true
is_null_kind _ = false

abbrev pub is_base_kind : Kind → Bool
is_base_kind kinds.Malloc = true
is_base_kind kinds.Null = true
is_base_kind kinds.Aio = true
is_base_kind _ = false

abbrev pub is_error_kind : Kind → Bool
is_error_kind kinds.Error = true
is_error_kind _ = false

abbrev pub is_delay_kind : Kind → Bool
is_delay_kind (kinds.Delay average_read p99_read average_write p99_write) = true
is_delay_kind _ = false

-- it has each block of the device that it stands on, under the same number
abbrev pub is_whole_kind : Kind → Bool
is_whole_kind kinds.Passthru = true
is_whole_kind (kinds.Delay average_read p99_read average_write p99_write) = true
is_whole_kind kinds.Error = true
is_whole_kind _ = false

abbrev pub has_kind : (Kind → Bool) → Option DevRow → Bool
has_kind is None = false
has_kind is (Some row) = is row.kind

-- how many blocks a device has, and how many bytes a block
abbrev pub blocks_of : Setup → DevId → ℕ
blocks_of setup dev = blocks_of_row (row_of setup dev)

abbrev pub size_of : Setup → DevId → ℕ
size_of setup dev = size_of_row (row_of setup dev)

abbrev pub boundary_of : Setup → DevId → ℕ
boundary_of setup dev = boundary_of_row (row_of setup dev)

-- how many pieces its work queue takes
abbrev pub depth_of : Setup → DevId → ℕ
depth_of setup dev = depth_of_row (row_of setup dev)

-- the device that a device stands on
abbrev pub stands_on : Setup → DevId → Option DevId
stands_on setup dev = base_of_row (row_of setup dev)

-- each device stands on one with a number below its own: it is made after its base
abbrev pub StandsOnEarlier : Setup → Type 0
StandsOnEarlier setup = (dev base : DevId) → stands_on setup dev ≡ Some base → base.0 < dev.0

-- what lies below, where a device stands on another
abbrev pub under : Option DevId → (DevId → List Block) → List Block
under None lower = []
under (Some base) lower = lower base

-- the blocks from block b of a device down to its base device, the first n at most
abbrev pub path_within : ℕ → Setup → DevId → ℕ → List Block
path_within zero setup dev b = []
path_within (suc n) setup dev b =
    record { dev = dev; number = b } ∷ under (stands_on setup dev) (λ base. path_within n setup base (shift_of_row (row_of setup dev) + b))

-- the blocks from block b of a device down to its base device; no device is on such a path twice
abbrev pub path : Setup → DevId → ℕ → List Block
path setup dev b = path_within (suc (length setup.devices)) setup dev b

abbrev pub last_of : Block → List Block → Block
last_of block [] = block
last_of block (lower ∷ lowers) = last_of lower lowers

-- the base block under block b of a device
abbrev pub at : Setup → DevId → ℕ → Block
at setup dev b = last_of (record { dev = dev; number = b }) (path setup dev b)

abbrev pub dev_of_block : Block → DevId
dev_of_block block = block.dev

-- the device, its base, and so on down
abbrev pub below : Setup → DevId → List DevId
below setup dev = map dev_of_block (path setup dev 0)

-- the base device under a device
abbrev pub base_of : Setup → DevId → DevId
base_of setup dev = (at setup dev 0).dev

-- the thread that alone touches the contents under a device
abbrev pub home : Setup → DevId → ℕ
home setup dev = (base_of setup dev).0 % setup.threads

abbrev pub is_aio : Setup → DevId → Bool
is_aio setup dev = has_kind is_aio_kind (row_of setup (base_of setup dev))

abbrev pub is_malloc : Setup → DevId → Bool
is_malloc setup dev = has_kind is_malloc_kind (row_of setup dev)

abbrev pub is_null : Setup → DevId → Bool
is_null setup dev = has_kind is_null_kind (row_of setup dev)

abbrev pub is_error : Setup → DevId → Bool
is_error setup dev = has_kind is_error_kind (row_of setup dev)

abbrev pub is_delay : Setup → DevId → Bool
is_delay setup dev = has_kind is_delay_kind (row_of setup dev)

-- it is this base device, or has each block of the device that it stands on
abbrev pub is_whole_or : Setup → DevId → DevId → Bool
is_whole_or setup base dev = (dev.0 == base.0) || has_kind is_whole_kind (row_of setup dev)

-- the device has each block of this base device: it is it, or stands on it with no part in between
abbrev pub is_over : Setup → DevId → DevId → Bool
is_over setup base dev = ((base_of setup dev).0 == base.0) && list_all (is_whole_or setup base) (below setup dev)

-- b is the block after a on the same base
abbrev pub follows : Block → Block → Bool
follows a b = (a.dev.0 == b.dev.0) && (a.number + 1 == b.number)
