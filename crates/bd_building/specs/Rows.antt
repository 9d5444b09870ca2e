-- The devices that a command asks for, over those that stand.
use Rattle.std.specs.Prelude.{ℕ, ◌*◌, ◌/◌, cond, ◌==◌, List, [], ◌∷◌, ◌++◌, length, map, min, codes, decimal, Option, None, Some, option_map}
use Rattle.std.specs.List.{range_with_len}
use Rattle.bd_base.specs.declared.device.DevRow.{DevRow}
use Rattle.bd_base.specs.declared.device.Kind.{Kind}
use Rattle.bd_base.specs.declared.device.Kind.TheVariants as kinds
use Rattle.bd_base.specs.declared.setup.Setup.{Setup}
use Rattle.bd_config.specs.declared.command.Command.{Command}
use Rattle.bd_config.specs.declared.command.Command.TheVariants as commands
use Rattle.bd_machine.specs.BlockMap.{blocks_of, size_of}
use Rattle.bd_machine.specs.Registry.{device_named}
use Rattle.bd_machine.specs.Users.{dev_of}
use Rattle.bd_building.specs.declared.base.Base.{Base}

-- ---- what a command stands on

-- the name of the device that a command's devices stand on
abbrev pub base_name_of : Command → Option (List ℕ)
base_name_of (commands.Passthru base name) = Some base
base_name_of (commands.Split base count megabytes) = Some base
base_name_of (commands.Delay base name average_read p99_read average_write p99_write) = Some base
base_name_of (commands.Error base) = Some base
base_name_of _ = None

abbrev pub base_at : Setup → ℕ → Base
base_at setup n = record { dev = dev_of n; blocks = blocks_of setup (dev_of n); size = size_of setup (dev_of n) }

-- the device of a name, as a base
abbrev pub base_named : Setup → List ℕ → Option Base
base_named setup name = option_map (base_at setup) (device_named setup name)

-- ---- parts

-- a quotient, rounded down; 0 where the divisor is
abbrev pub quotient : ℕ → ℕ → ℕ
quotient n by = cond (by == 0) 0 (n / by)

-- how many blocks each part has: so many megabytes (1,048,576 bytes) of its base, or at 0 an equal share of it
abbrev pub part_blocks : Base → ℕ → ℕ → ℕ
part_blocks base count megabytes = cond (megabytes == 0) (quotient base.blocks count) (quotient (megabytes * 1048576) base.size)

-- how many parts of this number of blocks are made: as many as are asked for and fit
abbrev pub parts_that_fit : Base → ℕ → ℕ → ℕ
parts_that_fit base count blocks = min count (quotient base.blocks blocks)

abbrev pub part_name : List ℕ → ℕ → List ℕ
part_name base i = base ++ codes "p" ++ decimal i

-- a part begins at so many times its blocks
abbrev pub part_at : ℕ → List ℕ → Base → ℕ → ℕ → DevRow
part_at group name base blocks i = record {
  name = part_name name i;
  kind = kinds.Part (i * blocks);
  base = Some base.dev;
  blocks = blocks;
  size = base.size;
  boundary = 0;
  depth = 0;
  file = None;
  group = group;
}

abbrev pub parts_of : ℕ → List ℕ → Base → ℕ → ℕ → List DevRow
parts_of group name base blocks n = map (part_at group name base blocks) (range_with_len 0 n)

abbrev pub split_over : ℕ → List ℕ → ℕ → ℕ → Option Base → List DevRow
split_over group name count megabytes None = []
split_over group name count megabytes (Some base) = parts_of group name base (part_blocks base count megabytes) (parts_that_fit base count (part_blocks base count megabytes))

-- ---- devices

abbrev pub error_name : List ℕ → List ℕ
error_name base = codes "EE_" ++ base

-- a device over the whole of its base
abbrev pub whole_over : ℕ → Kind → List ℕ → Option Base → List DevRow
whole_over group kind name None = []
whole_over group kind name (Some base) =
    record { name = name; kind = kind; base = Some base.dev; blocks = base.blocks; size = base.size; boundary = 0; depth = 0; file = None; group = group } ∷ []

-- the devices that a command asks for, in order, where the file that it opens has this number of blocks. Each command's devices are a group of their own
abbrev pub devices_of : Setup → Command → ℕ → List DevRow
devices_of setup (commands.Malloc name blocks size boundary depth) disk =
    record { name = name; kind = kinds.Malloc; base = None; blocks = blocks; size = size; boundary = boundary; depth = depth; file = None; group = length setup.devices } ∷ []
devices_of setup (commands.Null name blocks size boundary depth) disk =
    record { name = name; kind = kinds.Null; base = None; blocks = blocks; size = size; boundary = boundary; depth = depth; file = None; group = length setup.devices } ∷ []
devices_of setup (commands.Aio name file size depth) disk =
    record { name = name; kind = kinds.Aio; base = None; blocks = disk; size = size; boundary = 0; depth = depth; file = Some file; group = length setup.devices } ∷ []
devices_of setup (commands.Passthru base name) disk = whole_over (length setup.devices) kinds.Passthru name (base_named setup base)
devices_of setup (commands.Split base count megabytes) disk = split_over (length setup.devices) base count megabytes (base_named setup base)
devices_of setup (commands.Delay base name average_read p99_read average_write p99_write) disk =
    whole_over (length setup.devices) (kinds.Delay average_read p99_read average_write p99_write) name (base_named setup base)
devices_of setup (commands.Error base) disk = whole_over (length setup.devices) kinds.Error (error_name base) (base_named setup base)
devices_of setup _ disk = []
