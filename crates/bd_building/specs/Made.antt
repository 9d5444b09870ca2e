-- What a command makes of the devices that stand, or why it is refused.
use Rattle.std.specs.Prelude.{ℕ, ◌+◌, ◌*◌, ◌^◌, Bool, false, cond, not, ◌&&◌, ◌||◌, nat_lt, nat_le, List, [], ◌∷◌, length, sum_by, Option, None, Some, is_some, Result, Ok, Err}
use Rattle.std.specs.List.{list_any}
use Rattle.bd_base.specs.declared.device.DevRow.{DevRow}
use Rattle.bd_base.specs.declared.device.ErrKind.{ErrKind}
use Rattle.bd_base.specs.declared.device.IoSet.{IoSet}
use Rattle.bd_base.specs.declared.device.RateSet.{RateSet}
use Rattle.bd_base.specs.declared.request.Errno.{Errno}
use Rattle.bd_base.specs.declared.request.Errno.TheVariants.{Perm, Exists, NoDev, Inval}
use Rattle.bd_base.specs.declared.setup.Setup.{Setup}
use Rattle.bd_config.specs.declared.command.Command.{Command}
use Rattle.bd_config.specs.declared.command.Command.TheVariants as commands
use Rattle.bd_devices.specs.Devices.{injected, limited, register_refusal, share_base, with_device}
use Rattle.bd_machine.specs.BlockMap.{is_error, is_malloc_kind}
use Rattle.bd_machine.specs.Registry.{device_named}
use Rattle.bd_machine.specs.Users.{dev_of}
use Rattle.bd_building.specs.Rows.{base_name_of, devices_of}

-- ---- causes

-- a device of this row's name stands
abbrev pub stands : Setup → DevRow → Bool
stands setup row = is_some (device_named setup row.name)

-- a device stands on the device of this number
abbrev pub is_used : Setup → Option ℕ → Bool
is_used setup None = false
is_used setup (Some n) = list_any (λ row. share_base (Some (dev_of n)) row.base) setup.devices

-- another device stands on the command's base, whose base handle has it claimed
abbrev pub is_base_used : Setup → Option (List ℕ) → Bool
is_base_used setup None = false
is_base_used setup (Some base) = is_used setup (device_named setup base)

abbrev pub content_bytes : DevRow → ℕ
content_bytes row = cond (is_malloc_kind row.kind) (row.blocks * row.size) 0

-- how many bytes all malloc devices have
abbrev pub malloc_bytes : List DevRow → ℕ
malloc_bytes rows = sum_by content_bytes rows

-- the memory of 1 GiB for malloc devices would be passed; the file has no block, or too many; a p99 latency is below its average; no part has a block and fits
abbrev pub is_out_of_bounds : Setup → Command → ℕ → List DevRow → Bool
is_out_of_bounds setup (commands.Malloc name blocks size boundary depth) disk rows = nat_lt (2 ^ 30) (malloc_bytes setup.devices + blocks * size)
is_out_of_bounds setup (commands.Aio name file size depth) disk rows = not (nat_le 1 disk && nat_le disk (2 ^ 40))
is_out_of_bounds setup (commands.Delay base name average_read p99_read average_write p99_write) disk rows = nat_lt p99_read average_read || nat_lt p99_write average_write
is_out_of_bounds setup (commands.Split base count megabytes) disk rows = nat_le (length rows) 0
is_out_of_bounds setup _ disk rows = false

abbrev pub has_long_name : DevRow → Bool
has_long_name row = nat_lt 255 (length row.name)

-- why a command's devices aren't made, the first cause that holds, beside what is refused as each is registered
abbrev pub cause_of : Setup → Command → ℕ → List DevRow → Option Errno
cause_of setup command disk rows =
    cond (list_any (stands setup) rows) (Some Exists)
    (cond (is_base_used setup (base_name_of command)) (Some Perm)
    (cond (is_out_of_bounds setup command disk rows || list_any has_long_name rows) (Some Inval) None))

-- ---- devices

abbrev pub registered_if : Option Errno → Result Setup Errno → Result Setup Errno
registered_if None more = more
registered_if (Some errno) more = Err errno

-- the setup with these devices more, registered one after the other; or the first refusal
abbrev pub registered : Setup → List DevRow → Result Setup Errno
registered setup [] = Ok setup
registered setup (row ∷ rows) = registered_if (register_refusal setup row) (registered (with_device setup row) rows)

abbrev pub with_devices : Setup → Command → ℕ → List DevRow → Result Setup Errno
with_devices setup command disk rows = registered_if (cause_of setup command disk rows) (registered setup rows)

-- ---- limits and injections

abbrev pub with_limits_at : Setup → RateSet → Option ℕ → Result Setup Errno
with_limits_at setup rates None = Err NoDev
with_limits_at setup rates (Some n) = Ok (limited rates n setup)

abbrev pub with_injection_at : Setup → IoSet → ErrKind → ℕ → Option ℕ → Result Setup Errno
with_injection_at setup types kind count None = Err NoDev
with_injection_at setup types kind count (Some n) = cond (is_error setup (dev_of n)) (Ok (injected types kind count n setup)) (Err Inval)

-- ---- commands

-- the setup after a command, where the file that it opens has this number of blocks; or why it is refused
abbrev pub made : Setup → Command → ℕ → Result Setup Errno
made setup (commands.SetLimits name rates) disk = with_limits_at setup rates (device_named setup name)
made setup (commands.InjectError name types kind count) disk = with_injection_at setup types kind count (device_named setup name)
made setup command disk = with_devices setup command disk (devices_of setup command disk)
