-- What a call asks for, or the code of its refusal.
use Rattle.std.specs.Prelude.{ℕ, zero, suc, ◌<◌, ◌^◌, ℤ, pos, negsuc, Bool, true, false, not, ◌&&◌, ◌||◌, ◌==◌, nat_eq, nat_le, List, length, codes, Option, None, Some, is_some, option_map, option_and_then, if◌then◌else◌, Result, Ok, Err, IsUtf8}
use Rattle.std.specs.List.{list_all, ends_with}
use Rattle.serde_json.specs.Data.{Data}
use Rattle.serde_json.specs.Find.{get, as_bool, as_number, as_str, as_u64}
use Rattle.bd_base.specs.Name.{same_name}
use Rattle.bd_base.specs.declared.device.ErrKind.{ErrKind}
use Rattle.bd_base.specs.declared.device.ErrKind.TheVariants.{Failure, Pending, Corrupt}
use Rattle.bd_base.specs.declared.device.IoSet.{IoSet}
use Rattle.bd_base.specs.declared.device.RateSet.{RateSet}
use Rattle.bd_config.specs.Shape.{text_of}
use Rattle.bd_config.specs.declared.command.Command.{Command}
use Rattle.bd_config.specs.declared.command.Command.TheVariants.{Malloc, Null, Aio, Passthru, Split, Delay, Error, InjectError, SetLimits, PassedOver}

-- ---- codes

-- the number below zero
abbrev pub minus : ℕ → ℤ
minus zero = pos 0
minus (suc n) = negsuc n

-- the method isn't one of those here
abbrev pub method_not_found : ℤ
method_not_found = minus 32601

-- a parameter is absent, of the wrong form or out of its range
abbrev pub invalid_params : ℤ
invalid_params = minus 32602

-- the device would have metadata or protection, or take no writes
abbrev pub not_supported : ℤ
not_supported = minus 95

-- ---- parameters

-- the parameter of a call under a key
abbrev pub param : List ℕ → Data → Option Data
param key call = option_and_then (get key) (get (codes "params") call)

abbrev pub text_from : Option Data → Option (List ℕ)
text_from p = option_and_then as_str p

-- a whole number below 2^64
abbrev pub whole : Data → Option ℕ
whole d = option_and_then as_u64 (as_number d)

abbrev pub within : ℕ → ℕ → ℕ → Option ℕ
within low high n = if nat_le low n && nat_le n high then Some n else None

-- a number from low to high
abbrev pub number_from : ℕ → ℕ → Option Data → Option ℕ
number_from low high p = option_and_then (within low high) (option_and_then whole p)

-- the same; absent it is the default
abbrev pub number_or : ℕ → ℕ → ℕ → Option Data → Option ℕ
number_or default low high None = Some default
number_or default low high (Some d) = number_from low high (Some d)

-- a letter of a device's name
abbrev pub is_name_byte : ℕ → Bool
is_name_byte b = nat_le 33 b && nat_le b 126

abbrev pub is_device_name : List ℕ → Bool
is_device_name name = nat_le 1 (length name) && nat_le (length name) 200 && list_all is_name_byte name

abbrev pub only_name : List ℕ → Option (List ℕ)
only_name name = if is_device_name name then Some name else None

-- the name of a device
abbrev pub name_from : Option Data → Option (List ℕ)
name_from p = option_and_then only_name (text_from p)

abbrev pub only_filename : List ℕ → Option (List ℕ)
only_filename name = if nat_le 1 (length name) && nat_le (length name) 4096 then Some name else None

-- the name of a file
abbrev pub filename_from : Option Data → Option (List ℕ)
filename_from p = option_and_then only_filename (text_from p)

abbrev pub only_block_size : ℕ → Option ℕ
only_block_size n = if (n == 512) || (n == 4096) then Some n else None

abbrev pub block_size_from : Option Data → Option ℕ
block_size_from p = option_and_then only_block_size (option_and_then whole p)

-- the block size of a file's device is 512 where none is given
abbrev pub block_size_or : Option Data → Option ℕ
block_size_or None = Some 512
block_size_or (Some d) = block_size_from (Some d)

abbrev pub only_boundary : ℕ → Option ℕ
only_boundary n = if (n == 0) || nat_le 8 n then Some n else None

-- the boundary at which requests are cut is 0, none, where none is given
abbrev pub boundary_from : Option Data → Option ℕ
boundary_from None = Some 0
boundary_from (Some d) = option_and_then only_boundary (whole d)

-- pieces in a device's queue
abbrev pub depth_from : Option Data → Option ℕ
depth_from p = number_or 128 1 1024 p

-- ---- devices with blocks of their own

abbrev pub malloc_from : Option (List ℕ) → Option ℕ → Option ℕ → Option ℕ → Option ℕ → Option Command
malloc_from (Some name) (Some blocks) (Some size) (Some boundary) (Some depth) = Some (Malloc name blocks size boundary depth)
malloc_from _ _ _ _ _ = None

-- 1 to 2^21 blocks in memory
abbrev pub malloc_of : Data → Option Command
malloc_of call =
    malloc_from (name_from (param (codes "name") call)) (number_from 1 (2 ^ 21) (param (codes "num_blocks") call)) (block_size_from (param (codes "block_size") call))
    (boundary_from (param (codes "optimal_io_boundary") call)) (depth_from (param (codes "queue_depth") call))

abbrev pub null_from : Option (List ℕ) → Option ℕ → Option ℕ → Option ℕ → Option ℕ → Option Command
null_from (Some name) (Some blocks) (Some size) (Some boundary) (Some depth) = Some (Null name blocks size boundary depth)
null_from _ _ _ _ _ = None

-- 1 to 2^40 blocks that keep nothing
abbrev pub null_of : Data → Option Command
null_of call =
    null_from (name_from (param (codes "name") call)) (number_from 1 (2 ^ 40) (param (codes "num_blocks") call)) (block_size_from (param (codes "block_size") call))
    (boundary_from (param (codes "optimal_io_boundary") call)) (depth_from (param (codes "queue_depth") call))

abbrev pub aio_from : Option (List ℕ) → Option (List ℕ) → Option ℕ → Option ℕ → Option Command
aio_from (Some name) (Some file) (Some size) (Some depth) = Some (Aio name file size depth)
aio_from _ _ _ _ = None

-- a file's blocks
abbrev pub aio_of : Data → Option Command
aio_of call =
    aio_from (name_from (param (codes "name") call)) (filename_from (param (codes "filename") call)) (block_size_or (param (codes "block_size") call))
    (depth_from (param (codes "queue_depth") call))

-- a text names the file, and its blocks have bytes
pub record IsOpenableFile (file : List ℕ) (size : ℕ) : Type 0 where
  pub text : IsUtf8 file
  pub bytes : 0 < size

-- a command that opens a file names it by a text, and its blocks have bytes
abbrev pub IsOpenable : Command → Type 0
IsOpenable (Aio name file size depth) = IsOpenableFile file size
IsOpenable _ = Unit {0}

abbrev pub is_zero_or_absent : Option Data → Bool
is_zero_or_absent None = true
is_zero_or_absent (Some d) = is_zero (whole d) where
  is_zero : Option ℕ → Bool
  is_zero None = false
  is_zero (Some n) = n == 0

abbrev pub is_true : Option Bool → Bool
is_true None = false
is_true (Some b) = b

-- no metadata, no protection, and not for reading alone
abbrev pub is_plain : Data → Bool
is_plain call =
    is_zero_or_absent (param (codes "md_size") call) && is_zero_or_absent (param (codes "dif_type") call)
    && not (is_true (option_and_then as_bool (param (codes "readonly") call)))

-- ---- devices over another

abbrev pub passthru_from : Option (List ℕ) → Option (List ℕ) → Option Command
passthru_from (Some base) (Some name) = Some (Passthru base name)
passthru_from _ _ = None

abbrev pub passthru_of : Data → Option Command
passthru_of call = passthru_from (name_from (param (codes "base_bdev_name") call)) (name_from (param (codes "name") call))

abbrev pub split_from : Option (List ℕ) → Option ℕ → Option ℕ → Option Command
split_from (Some base) (Some count) (Some size) = Some (Split base count size)
split_from _ _ _ = None

-- parts of a device; megabytes of 0 share it out equally
abbrev pub split_of : Data → Option Command
split_of call =
    split_from (name_from (param (codes "base_bdev") call)) (number_from 1 64 (param (codes "split_count") call)) (number_or 0 0 1048576 (param (codes "split_size_mb") call))

abbrev pub latency_from : Option Data → Option ℕ
latency_from p = option_and_then whole p

abbrev pub delay_from : Option (List ℕ) → Option (List ℕ) → Option ℕ → Option ℕ → Option ℕ → Option ℕ → Option Command
delay_from (Some base) (Some name) (Some average_read) (Some p99_read) (Some average_write) (Some p99_write) = Some (Delay base name average_read p99_read average_write p99_write)
delay_from _ _ _ _ _ _ = None

abbrev pub delay_of : Data → Option Command
delay_of call =
    delay_from (name_from (param (codes "base_bdev_name") call)) (name_from (param (codes "name") call))
    (latency_from (param (codes "avg_read_latency") call)) (latency_from (param (codes "p99_read_latency") call))
    (latency_from (param (codes "avg_write_latency") call)) (latency_from (param (codes "p99_write_latency") call))

abbrev pub error_from : Option (List ℕ) → Option Command
error_from (Some base) = Some (Error base)
error_from None = None

abbrev pub error_of : Data → Option Command
error_of call = error_from (name_from (param (codes "base_name") call))

-- ---- injected errors

abbrev pub kind_named : List ℕ → Option ErrKind
kind_named word =
    if same_name word (codes "failure") then Some Failure
    else if same_name word (codes "pending") then Some Pending
    else if same_name word (codes "corrupt_data") then Some Corrupt
    else None

abbrev pub is_corrupt : ErrKind → Bool
is_corrupt Failure = false
is_corrupt Pending = false
is_corrupt Corrupt = true

-- the type of request without data that a word names
abbrev pub type_without_data : List ℕ → Option IoSet
type_without_data word =
    if same_name word (codes "write_zeroes") then Some (record { read = false; write = false; zeroes = true; unmap = false; flush = false })
    else if same_name word (codes "unmap") then Some (record { read = false; write = false; zeroes = false; unmap = true; flush = false })
    else if same_name word (codes "flush") then Some (record { read = false; write = false; zeroes = false; unmap = false; flush = true })
    else None

-- the types of request that a word names, for an error that needs data or for one that doesn't
abbrev pub types_named : Bool → List ℕ → Option IoSet
types_named needs_data word =
    if same_name word (codes "read") then Some (record { read = true; write = false; zeroes = false; unmap = false; flush = false })
    else if same_name word (codes "write") then Some (record { read = false; write = true; zeroes = false; unmap = false; flush = false })
    else if same_name word (codes "all") then Some (record { read = true; write = true; zeroes = not needs_data; unmap = not needs_data; flush = not needs_data })
    else if needs_data then None
    else type_without_data word

-- only reads and writes have data to spoil
abbrev pub types_from : ErrKind → Option Data → Option IoSet
types_from kind p = option_and_then (types_named (is_corrupt kind)) (text_from p)

abbrev pub inject_from : Option (List ℕ) → Option IoSet → ErrKind → Option ℕ → Option Command
inject_from (Some name) (Some types) kind (Some count) = Some (InjectError name types kind count)
inject_from _ _ kind _ = None

abbrev pub inject_as : Data → ErrKind → Option Command
inject_as call kind =
    inject_from (name_from (param (codes "name") call)) (types_from kind (param (codes "io_type") call)) kind (number_or 1 0 4294967295 (param (codes "num") call))

abbrev pub inject_of : Data → Option Command
inject_of call = option_and_then (inject_as call) (option_and_then kind_named (text_from (param (codes "error_type") call)))

-- ---- limits

-- a limit up to the most; absent it is left as it was
abbrev pub limit_from : ℕ → Option Data → Option (Option ℕ)
limit_from most None = Some None
limit_from most (Some d) = option_map Some (number_from 0 most (Some d))

abbrev pub rates_from : Option (Option ℕ) → Option (Option ℕ) → Option (Option ℕ) → Option (Option ℕ) → Option RateSet
rates_from (Some a) (Some b) (Some c) (Some d) = Some (record { rw_ios_per_sec = a; rw_mbytes_per_sec = b; r_mbytes_per_sec = c; w_mbytes_per_sec = d })
rates_from _ _ _ _ = None

abbrev pub rates_of : Data → Option RateSet
rates_of call =
    rates_from (limit_from 1000000000 (param (codes "rw_ios_per_sec") call)) (limit_from 1000000 (param (codes "rw_mbytes_per_sec") call))
    (limit_from 1000000 (param (codes "r_mbytes_per_sec") call)) (limit_from 1000000 (param (codes "w_mbytes_per_sec") call))

-- a limit is given
abbrev pub has_rate : RateSet → Bool
has_rate rates = is_some rates.rw_ios_per_sec || is_some rates.rw_mbytes_per_sec || is_some rates.r_mbytes_per_sec || is_some rates.w_mbytes_per_sec

abbrev pub limits_from : Option (List ℕ) → Option RateSet → Option Command
limits_from (Some name) (Some rates) = if has_rate rates then Some (SetLimits name rates) else None
limits_from _ _ = None

abbrev pub limits_of : Data → Option Command
limits_of call = limits_from (name_from (param (codes "name") call)) (rates_of call)

-- ---- methods

-- a module's options; `bdev_set_options` is one of these
abbrev pub sets_options : List ℕ → Bool
sets_options method = ends_with nat_eq method (codes "_set_options")

-- methods that configure what isn't here
abbrev pub is_passed_over : List ℕ → Bool
is_passed_over method =
    sets_options method || same_name method (codes "bdev_wait_for_examine") || same_name method (codes "bdev_examine")
    || same_name method (codes "bdev_nvme_set_hotplug")

abbrev pub or_invalid : Option Command → Result Command ℤ
or_invalid None = Err invalid_params
or_invalid (Some command) = Ok command

-- a device with blocks of its own: its parameters are looked at before what isn't supported
abbrev pub base_or_invalid : Bool → Option Command → Result Command ℤ
base_or_invalid plain None = Err invalid_params
base_or_invalid plain (Some command) = if plain then Ok command else Err not_supported

abbrev pub answer_named : List ℕ → Data → Result Command ℤ
answer_named method call =
    if same_name method (codes "bdev_malloc_create") then base_or_invalid (is_plain call) (malloc_of call)
    else if same_name method (codes "bdev_null_create") then base_or_invalid (is_plain call) (null_of call)
    else if same_name method (codes "bdev_aio_create") then base_or_invalid (is_plain call) (aio_of call)
    else if same_name method (codes "bdev_passthru_create") then or_invalid (passthru_of call)
    else if same_name method (codes "bdev_split_create") then or_invalid (split_of call)
    else if same_name method (codes "bdev_delay_create") then or_invalid (delay_of call)
    else if same_name method (codes "bdev_error_create") then or_invalid (error_of call)
    else if same_name method (codes "bdev_error_inject_error") then or_invalid (inject_of call)
    else if same_name method (codes "bdev_set_qos_limit") then or_invalid (limits_of call)
    else if is_passed_over method then Ok PassedOver
    else Err method_not_found

abbrev pub answer_from : Option (List ℕ) → Data → Result Command ℤ
answer_from None call = Err method_not_found
answer_from (Some method) call = answer_named method call

-- the command that a call asks for, or the code of its refusal
abbrev pub answer_of : Data → Result Command ℤ
answer_of call = answer_from (text_of (codes "method") call) call
