-- Devices as they are registered, and what is set on them.
use Rattle.std.specs.Prelude.{◌≡◌, ℕ, Bool, true, false, not, cond, ◌&&◌, ◌||◌, ◌==◌, nat_le, List, [], ◌∷◌, ◌++◌, length, Option, Some, None, is_some, slice_index_or, slice_set}
use Rattle.std.specs.List.{list_any}
use Rattle.bd_base.specs.declared.device.DevRow.{DevRow}
use Rattle.bd_base.specs.declared.device.ErrKind.{ErrKind}
use Rattle.bd_base.specs.declared.device.IoSet.{IoSet}
use Rattle.bd_base.specs.declared.device.Rates.{Rates}
use Rattle.bd_base.specs.declared.device.RateSet.{RateSet}
use Rattle.bd_base.specs.declared.id.DevId.{DevId}
use Rattle.bd_base.specs.declared.request.Errno.{Errno}
use Rattle.bd_base.specs.declared.request.Errno.TheVariants.{Perm, Exists, NoDev, Inval}
use Rattle.bd_base.specs.declared.setup.Setup.{Setup}
use Rattle.bd_devices.specs.declared.devices.RegisterError.{RegisterError}
use Rattle.bd_devices.specs.declared.devices.RegisterError.TheVariants.{OutOfMemory, Refused}
use Rattle.bd_error.specs.Injected.{set_on}
use Rattle.bd_machine.specs.BlockMap.{below, is_error, row_of}
use Rattle.bd_machine.specs.Limits.{no_limit}
use Rattle.bd_machine.specs.Registry.{device_named}
use Rattle.bd_machine.specs.Same.{same_dev}
use Rattle.bd_machine.specs.Start.{no_injections}

-- ---- the rows of a registry

-- the device that a row stands on, if it does, is there
abbrev pub has_base : Setup → Option DevId → Bool
has_base setup None = true
has_base setup (Some base) = is_some (row_of setup base)

-- both stand on one device
abbrev pub share_base : Option DevId → Option DevId → Bool
share_base (Some a) (Some b) = same_dev a b
share_base _ _ = false

-- the base handle of the other's group claims the base of this row, which is of another group
abbrev pub is_claimed_by : DevRow → DevRow → Bool
is_claimed_by row other = share_base row.base other.base && not (row.group == other.group)

abbrev pub is_claimed : Setup → DevRow → Bool
is_claimed setup row = list_any (is_claimed_by row) setup.devices

-- how many layers a row has below it
abbrev pub layers_below : Setup → Option DevId → ℕ
layers_below setup None = 0
layers_below setup (Some base) = length (below setup base)

-- why a row isn't registered, the first cause that holds
abbrev pub register_refusal : Setup → DevRow → Option Errno
register_refusal setup row =
    cond (is_some (device_named setup row.name)) (Some Exists)
    (cond (not (has_base setup row.base)) (Some NoDev)
    (cond (is_claimed setup row) (Some Perm)
    (cond (nat_le 256 (length setup.devices) || nat_le 64 (layers_below setup row.base)) (Some Inval) None)))

-- the setup with one device more, which has no limits and injects nothing
abbrev pub with_device : Setup → DevRow → Setup
with_device setup row = record setup { devices = setup.devices ++ row ∷ []; rates = setup.rates ++ no_limit ∷ []; injections = setup.injections ++ no_injections ∷ [] }

-- no devices yet
abbrev pub no_devices : ℕ → Setup
no_devices threads = record { threads = threads; devices = []; rates = []; injections = []; waiting = []; scripts = [] }

-- the error says why, or that there was no memory
abbrev pub IsCause : RegisterError → Option Errno → Type 0
IsCause OutOfMemory cause = Unit {0}
IsCause (Refused errno) cause = cause ≡ Some errno

-- ---- limits and injections

abbrev pub chosen : Option ℕ → ℕ → ℕ
chosen None old = old
chosen (Some n) old = n

-- the limits that are set, and of the others those that were there
abbrev pub with_limits : RateSet → Rates → Rates
with_limits set old = record {
  rw_ios_per_sec = chosen set.rw_ios_per_sec old.rw_ios_per_sec;
  rw_mbytes_per_sec = chosen set.rw_mbytes_per_sec old.rw_mbytes_per_sec;
  r_mbytes_per_sec = chosen set.r_mbytes_per_sec old.r_mbytes_per_sec;
  w_mbytes_per_sec = chosen set.w_mbytes_per_sec old.w_mbytes_per_sec;
}

-- the setup with these limits of the device of this number
abbrev pub limited : RateSet → ℕ → Setup → Setup
limited set n setup = record setup { rates = slice_set setup.rates n (with_limits set (slice_index_or setup.rates n no_limit)) }

-- why a limit isn't set, and why an injection isn't
abbrev pub limit_refusal : Option ℕ → Option Errno
limit_refusal None = Some NoDev
limit_refusal (Some n) = None

abbrev pub injection_refusal : Setup → Option ℕ → Option Errno
injection_refusal setup None = Some NoDev
injection_refusal setup (Some n) = cond (is_error setup (record { 0 = n })) None (Some Inval)

-- the setup with this injection on the device of this number
abbrev pub injected : IoSet → ErrKind → ℕ → ℕ → Setup → Setup
injected io kind num n setup = record setup { injections = slice_set setup.injections n (set_on io kind num (slice_index_or setup.injections n no_injections)) }
