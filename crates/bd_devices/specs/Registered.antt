-- What holds of all devices that were registered.
use Rattle.std.specs.Prelude.{◌≡◌, ℕ, length, Some, slice_get}
use Rattle.bd_base.specs.declared.device.DevRow.{DevRow}
use Rattle.bd_base.specs.declared.setup.Setup.{Setup}
use Rattle.bd_devices.specs.declared.names.Names.{Names}
use Rattle.bd_devices.specs.Names.{AreNamed}
use Rattle.bd_machine.specs.BlockMap.{StandsOnEarlier}
use Rattle.bd_machine.specs.Registry.{device_named}

-- each device is the one that its name finds: no two have one name
abbrev pub AreToldApart : Setup → Type 0
AreToldApart setup = (n : ℕ) (row : DevRow) → slice_get setup.devices n ≡ Some row → device_named setup row.name ≡ Some n

-- each device has limits and injections, is found by its name, and stands on one with a smaller number if on any
pub record IsRegistered (places : Names) (setup : Setup) : Type 0 where
  pub names : AreNamed places setup
  pub rates : length setup.rates ≡ length setup.devices
  pub injections : length setup.injections ≡ length setup.devices
  pub apart : AreToldApart setup
  pub earlier : StandsOnEarlier setup
