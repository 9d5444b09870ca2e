use Rattle.std.proofs.Common.{◌≡◌, drop}
use Rattle.std.specs.List.{list_any}
use Rattle.bd_devices.specs.Devices.{is_claimed_by}
use Rattle.bd_devices.proofs.refusals.is_claimed.Given as goal

abbrev pub invariant-loop-other : goal.invariant-loop-other
invariant-loop-other l = list_any (is_claimed_by l.row) (drop l.other-index l.setup.devices) ≡ list_any (is_claimed_by l.row) l.setup.devices
