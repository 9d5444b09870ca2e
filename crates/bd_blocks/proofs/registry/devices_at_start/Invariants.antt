use Rattle.std.proofs.Common.{◌≡◌, map, length}
use Rattle.bd_machine.specs.Start.{device_at_start}
use Rattle.bd_machine.specs.Users.{devices}
use Rattle.bd_blocks.proofs.registry.devices_at_start.Given as goal

abbrev pub invariant-loop-n : goal.invariant-loop-n
invariant-loop-n l = record {
  count : l.count ≡ length l.setup.devices;
  all : l.devices ≡ map (device_at_start l.setup) (devices l.n);
}
