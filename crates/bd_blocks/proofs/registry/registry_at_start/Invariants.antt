use Rattle.std.proofs.Common.{◌≡◌, ◌-◌, filter, length, map}
use Rattle.std.specs.List.{range_with_len}
use Rattle.bd_machine.specs.Limits.{is_limited}
use Rattle.bd_machine.specs.Start.{registry_at_start, with_channels}
use Rattle.bd_machine.specs.Users.{dev_of}
use Rattle.bd_blocks.proofs.registry.registry_at_start.Given as goal

abbrev pub invariant-loop-n : goal.invariant-loop-n
invariant-loop-n l = record {
  count : l.count ≡ length l.setup.devices;
  all : with_channels l.setup (filter (is_limited l.setup) (map dev_of (range_with_len l.n (l.count - l.n)))) l.registry ≡ registry_at_start l.setup;
}
