use Rattle.std.proofs.Common.{◌≡◌, ◌++◌, flat_map, take, codes}
use Rattle.bd_trace.specs.Fields.{device_field}
use Rattle.bd_trace.proofs.registry.add_frozen.Given as goal

abbrev pub invariant-loop-dev : goal.invariant-loop-dev
invariant-loop-dev l = l.text ≡ l.fn.text ++ flat_map (device_field (codes "frozen")) (take l.dev-index l.devices)
