use Rattle.std.proofs.Common.{◌≡◌, ◌-◌, length, Some}
use Rattle.std.specs.List.{list_all}
use Rattle.bd_machine.specs.BlockMap.{below}
use Rattle.bd_machine.specs.Registry.{is_live}
use Rattle.bd_stack.specs.Walks.{devices_left}
use Rattle.bd_rule_registry.proofs.standing.are_live.Given as goal

-- all devices are live exactly where those that are left are
abbrev pub invariant-loop-step : goal.invariant-loop-step
invariant-loop-step g l = list_all (is_live (g.R.Records.registry_of l.registry)) (devices_left l.setup (length l.setup.devices - l._step) (Some l.lowest)) ≡ list_all (is_live (g.R.Records.registry_of l.registry)) (below l.setup l.fn.dev)
