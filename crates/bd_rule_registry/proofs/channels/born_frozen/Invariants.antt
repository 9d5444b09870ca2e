use Rattle.std.proofs.Common.{◌≡◌, ◌++◌}
use Rattle.bd_machine.specs.BlockMap.{below}
use Rattle.bd_rule_registry.specs.Born.{born_frozen}
use Rattle.bd_rule_registry.proofs.channels.born_frozen.Given as goal

-- those so far, and those among what is left, are all
abbrev pub invariant-loop-d : goal.invariant-loop-d
invariant-loop-d g l = l.frozen ++ born_frozen (g.R.Records.registry_of l.registry) l.thread l.d-iterator ≡ born_frozen (g.R.Records.registry_of l.registry) l.thread (below l.setup l.fn.dev)
