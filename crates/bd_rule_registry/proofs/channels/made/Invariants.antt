use Rattle.std.proofs.Common.{◌≡◌, ◌++◌}
use Rattle.bd_machine.specs.BlockMap.{below}
use Rattle.bd_machine.specs.Registry.{made, references}
use Rattle.bd_rule_registry.proofs.channels.made.Given as goal

-- the devices so far, and those that are made of what is left, are all
abbrev pub invariant-loop-d : goal.invariant-loop-d
invariant-loop-d g l = l.devs ++ made (references (g.R.Records.registry_of l.registry) l.thread) l.d-iterator ≡ made (references (g.R.Records.registry_of l.registry) l.thread) (below l.setup l.fn.dev)
