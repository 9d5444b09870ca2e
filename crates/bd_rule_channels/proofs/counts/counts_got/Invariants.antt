use Rattle.std.proofs.Common.{◌≡◌, ◌++◌, map}
use Rattle.bd_machine.specs.BlockMap.{below}
use Rattle.bd_machine.specs.Changes.{counts_got}
use Rattle.bd_machine.specs.Registry.{references}
use Rattle.bd_rule_channels.specs.Counts.{count_for}
use Rattle.bd_rule_channels.proofs.counts.counts_got.Given as goal

abbrev pub invariant-loop-lower : goal.invariant-loop-lower
invariant-loop-lower g l = map count_for l.counts ++ counts_got (references (g.R.Records.registry_of l.registry) l.thread) l.lower-iterator ≡ counts_got (references (g.R.Records.registry_of l.registry) l.thread) (below l.setup l.fn.dev)
