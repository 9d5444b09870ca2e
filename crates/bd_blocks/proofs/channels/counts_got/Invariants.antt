use Rattle.std.proofs.Common.{◌≡◌, ◌++◌, map}
use Rattle.bd_machine.specs.BlockMap.{below}
use Rattle.bd_machine.specs.Changes.{counts_got}
use Rattle.bd_machine.specs.Registry.{references}
use Rattle.bd_blocks.specs.Counts.{count_of}
use Rattle.bd_blocks.proofs.channels.counts_got.Given as goal

abbrev pub invariant-loop-lower : goal.invariant-loop-lower
invariant-loop-lower l = map count_of l.counts ++ counts_got (references l.registry l.thread) l.lower-iterator ≡ counts_got (references l.registry l.thread) (below l.setup l.fn.dev)
