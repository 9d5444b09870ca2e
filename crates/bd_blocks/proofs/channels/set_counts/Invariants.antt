use Rattle.std.proofs.Common.{◌≡◌, drop, map}
use Rattle.bd_machine.specs.Changes.{counts_set}
use Rattle.bd_blocks.specs.Counts.{count_of}
use Rattle.bd_blocks.proofs.channels.set_counts.Given as goal

-- with those that are left, all are set
abbrev pub invariant-loop-got : goal.invariant-loop-got
invariant-loop-got l = counts_set l.thread (map count_of (drop l.got-index l.counts)) l.channels ≡ counts_set l.thread (map count_of l.counts) l.fn.channels
