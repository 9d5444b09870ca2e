use Rattle.std.proofs.Common.{◌≡◌, drop, map}
use Rattle.bd_rule_channels.specs.Counts.{count_for}
use Rattle.bd_machine.specs.Changes.{counts_set}
use Rattle.bd_rule_effects.proofs.registry.set_counts.Given as goal

-- with those that are left, all are set
abbrev pub invariant-loop-count : goal.invariant-loop-count
invariant-loop-count l = counts_set l.thread (map count_for (drop l.count-index l.counts)) l.channels ≡ counts_set l.thread (map count_for l.counts) l.fn.channels
