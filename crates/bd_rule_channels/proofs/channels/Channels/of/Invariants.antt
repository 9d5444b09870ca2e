use Rattle.std.proofs.Common.{drop}
use Rattle.bd_rule_channels.specs.Counts.{Has}
use Rattle.bd_rule_channels.proofs.channels.Channels.of.Given as goal

abbrev pub invariant-loop-i : goal.invariant-loop-i
invariant-loop-i l = Has l.table (drop l.i l.channels)
