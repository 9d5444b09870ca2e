use Rattle.std.proofs.Common.{ℕ, List, Option, map, take}
use Rattle.bd_machine.specs.declared.state.Channel.{Channel}
use Rattle.bd_machine.specs.Changes.{counts_set}
use Rattle.bd_rule_channels.specs.Counts.{Has, HasPlaces, count_for}
use Rattle.bd_rule_channels.proofs.channels.Channels.set_all.Given as goal

abbrev pub invariant-loop-count : goal.invariant-loop-count
invariant-loop-count l = record {
  room : HasPlaces l.self l.thread l.counts;
  all : (cs : List (Channel × Option ℕ)) → Has l.fn.self cs → Has l.self (counts_set l.thread (map count_for (take l.count-index l.counts)) cs);
}
