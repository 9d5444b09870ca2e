use Rattle.std.proofs.Common.{take}
use Rattle.bd_rule_channels.specs.Counts.{HasPlaces, HaveSame}
use Rattle.bd_rule_channels.proofs.channels.Channels.make_all_room.Given as goal

abbrev pub invariant-loop-count : goal.invariant-loop-count
invariant-loop-count l = record {
  same : HaveSame l.fn.self l.self;
  room : HasPlaces l.self l.thread (take l.count-index l.counts);
}
