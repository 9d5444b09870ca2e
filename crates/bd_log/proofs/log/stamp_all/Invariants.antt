use Rattle.std.proofs.Common.{◌≡◌, ◌+◌, ◌++◌, take, drop}
use Rattle.bd_log.specs.Log.{stamped}
use Rattle.bd_log.proofs.log.stamp_all.Given as goal

abbrev pub invariant-loop-entry : goal.invariant-loop-entry
invariant-loop-entry l = record {
  stamp : l.stamp ≡ l.last + l.entry-index;
  entries : l.entries ≡ stamped l.thread l.last (take l.entry-index l.fn.entries) ++ drop l.entry-index l.fn.entries;
}
