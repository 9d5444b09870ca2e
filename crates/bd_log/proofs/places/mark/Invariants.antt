use Rattle.std.proofs.Common.{take}
use Rattle.std.specs.List.{AllByRecursion}
use Rattle.bd_log.specs.Places.{Grows, IsMarked}
use Rattle.bd_log.proofs.places.mark.Given as goal

-- the entries so far are marked
abbrev pub invariant-loop-entry : goal.invariant-loop-entry
invariant-loop-entry l = record {
  grows : Grows l.fn.sets l.sets;
  marked : AllByRecursion (IsMarked l.first l.sets l.place) (take l.entry-index l.entries);
}
