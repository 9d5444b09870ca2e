use Rattle.bd_touched.specs.Reach.{Covers, KeepsHolds}
use Rattle.bd_touched.proofs.touched.Touched.take_holds.Given as goal

-- what was to be looked at is so still, and what may rest while it is held still may, or is to be looked at
abbrev pub invariant-loop-entry : goal.invariant-loop-entry
invariant-loop-entry l = record {
  covers : Covers l.fn.self l.self;
  keeps : KeepsHolds l.fn.self l.self;
}
