use Rattle.std.proofs.Common.{take}
use Rattle.bd_touched.specs.Reach.{KeepsHolds}
use Rattle.bd_touched.proofs.Adding.{TakenIn}
use Rattle.bd_touched.proofs.touched.Touched.take_in.Given as goal

-- what those so far reach is to be looked at
abbrev pub invariant-loop-entry : goal.invariant-loop-entry
invariant-loop-entry l = record {
  taken : TakenIn l.setup l.me l.requests (take l.entry-index l.entries) l.fn.self l.self;
  keeps : KeepsHolds l.fn.self l.self;
}
