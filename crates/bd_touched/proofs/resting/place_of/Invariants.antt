use Rattle.std.proofs.Common.{◌≤◌, length}
use Rattle.bd_touched.proofs.resting.place_of.Given as goal

abbrev pub invariant-loop-round : goal.invariant-loop-round
invariant-loop-round l = record {
  low : l.low ≤ length l.requests;
  high : l.high ≤ length l.requests;
}
