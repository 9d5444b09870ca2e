use Rattle.std.proofs.Common.{◌≡◌, ℕ, false, get_or, length}
use Rattle.bd_report.proofs.successes.lengthen.Given as goal

abbrev pub invariant-loop-more : goal.invariant-loop-more
invariant-loop-more l = record {
  same : (k : ℕ) → get_or l.row k false ≡ get_or l.fn.row k false;
  long : length l.row ≡ l._more;
}
