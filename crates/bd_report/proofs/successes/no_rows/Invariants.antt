use Rattle.std.proofs.Common.{◌≡◌, ℕ, [], get_or}
use Rattle.bd_report.proofs.successes.no_rows.Given as goal

abbrev pub invariant-loop-thread : goal.invariant-loop-thread
invariant-loop-thread l = (thread : ℕ) → get_or l.rows thread [] ≡ []
