use Rattle.std.proofs.Common.{◌≤◌}
use Rattle.bd_jobs.proofs.ReadLemmas.{HasRead}
use Rattle.bd_jobs.proofs.read.read_jobs.Given as goal

abbrev pub invariant-loop-line : goal.invariant-loop-line
invariant-loop-line l = HasRead l.fn.threads l.fn.bytes l.scripts.items l.at l.line-iterator × (l.at ≤ 20001)
