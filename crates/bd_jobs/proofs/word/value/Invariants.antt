use Rattle.std.proofs.Common.{◌≡◌, ◌<◌, ◌^◌, drop}
use Rattle.bd_jobs.specs.Words.{value_from}
use Rattle.bd_jobs.proofs.word.value.Given as goal

abbrev pub invariant-loop-b : goal.invariant-loop-b
invariant-loop-b l = (value_from l.n (drop l.b-index l.digits) ≡ value_from 0 l.digits) × (l.n < 2 ^ 64)
