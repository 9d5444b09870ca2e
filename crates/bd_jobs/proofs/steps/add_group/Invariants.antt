use Rattle.std.proofs.Common.{◌≡◌, ◌++◌, ◌∷◌, []}
use Rattle.bd_jobs.specs.declared.steps.Step.TheVariants.{Waits}
use Rattle.bd_jobs.specs.Generated.{writes, reads}
use Rattle.bd_jobs.proofs.steps.add_group.Given as goal

abbrev pub invariant-loop-i : goal.invariant-loop-i
invariant-loop-i l = l.steps.items ≡ l.fn.steps.items ++ writes l.first l.i

abbrev pub invariant-loop-i-2 : goal.invariant-loop-i-2
invariant-loop-i-2 l = l.steps.items ≡ l.fn.steps.items ++ ((writes l.first l.count ++ Waits ∷ []) ++ reads l.first l.i)
