use Rattle.std.proofs.Common.{◌≡◌, ◌∷◌}
use Rattle.bd_jobs.specs.declared.steps.Step.TheVariants.{Opens}
use Rattle.bd_jobs.specs.Generated.{full_groups}
use Rattle.bd_jobs.proofs.steps.steps.Given as goal

abbrev pub invariant-loop-eighth : goal.invariant-loop-eighth
invariant-loop-eighth l = l.steps.items ≡ Opens ∷ full_groups l.eighth
