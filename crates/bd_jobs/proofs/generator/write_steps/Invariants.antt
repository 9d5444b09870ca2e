use Rattle.std.proofs.Common.{◌≡◌, ◌++◌, take}
use Rattle.bd_jobs.specs.Generated.{steps_text}
use Rattle.bd_jobs.proofs.generator.write_steps.Given as goal

abbrev pub invariant-loop-step : goal.invariant-loop-step
invariant-loop-step l = l.out.items ≡ l.fn.out.items ++ steps_text l.thread (take l.step-index l.steps)
