use Rattle.std.proofs.Common.{◌≡◌, ◌+◌, take}
use Rattle.bd_jobs.specs.Generated.{step_commands}
use Rattle.bd_jobs.proofs.ScriptLemmas.{lines_of}
use Rattle.bd_jobs.proofs.generated.lines.Given as goal

abbrev pub invariant-loop-step : goal.invariant-loop-step
invariant-loop-step l = record {
  number : l.number ≡ l.first + l.step-index;
  lines : l.lines.items ≡ lines_of (step_commands l.thread l.first (take l.step-index l.steps));
}
