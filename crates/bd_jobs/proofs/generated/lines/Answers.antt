use Rattle.std.proofs.Common.{◌∙◌, ◌++◌, ◌∷◌, [], ap, sym, take, get_or, arith}
use Rattle.bd_jobs.specs.declared.steps.Step.TheVariants.{Opens}
use Rattle.bd_jobs.specs.Generated.{step_job, step_commands}
use Rattle.bd_jobs.proofs.ScriptLemmas.{lines_of, step_commands-none, lines_of-more}
use Rattle.bd_jobs.proofs.generated.lines.Goals as goal

pub loop-step-init : goal.loop-step-init
loop-step-init c = record {
  number = omega arith;
  lines = c.in_ok-lines.ensures.items ∙ ap lines_of (sym (step_commands-none c.args.thread c.args.first));
}

pub loop-step-preserved : goal.loop-step-preserved
loop-step-preserved c = record {
  number = omega arith;
  lines = c.in_ok-push.ensures.items
      ∙ ap (λ lines. lines ++ record { number = c.loop-step.number; job = c.in_ok-job.job } ∷ []) c.loop-step.invariant.lines
      ∙ ap (λ job. lines_of (step_commands c.args.thread c.args.first (take c.loop-step.step-index c.args.steps.now)) ++ record { number = c.loop-step.number; job = job } ∷ []) c.in_ok-job.ensures
      ∙ ap (λ number. lines_of (step_commands c.args.thread c.args.first (take c.loop-step.step-index c.args.steps.now)) ++ record { number = number; job = step_job c.args.thread (get_or c.args.steps.now c.loop-step.step-index Opens) } ∷ []) c.loop-step.invariant.number
      ∙ sym (lines_of-more c.args.thread c.args.first c.args.steps.now c.loop-step.step-index Opens (omega arith));
}
