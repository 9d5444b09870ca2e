use Rattle.std.proofs.Common.{◌∙◌, ◌++◌, ap, sym, take, get_or, append_assoc, arith}
use Rattle.std.proofs.lemmas.List.{append-nil}
use Rattle.bd_jobs.specs.declared.steps.Step.TheVariants.{Opens}
use Rattle.bd_jobs.specs.Generated.{step_line, steps_text}
use Rattle.bd_jobs.proofs.GeneratedLemmas.{text-none, text-more}
use Rattle.bd_jobs.proofs.generator.write_steps.Goals as goal

pub loop-step-init : goal.loop-step-init
loop-step-init c = sym (append-nil c.args.out.now.items) ∙ ap (λ text. c.args.out.now.items ++ text) (sym (text-none c.args.thread))

pub loop-step-preserved : goal.loop-step-preserved
loop-step-preserved c =
    c.in_ok-extend_from_slice.ensures.items
    ∙ ap (λ line. c.loop-step.out.items ++ line) (c.as_slice.ensures.value ∙ c.in_ok-line.ensures)
    ∙ ap (λ text. text ++ step_line c.args.thread (get_or c.args.steps.now c.loop-step.step-index Opens)) c.loop-step.invariant
    ∙ append_assoc c.args.out.now.items (steps_text c.args.thread (take c.loop-step.step-index c.args.steps.now)) (step_line c.args.thread (get_or c.args.steps.now c.loop-step.step-index Opens))
    ∙ ap (λ text. c.args.out.now.items ++ text) (sym (text-more c.args.thread c.args.steps.now c.loop-step.step-index Opens (omega arith)))
