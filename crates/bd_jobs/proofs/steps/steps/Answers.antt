use Rattle.std.proofs.Common.{◌∙◌, ◌*◌, ◌++◌, ◌∷◌, [], ap, sym}
use Rattle.bd_jobs.specs.declared.steps.Step.TheVariants.{Opens}
use Rattle.bd_jobs.specs.Generated.{group}
use Rattle.bd_jobs.proofs.GeneratedLemmas.{groups-none, groups-more}
use Rattle.bd_jobs.proofs.steps.steps.Goals as goal

pub loop-eighth-init : goal.loop-eighth-init
loop-eighth-init c =
    c.in_ok-push.ensures.items ∙ ap (λ steps. steps ++ Opens ∷ []) c.new-steps.ensures.items ∙ ap (λ steps. Opens ∷ steps) (sym groups-none)

pub loop-eighth-preserved : goal.loop-eighth-preserved
loop-eighth-preserved c =
    c.in_ok-add_group.ensures
    ∙ ap (λ steps. steps ++ group (8 * c.loop-eighth.eighth) 8) c.loop-eighth.invariant
    ∙ ap (λ steps. Opens ∷ steps) (sym (groups-more c.loop-eighth.eighth))
