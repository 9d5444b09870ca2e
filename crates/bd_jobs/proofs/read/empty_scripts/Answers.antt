use Rattle.std.proofs.Common.{◌∙◌, sym, ap, [], ◌∷◌, ◌++◌}
use Rattle.bd_jobs.specs.Held.{all_scripts}
use Rattle.bd_jobs.proofs.HeldLemmas.{all_scripts-none, all_scripts-more}
use Rattle.bd_jobs.proofs.read.empty_scripts.Goals as goal

pub loop-thread-init : goal.loop-thread-init
loop-thread-init c = c.new-scripts.ensures.items ∙ sym (all_scripts-none [])

pub loop-thread-preserved : goal.loop-thread-preserved
loop-thread-preserved c =
    c.in_ok-push.ensures.items
    ∙ ap (λ xs. xs ++ record { thread = c.loop-thread.thread; lines = c.new.result } ∷ []) c.loop-thread.invariant
    ∙ ap (λ ls. all_scripts [] c.loop-thread.thread ++ record { thread = c.loop-thread.thread; lines = ls } ∷ []) c.new.ensures
    ∙ sym (all_scripts-more [] c.loop-thread.thread)
