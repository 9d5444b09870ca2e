use Rattle.std.proofs.Common.{◌≡◌, ◌∙◌, ◌+◌, ◌++◌, ◌∷◌, [], length, Some, ap, sym, arith}
use Rattle.bd_jobs.specs.Generated.{steps, step_commands, generated_commands, generated_scripts}
use Rattle.bd_jobs.proofs.GeneratedLemmas.{length-steps, length-generated}
use Rattle.bd_jobs.proofs.GeneratedReads.{reads_generated}
use Rattle.bd_jobs.proofs.ScriptLemmas.{lines_of, length-generated-none, length-generated-more, generated_scripts-more}
use Rattle.bd_jobs.proofs.generated.generated_scripts.Goals as goal

pub loop-thread-init : goal.loop-thread-init
loop-thread-init c = record { first = omega (arith, length-generated-none c.args.n); scripts = c.in_ok-scripts.ensures.items }

pub lines-requires : goal.lines-requires
lines-requires c =
    let size : length c.as_slice.result.now ≡ length (steps c.args.n) = ap length (c.as_slice.ensures.value ∙ c.in_ok-steps.ensures) in
    omega (arith, size, length-steps c.args.n c.requires.numbers, length-generated c.args.n c.loop-thread.thread c.requires.numbers)

pub overflow_cast-first : goal.overflow_cast-first
overflow_cast-first c =
    let size : c.len.result ≡ length (steps c.args.n) = omega (arith, ap length c.in_ok-steps.ensures) in
    omega (arith, size, length-steps c.args.n c.requires.numbers)

pub overflow_add-first : goal.overflow_add-first
overflow_add-first c =
    let size : c.len.result ≡ length (steps c.args.n) = omega (arith, ap length c.in_ok-steps.ensures) in
    omega (arith, size, length-steps c.args.n c.requires.numbers, length-generated c.args.n c.loop-thread.thread c.requires.numbers)

pub loop-thread-preserved : goal.loop-thread-preserved
loop-thread-preserved c =
    let size : c.len.result ≡ length (steps c.args.n) = omega (arith, ap length c.in_ok-steps.ensures) in
    let own : c.in_ok-lines.lines ≡ lines_of (step_commands c.loop-thread.thread (1 + length (generated_commands c.args.n c.loop-thread.thread)) (steps c.args.n)) =
    c.in_ok-lines.ensures
    ∙ ap (λ all. lines_of (step_commands c.loop-thread.thread c.loop-thread.first all)) (c.as_slice.ensures.value ∙ c.in_ok-steps.ensures)
    ∙ ap (λ first. lines_of (step_commands c.loop-thread.thread first (steps c.args.n))) c.loop-thread.invariant.first in
    record {
      first = omega (arith, size, length-generated-more c.args.n c.loop-thread.thread);
      scripts = c.in_ok-push.ensures.items
          ∙ ap (λ scripts. scripts ++ record { thread = c.loop-thread.thread; lines = c.in_ok-lines.lines } ∷ []) c.loop-thread.invariant.scripts
          ∙ ap (λ lines. generated_scripts c.args.n c.loop-thread.thread ++ record { thread = c.loop-thread.thread; lines = lines } ∷ []) own
          ∙ sym (generated_scripts-more c.args.n c.loop-thread.thread);
    }

pub returns-clause-read : goal.returns-clause-read
returns-clause-read c =
    let end : c.loop-thread.thread ≡ c.args.threads = omega arith in
    reads_generated c.args.n c.args.threads c.requires.numbers c.requires.threads
    ∙ ap Some (sym (c.from_vec.ensures ∙ c.loop-thread.invariant.scripts ∙ ap (generated_scripts c.args.n) end))
