use Rattle.std.proofs.Common.{◌∙◌, ◌++◌, ap, sym, arith}
use Rattle.bd_jobs.specs.Generated.{steps, steps_text, generated}
use Rattle.bd_jobs.specs.ScriptGrammar.{scripts_of}
use Rattle.bd_jobs.proofs.GeneratedLemmas.{generated-none, generated-more}
use Rattle.bd_jobs.proofs.GeneratedReads.{reads_generated}
use Rattle.bd_jobs.proofs.generator.generate.Goals as goal

pub loop-thread-init : goal.loop-thread-init
loop-thread-init c = c.new-text.ensures.items ∙ sym (generated-none c.args.n)

pub loop-thread-preserved : goal.loop-thread-preserved
loop-thread-preserved c =
    c.in_ok-write_steps.ensures
    ∙ ap (λ all. c.loop-thread.text.items ++ steps_text c.loop-thread.thread all) (c.as_slice.ensures.value ∙ c.in_ok-steps.ensures)
    ∙ ap (λ text. text ++ steps_text c.loop-thread.thread (steps c.args.n)) c.loop-thread.invariant
    ∙ sym (generated-more c.args.n c.loop-thread.thread)

pub returns-clause-read : goal.returns-clause-read
returns-clause-read c =
    ap (scripts_of c.args.threads) (c.loop-thread.invariant ∙ ap (generated c.args.n) (omega arith)) ∙ reads_generated c.args.n c.args.threads c.requires.numbers c.requires.threads
