use Rattle.std.proofs.Common.{◌≡◌, ◌∙◌, ◌+◌, ◌<◌, sym, ap, arith, subst, List, length, Some}
use Rattle.bd_base.specs.declared.job.Script.{Script}
use Rattle.bd_jobs.specs.Words.{words_of}
use Rattle.bd_jobs.specs.Held.{lines_at}
use Rattle.bd_jobs.specs.ScriptGrammar.{words_command}
use Rattle.bd_jobs.proofs.ReadLemmas.{HasRead, begins, reads_bare, reads_command, holds_all, thread_below, is_too_long, is_no_command, names_first, ends}
use Rattle.bd_jobs.proofs.read.read_jobs.Goals as goal
use Rattle.bd_jobs.proofs.read.read_jobs.Goals.{then-not-is_bare+in_ok-command+in-Some-2+in_ok-add, else-not-is_bare}

pub loop-line-init : goal.loop-line-init
loop-line-init c =
    (begins c.args.threads c.args.bytes.now c.in_ok-scripts.scripts.items c.into_iter-line-iterator.result c.in_ok-scripts.ensures (c.into_iter-line-iterator.ensures.into_iter_gives ∙ c.lines-line-items.ensures.value), omega arith)

pub returns-then-at-gt-MAX_LINES-clause-line : goal.returns-then-at-gt-MAX_LINES-clause-line
returns-then-at-gt-MAX_LINES-clause-line c = λ number e.
    names_first c.args.threads c.args.bytes.now c.loop-line.at number
    (is_too_long c.args.threads c.args.bytes.now c.loop-line.scripts.items c.loop-line.at c.loop-line.line-iterator c.next.new.self c.in-Some.line.now c.loop-line.invariant.0 c.in-Some.ensures.steps (omega arith))
    e

pub returns-then-at-gt-MAX_LINES-clause-text : goal.returns-then-at-gt-MAX_LINES-clause-text
returns-then-at-gt-MAX_LINES-clause-text c = λ number e.
    (is_too_long c.args.threads c.args.bytes.now c.loop-line.scripts.items c.loop-line.at c.loop-line.line-iterator c.next.new.self c.in-Some.line.now c.loop-line.invariant.0 c.in-Some.ensures.steps (omega arith)).whole

pub returns-in_default-clause-line : goal.returns-in_default-clause-line
returns-in_default-clause-line c = λ number e.
    names_first c.args.threads c.args.bytes.now c.loop-line.at number
    (is_no_command c.args.threads c.args.bytes.now c.loop-line.scripts.items c.loop-line.at c.loop-line.line-iterator c.next.new.self c.in-Some.line.now c.loop-line.invariant.0
    (omega arith) c.in-Some.ensures.steps (sym c.if-not-is_bare.ensures) (ap (λ scripts. words_command c.args.threads (lines_at scripts) c.loop-line.at (words_of c.in-Some.line.now)) (sym c.as_slice.ensures.value) ∙ sym c.in_ok-command.ensures ∙ c.in_default.is))
    e

pub returns-in_default-clause-text : goal.returns-in_default-clause-text
returns-in_default-clause-text c = λ number e.
    (is_no_command c.args.threads c.args.bytes.now c.loop-line.scripts.items c.loop-line.at c.loop-line.line-iterator c.next.new.self c.in-Some.line.now c.loop-line.invariant.0
    (omega arith) c.in-Some.ensures.steps (sym c.if-not-is_bare.ensures) (ap (λ scripts. words_command c.args.threads (lines_at scripts) c.loop-line.at (words_of c.in-Some.line.now)) (sym c.as_slice.ensures.value) ∙ sym c.in_ok-command.ensures ∙ c.in_default.is)).whole

pub add-requires : goal.add-requires
add-requires c =
    let below : c.in-Some-2.command.thread < c.args.threads = thread_below c.args.threads c.loop-line.at (lines_at c.as_slice.result.now) (words_of c.in-Some.line.now) c.in-Some-2.command (sym c.in_ok-command.ensures ∙ c.in-Some-2.is) in
    let all : length c.loop-line.scripts.items ≡ c.args.threads = holds_all c.args.threads c.args.bytes.now c.loop-line.scripts.items c.loop-line.at c.loop-line.line-iterator c.loop-line.invariant.0 in
    omega arith

pub loop-line-preserved : goal.loop-line-preserved
loop-line-preserved c =
    let P : List Script → Type 0 = λ scripts. HasRead c.args.threads c.args.bytes.now scripts (c.loop-line.at + 1) c.next.new.self in
    elim c.if-not-is_bare.branch [
      | then-not-is_bare+in_ok-command+in-Some-2+in_ok-add w ↦ (
        reads_command c.args.threads c.args.bytes.now c.loop-line.scripts.items c.if-not-is_bare.scripts.items c.loop-line.at c.loop-line.line-iterator c.next.new.self c.in-Some.line.now w.in-Some-2.command
            c.loop-line.invariant.0 (omega arith) c.in-Some.ensures.steps (sym w.if-not-is_bare.ensures)
            (ap (λ scripts. words_command c.args.threads (lines_at scripts) c.loop-line.at (words_of c.in-Some.line.now)) (sym w.as_slice.ensures.value) ∙ sym w.in_ok-command.ensures ∙ w.in-Some-2.is)
            (λ commands n held. ap (λ v. v.items) w.scripts-is ∙ w.in_ok-add.ensures commands n held),
        omega arith,
      )
      | else-not-is_bare w ↦ (
        subst P (sym (ap (λ v. v.items) w.scripts-is))
            (reads_bare c.args.threads c.args.bytes.now c.loop-line.scripts.items c.loop-line.at c.loop-line.line-iterator c.next.new.self c.in-Some.line.now
            c.loop-line.invariant.0 (omega arith) c.in-Some.ensures.steps (sym w.if-not-is_bare.ensures)),
        omega arith,
      )
    ]

pub returns-clause-ok : goal.returns-clause-ok
returns-clause-ok c =
    ends c.args.threads c.args.bytes.now c.loop-line.scripts.items c.loop-line.at c.loop-line.line-iterator c.loop-line.invariant.0 c.in-None.ensures.steps.0 ∙ ap Some (sym c.with_lines.ensures)
