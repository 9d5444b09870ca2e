use Rattle.std.proofs.Common.{◌≡◌, ◌<◌, ◌+◌, ◌++◌, ◌==◌, ◌&&◌, [], ap, sym, ◌∙◌, length, get_or, map, filter, take, if◌then◌else◌, arith}
use Rattle.std.specs.List.{cons_option}
use Rattle.bd_report.specs.Handles.{as_handle}
use Rattle.bd_report.specs.Report.{is_script, lines_done, opened_in, was_removed}
use Rattle.bd_report.proofs.HandleLemmas.{opened_more, few_done, done_more}
use Rattle.bd_report.proofs.handles.removed_handles.Goals as goal

pub note_line-requires : goal.note_line-requires
note_line-requires c =
    let thread = c.entry-item.result.thread in
    omega (arith, c.loop-entry.invariant.done thread, few_done c.args.index.now thread c.loop-entry.entry-index)

pub loop-entry-preserved : goal.loop-entry-preserved
loop-entry-preserved c =
    let scripts = c.args.scripts.now in
    let trace = c.args.index.now in
    let i = c.loop-entry.entry-index in
    let x = c.entry-item.result in
    let low : i < length trace = omega (arith, c.loop-entry-test.true, ap length c.trace-entry-items.ensures) in
    let at : x ≡ get_or trace i x = c.entry-item.is ∙ ap (λ es. get_or es i x) c.trace-entry-items.ensures in
    let before = map as_handle c.loop-entry.handles.items in
    record {
      handles =
          c.in_ok-note_handle.ensures ∙
          ap (λ o. before ++ filter (was_removed trace) (cons_option o [])) c.opened_in.ensures ∙
          ap (λ n. before ++ filter (was_removed trace) (cons_option (opened_in scripts n x) [])) (c.loop-entry.invariant.done x.thread) ∙
          ap (λ l. l ++ filter (was_removed trace) (cons_option (opened_in scripts (lines_done (take i trace) x.thread) x) [])) c.loop-entry.invariant.handles ∙
          sym (opened_more (was_removed trace) scripts trace i x low at);
      done = λ thread.
          c.in_ok-note_line.ensures thread ∙
          ap (λ n. if (x.thread == thread) && is_script x.act then n + 1 else n) (c.loop-entry.invariant.done thread) ∙
          sym (done_more trace thread i x low at);
    }
