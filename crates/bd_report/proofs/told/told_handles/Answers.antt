use Rattle.std.proofs.Common.{ap, sym, ◌∙◌, ◌||◌, ◌&&◌, not, nat_eq, take}
use Rattle.std.specs.HashSet.{contains}
use Rattle.std.specs.List.{list_any}
use Rattle.std.proofs.lemmas.List.Folds.{list_any_more}
use Rattle.bd_report.specs.Report.{is_told, is_closed, was_told}
use Rattle.bd_report.proofs.HandleLemmas.{told_more}
use Rattle.bd_report.proofs.told.told_handles.Goals as goal

pub loop-entry-preserved : goal.loop-entry-preserved
loop-entry-preserved c =
    let trace = c.args.trace.now in
    let i = c.loop-entry.entry-index in
    let x = c.entry-item.result in
    record {
      told = λ thread number.
          c.in_ok-note_told.ensures thread number ∙
          ap (λ b. b || (not (contains nat_eq c.loop-entry.closed number) && is_told thread number x)) (c.loop-entry.invariant.told thread number) ∙
          ap (λ b. was_told (take i trace) thread number || (not b && is_told thread number x)) (c.loop-entry.invariant.closed number) ∙
          sym (told_more thread number trace i x c.loop-entry-test.true c.entry-item.is);
      closed = λ number.
          c.in_ok-note_closed.ensures number ∙
          ap (λ b. b || is_closed number x) (c.loop-entry.invariant.closed number) ∙
          ap (λ e. list_any (is_closed number) (take i trace) || is_closed number e) c.entry-item.is ∙
          sym (list_any_more (is_closed number) trace i x c.loop-entry-test.true);
    }
