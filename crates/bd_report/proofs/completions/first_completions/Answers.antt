use Rattle.bd_report.specs.Report.{completion_in}
use Rattle.bd_report.proofs.IndexLemmas.{noted}
use Rattle.bd_report.proofs.completions.first_completions.Goals as goal

pub loop-entry-preserved : goal.loop-entry-preserved
loop-entry-preserved c request =
    noted (completion_in request) c.args.trace.now c.loop-entry.entry-index c.entry-item.result c.loop-entry-test.true c.entry-item.is (c.in_ok-note_completion.ensures request) (c.loop-entry.invariant request)
